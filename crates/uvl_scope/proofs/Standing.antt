-- Texts that may stand in a name.
use Rattle.std.proofs.Common.{◌≡◌, ℕ, Bool, List, ◌++◌, ap, sym, ◌∙◌, subst, IsTrue, String, string_bytes}
use Rattle.std.specs.Prelude.{◌&&◌, not, ◌==◌, chars, length}
use Rattle.std.specs.List.{list_all}
use Rattle.std.proofs.lemmas.Bool.{and_parts}
use Rattle.std.proofs.lemmas.List.Folds.{list_all-append}
use Rattle.uvl_base.specs.Name.{is_name, may_stand_in_name}
use Rattle.uvl_scope.specs.Spelling.{MayStandInName}
use Rattle.uvl_scope.proofs.Dotting.{pushed}

-- two texts behind one another may, where both may
both_stand : (front behind : List ℕ) → MayStandInName front → MayStandInName behind → MayStandInName (front ++ behind)
both_stand front behind h k = list_all-append may_stand_in_name front behind ∙ ap (λ (b : Bool). b && list_all may_stand_in_name behind) h ∙ k

-- so may a name
pub name_stands : (name : List ℕ) → IsTrue (is_name name) → MayStandInName name
name_stands name is = (and_parts (not (length name == 0)) (list_all may_stand_in_name name) is).1

-- a text with more behind it may, where both may
pub behind_stands : {Z : Type 0} (text new : String Z) (bytes cs : List ℕ) → string_bytes new ≡ string_bytes text ++ bytes → chars bytes ≡ cs
    → MayStandInName cs → MayStandInName (chars (string_bytes text)) → MayStandInName (chars (string_bytes new))
behind_stands text new bytes cs h k here old = subst MayStandInName (sym (pushed text new bytes cs h k)) (both_stand (chars (string_bytes text)) cs old here)
