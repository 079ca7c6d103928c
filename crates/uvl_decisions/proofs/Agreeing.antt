-- The sets that agree with decisions are a family of sets.
use Rattle.std.proofs.Common.{◌≡◌, ℕ, List, [], ◌∷◌, refl, ap}
use Rattle.std.specs.Bool.{beq}
use Rattle.std.specs.Prelude.{not}
use Rattle.std.proofs.lemmas.Bool.{and_parts}
use Rattle.uvl_semantics.specs.Family.{Family, IsTestOfSets, IsOfSets}
use Rattle.uvl_semantics.specs.Product.{has}
use Rattle.uvl_decisions.specs.Decisions.{Decision, agrees_with, agrees, agreeing}

module _ (first second : List (List ℕ)) (same : (name : List ℕ) → has first name ≡ has second name) where
  agrees_with-same : (decision : Decision) → agrees_with first decision ≡ agrees_with second decision
  agrees_with-same decision = ap (λ b. beq b decision.value) (same decision.feature)

  agrees-same : (decisions : List Decision) → agrees first decisions ≡ agrees second decisions
  agrees-same [] = refl
  agrees-same (decision ∷ decisions) = rw (agrees_with-same decision, agrees-same decisions) refl

-- whether a set agrees with one more is a test of sets
pub agrees_with-IsTestOfSets : (asked : Decision) → IsTestOfSets (λ set. agrees_with set asked)
agrees_with-IsTestOfSets asked first second same = agrees_with-same first second same asked

pub disagrees-IsTestOfSets : (asked : Decision) → IsTestOfSets (λ set. not (agrees_with set asked))
disagrees-IsTestOfSets asked first second same = ap not (agrees_with-same first second same asked)

pub agreeing-IsOfSets : (family : Family) (decisions : List Decision) → IsOfSets family → IsOfSets (agreeing family decisions)
agreeing-IsOfSets family decisions sets = record {
  by_members = λ first second same. rw (sets.by_members first second same, agrees-same first second same decisions) refl;
  named = λ set here. sets.named set (and_parts (family.contains set) (agrees set decisions) here).0;
}
