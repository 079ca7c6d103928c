-- What holds where no fault is found.
use Rattle.std.proofs.Common.{◌≡◌, ℕ, ◌≤◌, Bool, true, false, List, [], ◌∷◌, Option, Some, None, refl, sym, arith}
use Rattle.std.specs.Prelude.{◌||◌, ◌&&◌, nat_lt}
use Rattle.std.specs.List.{All}
use Rattle.std.specs.Option.{option_or, option_map}
use Rattle.std.proofs.lemmas.Bool.{false≢true}
use Rattle.std.proofs.lemmas.Bool.Decides.{nat_tests}
use Rattle.std.proofs.lemmas.List.Elements.{All-nil, All-cons}
use Rattle.uvl_base.specs.declared.fault.FaultKind.TheVariants.{UnknownFeature, PlacedTwice, BodyOnPlacedImport, TooDeep, DuplicateFeature, DuplicateAttribute, TooManyFeatures, TooManyRules}
use Rattle.uvl_base.specs.declared.place.Place.{Place}
use Rattle.uvl_scope.specs.Brought.{Brought, Placing, brought_by, together}
use Rattle.uvl_scope.specs.Firsts.{when, first_of}
use Rattle.uvl_scope.specs.Keys.{repeated_key}
use Rattle.uvl_scope.specs.LineFaults.{finding, places_nothing, is_placed_again, has_body, is_too_deep, has_known_name, is_too_large, has_too_many_rules, fault_of_feature, fault_behind}
use Rattle.uvl_scope.specs.Lines.{FeatureLine, Line, of_feature, of_group}
use Rattle.uvl_scope.specs.steps.Walk.{fault_from}

-- neither of two answers is there
pub neither : {A : Type 0} (first second : Option A) → option_or first second ≡ None → (first ≡ None) × (second ≡ None)
neither None second h = (refl, h)
neither (Some x) second h = (cc h)

-- a test fails
pub fails : {A : Type 0} (test : Bool) (thing : A) → when test thing ≡ None → test ≡ false
fails false thing h = refl
fails true thing h = (cc h)

pub none_mapped : {A B : Type 0} (f : A → B) (answer : Option A) → option_map f answer ≡ None → answer ≡ None
none_mapped f None h = refl
none_mapped f (Some x) h = (cc h)

-- both tests fail
pub fail_both : (first second : Bool) → (first || second) ≡ false → (first ≡ false) × (second ≡ false)
fail_both false second h = (refl, h)
fail_both true second h = absurd (false≢true (sym h))

-- the second test fails where the first does not
pub fails_second : (first second : Bool) → (first && second) ≡ false → first ≡ true → second ≡ false
fails_second true second h is = h
fails_second false second h is = absurd (false≢true is)

-- a number that is not less
pub not_less : (a b : ℕ) → nat_lt a b ≡ false → b ≤ a
not_less a b h = grind (arith, nat_tests)

-- a line places a file where it is to, and then nothing stands below it
pub record PlacesOne (placing : Placing) (line : FeatureLine) : Type 0 where
  pub one : places_nothing placing line ≡ false
  pub bare : has_body line ≡ false

abbrev pub IsPlaced : Placing → Line → Type 0
IsPlaced placing (of_feature line) = PlacesOne placing line
IsPlaced placing (of_group line) = Unit {0}

-- what is not wrong with a feature line
pub record IsFine (nothing body deep known large many : Bool) : Type 0 where
  pub one : nothing ≡ false
  pub bare : body ≡ false
  pub shallow : deep ≡ false
  pub new : known ≡ false
  pub small : large ≡ false
  pub few : many ≡ false

tests_fail : (nothing again body deep known large many : Bool) (key : Option Place) (place : Place)
    → first_of (when nothing (finding UnknownFeature place) ∷ when again (finding PlacedTwice place) ∷ when body (finding BodyOnPlacedImport place)
    ∷ when deep (finding TooDeep place) ∷ when known (finding DuplicateFeature place) ∷ option_map (finding DuplicateAttribute) key
    ∷ when large (finding TooManyFeatures place) ∷ when many (finding TooManyRules place) ∷ []) ≡ None
    → IsFine nothing body deep known large many
tests_fail true again body deep known large many key place h = (cc h)
tests_fail false true body deep known large many key place h = (cc h)
tests_fail false false true deep known large many key place h = (cc h)
tests_fail false false false true known large many key place h = (cc h)
tests_fail false false false false true large many key place h = (cc h)
tests_fail false false false false false large many (Some at) place h = (cc h)
tests_fail false false false false false true many None place h = (cc h)
tests_fail false false false false false false true None place h = (cc h)
tests_fail false false false false false false false None place h = record { one = refl; bare = refl; shallow = refl; new = refl; small = refl; few = refl }

pub line_is_fine : (placing : Placing) (before brought : Brought) (line : FeatureLine) → fault_of_feature placing before brought line ≡ None
    → IsFine (places_nothing placing line) (has_body line) (is_too_deep brought line) (has_known_name before brought) (is_too_large before brought)
    (has_too_many_rules before brought line)
line_is_fine placing before brought line h =
    tests_fail (places_nothing placing line) (is_placed_again before line) (has_body line) (is_too_deep brought line) (has_known_name before brought)
    (is_too_large before brought) (has_too_many_rules before brought line) (repeated_key line.attributes) line.reference.place h

is_placed : (placing : Placing) (before : Brought) (line : Line) → fault_behind placing before line ≡ None → IsPlaced placing line
is_placed placing before (of_group line) h = tt
is_placed placing before (of_feature line) h =
    let fine = line_is_fine placing before (brought_by placing (of_feature line)) line h in
    record { one = fine.one; bare = fine.bare }

pub all_placed : (placing : Placing) (before : Brought) (lines : List Line) → fault_from placing before lines ≡ None → All (IsPlaced placing) lines
all_placed placing before [] h = All-nil (IsPlaced placing)
all_placed placing before (line ∷ lines) h =
    let parts = neither (fault_behind placing before line) (fault_from placing (together before (brought_by placing line)) lines) h in
    All-cons (IsPlaced placing) line lines (is_placed placing before line parts.0) (all_placed placing (together before (brought_by placing line)) lines parts.1)
