-- What holds of decisions on every family of sets.
use Rattle.std.specs.Prelude.{◌≡◌, ◌↔◌, ℕ, Bool, true, false, not, ◌&&◌, List, Some, is_some}
use Rattle.std.specs.List.{list_any}
use Rattle.uvl_semantics.specs.Family.{Family, IsOfSets, is_void}
use Rattle.uvl_decisions.specs.Decisions.{Decision, opposite, agrees_with, agrees, agreeing, is_offered, is_forced}
use Rattle.uvl_decisions.specs.Explanation.{explanation, without_one}
use Rattle.uvl_decisions.specs.Deciding.{decide_answer, decided}
use Rattle.uvl_decisions.specs.Opening.{open_answer, opened}
use Rattle.uvl_decisions.specs.Retracting.{retract_answer, retracted}
use Rattle.uvl_decisions.specs.Session.{Session, decisions_of, close}

-- a value is forced exactly where each set of the family that agrees with the decisions has it
abbrev pub ForcedIsInEachSet : Type 0
ForcedIsInEachSet =
    (family : Family) (decisions : List Decision) (asked : Decision) → IsOfSets family →
    (is_forced family decisions asked ≡ true)
    ↔ ((set : List (List ℕ)) → family.contains set ≡ true → agrees set decisions ≡ true → agrees_with set asked ≡ true)

-- and not offered exactly where none has it
abbrev pub OfferedIsInSomeSet : Type 0
OfferedIsInSomeSet =
    (family : Family) (decisions : List Decision) (asked : Decision) → IsOfSets family →
    (is_offered family decisions asked ≡ false)
    ↔ ((set : List (List ℕ)) → family.contains set ≡ true → agrees set decisions ≡ true → agrees_with set asked ≡ false)

-- a value is forced exactly where the other isn't offered
abbrev pub ForcedIsNotOfferedOtherwise : Type 0
ForcedIsNotOfferedOtherwise =
    (family : Family) (decisions : List Decision) (asked : Decision) →
    is_forced family decisions asked ≡ not (is_offered family decisions (opposite asked))

-- where some set agrees with the decisions, one value of each feature at most is forced
abbrev pub NeverBothAreForced : Type 0
NeverBothAreForced =
    (family : Family) (decisions : List Decision) (asked : Decision) → IsOfSets family →
    is_void (agreeing family decisions) ≡ false →
    (is_forced family decisions asked && is_forced family decisions (opposite asked)) ≡ false

-- an explanation forces the value
abbrev pub ExplanationsForce : Type 0
ExplanationsForce =
    (family : Family) (decisions because : List Decision) (asked : Decision) →
    explanation family decisions asked ≡ Some because → is_forced family because asked ≡ true

-- there is one exactly where the decisions force the value
abbrev pub NoneIsForWhatIsNotForced : Type 0
NoneIsForWhatIsNotForced =
    (family : Family) (decisions : List Decision) (asked : Decision) → IsOfSets family →
    is_some (explanation family decisions asked) ≡ is_forced family decisions asked

-- without any one of its members an explanation doesn't force the value
abbrev pub ExplanationsAreLeast : Type 0
ExplanationsAreLeast =
    (family : Family) (decisions because : List Decision) (asked : Decision) →
    explanation family decisions asked ≡ Some because →
    list_any (λ part. is_forced family part asked) (without_one because) ≡ false

-- some set of the family agrees with the decisions of a session
abbrev pub HasASet : Family → Session → Type 0
HasASet family session = is_void (agreeing family (decisions_of session)) ≡ false

-- a session that is opened has such a set, and with it what is decided, retracted and closed
pub record SessionsKeepASet : Type 0 where
  pub opening : (family : Family) (is_there : Bool) (count : ℕ) (after : Session) → IsOfSets family →
      open_answer family is_there count ≡ opened after → HasASet family after
  pub deciding : (family : Family) (session after : Session) (asked : Decision) → IsOfSets family →
      HasASet family session → decide_answer family session asked ≡ decided after → HasASet family after
  pub retracting : (family : Family) (session after : Session) (feature : List ℕ) → IsOfSets family →
      HasASet family session → retract_answer family session feature ≡ retracted after → HasASet family after
  pub closing : (family : Family) (session : Session) → HasASet family session → HasASet family (close session)
