-- How the question why a feature has its value is answered. This project's own.
use Rattle.std.specs.Prelude.{ℕ, Bool, true, false, not, List, Option, Some, None, if◌then◌else◌}
use Rattle.uvl_semantics.specs.Family.{Family}
use Rattle.uvl_semantics.specs.Product.{has}
use Rattle.uvl_decisions.specs.Decisions.{Decision}
use Rattle.uvl_decisions.specs.Explanation.{explanation}
use Rattle.uvl_decisions.specs.Session.{Session, decisions_of}

-- the answers
pub data Reasons : Type 0 where
  unknown_feature not_forced : Reasons
  forced : (value : Bool) (because : List Decision) → Reasons

-- the value that has an explanation, with it
abbrev pub first_forced : (for_yes for_no : Option (List Decision)) → Reasons
first_forced (Some because) for_no = forced true because
first_forced None (Some because) = forced false because
first_forced None None = not_forced

-- why a feature has its value
abbrev pub why_answer : Family → Session → List ℕ → Reasons
why_answer family session feature =
    if not (has family.names feature) then unknown_feature else
    first_forced (explanation family (decisions_of session) (record { feature = feature; value = true }))
    (explanation family (decisions_of session) (record { feature = feature; value = false }))
