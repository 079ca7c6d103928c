-- How a decision is answered: the first of the answers whose case holds. This project's own.
use Rattle.std.specs.Prelude.{not, List, [], ◌∷◌, ◌++◌, Option, Some, None, if◌then◌else◌}
use Rattle.uvl_semantics.specs.Family.{Family}
use Rattle.uvl_semantics.specs.Product.{has}
use Rattle.uvl_decisions.specs.Decisions.{Decision, opposite}
use Rattle.uvl_decisions.specs.Explanation.{explanation}
use Rattle.uvl_decisions.specs.Session.{Session, decisions_of, decides}

-- the answers
pub data Decided : Type 0 where
  unknown_feature is_closed is_decided : Decided
  conflict : (because : List Decision) → Decided
  decided : (after : Session) → Decided

-- where the other value isn't forced, the decision stands as the newest
abbrev pub unless_forced : Session → Decision → Option (List Decision) → Decided
unless_forced session asked (Some because) = conflict because
unless_forced session asked None = decided (record { closed = session.closed; standing = session.standing ++ asked ∷ [] })

-- a conflict is a value whose opposite is forced
abbrev pub decide_answer : Family → Session → Decision → Decided
decide_answer family session asked =
    if not (has family.names asked.feature) then unknown_feature else
    if decides session.closed asked.feature then is_closed else
    if decides session.standing asked.feature then is_decided else
    unless_forced session asked (explanation family (decisions_of session) (opposite asked))
