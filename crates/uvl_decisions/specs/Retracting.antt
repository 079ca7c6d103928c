-- How a retraction is answered: the first of the answers whose case holds. This project's own.
use Rattle.std.specs.Prelude.{ℕ, not, List, if◌then◌else◌}
use Rattle.std.specs.List.{filter}
use Rattle.std.specs.Str.{bytes_eq}
use Rattle.uvl_semantics.specs.Family.{Family}
use Rattle.uvl_semantics.specs.Product.{has}
use Rattle.uvl_decisions.specs.Decisions.{Decision}
use Rattle.uvl_decisions.specs.Session.{Session, decides}

-- the answers
pub data Retracted : Type 0 where
  unknown_feature is_closed not_decided : Retracted
  retracted : (after : Session) → Retracted

-- the decisions that aren't on a feature, in their order
abbrev pub without : List Decision → List ℕ → List Decision
without decisions feature = filter (λ decision. not (bytes_eq decision.feature feature)) decisions

-- only what stands can be retracted
abbrev pub retract_answer : Family → Session → List ℕ → Retracted
retract_answer family session feature =
    if not (has family.names feature) then unknown_feature else
    if decides session.closed feature then is_closed else
    if decides session.standing feature
    then retracted (record { closed = session.closed; standing = without session.standing feature })
    else not_decided
