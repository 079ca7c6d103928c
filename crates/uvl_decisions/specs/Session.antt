-- A configuration session (staged configuration after Czarnecki, Helsen and Eisenecker): some decisions are closed, made
-- for good in earlier stages, and the others stand.
use Rattle.std.specs.Prelude.{ℕ, Bool, true, false, List, [], ◌∷◌, ◌++◌, map, Option, Some, None, if◌then◌else◌}
use Rattle.std.specs.List.{list_any}
use Rattle.std.specs.Str.{bytes_eq}
use Rattle.uvl_semantics.specs.Family.{Family}
use Rattle.uvl_decisions.specs.Decisions.{Decision, is_forced}

-- both oldest first
pub record Session : Type 0 where
  pub closed : List Decision
  pub standing : List Decision

-- a session without decisions
abbrev pub fresh : Session
fresh = record { closed = []; standing = [] }

-- all decisions, oldest first
abbrev pub decisions_of : Session → List Decision
decisions_of session = session.closed ++ session.standing

-- closing a stage makes all standing decisions closed
abbrev pub close : Session → Session
close session = record { closed = decisions_of session; standing = [] }

-- some decision is on the feature
abbrev pub decides : List Decision → List ℕ → Bool
decides decisions feature = list_any (λ decision. bytes_eq decision.feature feature) decisions

-- the value that the first decision on a feature gives it
abbrev pub decided_value : List Decision → List ℕ → Option Bool
decided_value [] feature = None
decided_value (decision ∷ decisions) feature =
    if bytes_eq decision.feature feature then Some decision.value else decided_value decisions feature

-- where a feature stands in a session: decided in an earlier stage, decided in this one, forced by the decisions, or free
pub data Choice : Type 0 where
  closed chosen forced : (value : Bool) → Choice
  free : Choice

-- what stands first of these, and free where nothing does
abbrev pub first_choice : (closed_value chosen_value : Option Bool) (forced_yes forced_no : Bool) → Choice
first_choice (Some value) chosen_value forced_yes forced_no = closed value
first_choice None (Some value) forced_yes forced_no = chosen value
first_choice None None true forced_no = forced true
first_choice None None false true = forced false
first_choice None None false false = free

-- where a feature stands
abbrev pub choice_of : Family → Session → List ℕ → Choice
choice_of family session feature =
    first_choice (decided_value session.closed feature) (decided_value session.standing feature)
    (is_forced family (decisions_of session) (record { feature = feature; value = true }))
    (is_forced family (decisions_of session) (record { feature = feature; value = false }))

-- and each of them, in the family's order
abbrev pub choices_of : Family → Session → List Choice
choices_of family session = map (choice_of family session) family.names
