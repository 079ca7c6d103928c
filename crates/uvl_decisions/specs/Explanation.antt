-- Why a value is forced: the least of the decisions that force it. This project's own.
use Rattle.std.specs.Prelude.{Bool, List, [], ◌∷◌, ◌++◌, map, Option, Some, None, if◌then◌else◌}
use Rattle.uvl_semantics.specs.Family.{Family}
use Rattle.uvl_decisions.specs.Decisions.{Decision, is_forced}

-- all parts of a list, each in its order. Told by rows of marks, false for what is dropped and true for what is kept,
-- they stand in dictionary order.
abbrev pub parts_of : {A : Type 0} → List A → List (List A)
parts_of [] = [] ∷ []
parts_of (first ∷ rest) = parts_of rest ++ map (λ part. first ∷ part) (parts_of rest)

-- the first that passes a test
abbrev pub first_with : {A : Type 0} → (A → Bool) → List A → Option A
first_with test [] = None
first_with test (item ∷ items) = if test item then Some item else first_with test items

-- the first part of the decisions, oldest first, that forces the value
abbrev pub explanation : Family → List Decision → Decision → Option (List Decision)
explanation family decisions asked = first_with (λ part. is_forced family part asked) (parts_of decisions)

-- a list without one of its members, for each member
abbrev pub without_one : {A : Type 0} → List A → List (List A)
without_one [] = []
without_one (first ∷ rest) = rest ∷ map (λ part. first ∷ part) (without_one rest)
