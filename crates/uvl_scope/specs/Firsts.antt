-- What comes first: each thing in its order is looked at beside those in front of it.
use Rattle.std.specs.Prelude.{ℕ, Bool, List, [], ◌∷◌, ◌++◌, Option, Some, None, if◌then◌else◌}
use Rattle.std.specs.Option.{option_or}
use Rattle.std.specs.Str.{bytes_eq}

-- the thing, where the test holds
abbrev pub when : {A : Type 0} → Bool → A → Option A
when test thing = if test then Some thing else None

-- the first that is there
abbrev pub first_of : {A : Type 0} → List (Option A) → Option A
first_of [] = None
first_of (answer ∷ answers) = option_or answer (first_of answers)

-- the first answer that the elements of a list give, each asked with those in front of it
abbrev pub first_along : {A B : Type 0} → (List A → A → Option B) → List A → List A → Option B
first_along ask front [] = None
first_along ask front (x ∷ xs) = option_or (ask front x) (first_along ask (front ++ x ∷ []) xs)

-- what stands beside the first such name
abbrev pub beside : {A : Type 0} → List ℕ → List (List ℕ) → List A → Option A
beside name [] things = None
beside name (first ∷ names) [] = None
beside name (first ∷ names) (thing ∷ things) = if bytes_eq name first then Some thing else beside name names things
