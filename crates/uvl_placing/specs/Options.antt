-- Values of which some may not be there.
use Rattle.std.specs.Prelude.{List, [], ◌∷◌, ◌++◌, Option, Some, None}

-- what is made of two values, where both are there
abbrev pub of_both : {A B C : Type 0} → (A → B → C) → Option A → Option B → Option C
of_both make None second = None
of_both make (Some first) None = None
of_both make (Some first) (Some second) = Some (make first second)

-- the values, where all are there
abbrev pub all_of : {A : Type 0} → List (Option A) → Option (List A)
all_of [] = Some []
all_of (first ∷ rest) = of_both (λ value values. value ∷ values) first (all_of rest)

-- the lists behind one another, where all are there
abbrev pub joined : {A : Type 0} → List (Option (List A)) → Option (List A)
joined [] = Some []
joined (first ∷ rest) = of_both (λ values others. values ++ others) first (joined rest)

-- the value at a position that may not be known, where it is there
abbrev pub known : {A : Type 0} → Option (Option A) → Option A
known None = None
known (Some value) = value
