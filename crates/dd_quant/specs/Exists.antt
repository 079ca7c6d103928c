-- A function without some of its variables: it is true where some values of these make it so.
use Rattle.std.specs.Prelude.{◌≡◌, ℕ, ◌||◌, Bool, true, false, List, [], ◌∷◌}
use Rattle.dd_store.specs.declared.row.Var.{Var}
use Rattle.dd_store.specs.Order.{IsIn}
use Rattle.dd_store.specs.Size.{Function, fixed}

-- the function is true for one of the values of the variable
abbrev pub without : ℕ → Function → Function
without v f a = fixed f v false a || fixed f v true a

-- the same of several variables, one after the other
abbrev pub exists_over : List Var → Function → Function
exists_over [] f = f
exists_over (v ∷ vs) f = exists_over vs (without v.0 f)

-- two assignments give each variable that isn't in the list the same value
abbrev pub AgreeOutside : List Var → (ℕ → Bool) → (ℕ → Bool) → Type 0
AgreeOutside vs a b = (w : ℕ) → ¬ IsIn vs w → b w ≡ a w

-- some other values of the variables make the function true
abbrev pub IsTrueFor : List Var → Function → (ℕ → Bool) → Type 0
IsTrueFor vs f a = (b : ℕ → Bool) × AgreeOutside vs a b × (f b ≡ true)

-- What is wanted at a time for one variable: the function, this with the variable no and with it yes, and the function
-- without it.
abbrev pub without_group : ℕ → Function → List Function
without_group v f = f ∷ fixed f v false ∷ fixed f v true ∷ without v f ∷ []

-- and for several, one after the other
abbrev pub exists_groups : List Var → Function → List (List Function)
exists_groups [] f = []
exists_groups (v ∷ vs) f = without_group v.0 f ∷ exists_groups vs (without v.0 f)
