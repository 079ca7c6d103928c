-- How many nodes functions need over an order, counted without a table (Bryant 1986): their different cofactors.
use Rattle.std.specs.Prelude.{ℕ, suc, Bool, true, false, not, ◌&&◌, ◌||◌, List, [], ◌∷◌, ◌++◌, filter, flat_map}
use Rattle.std.specs.Prelude.{Option, Some, None, slice_get}
use Rattle.std.specs.Bool.{beq}
use Rattle.std.specs.Set.{distinct_count}
use Prim.Native.Nat.{zero}
use Rattle.dd_store.specs.declared.row.Var.{Var}
use Rattle.dd_store.specs.Follow.{with_value}

-- what gives each assignment a value
abbrev pub Function : Type 0
Function = (ℕ → Bool) → Bool

-- a function with the value of one variable fixed
abbrev pub fixed : Function → ℕ → Bool → Function
fixed f v b a = f (with_value a v b)

-- what a function gives by fixing the first i variables of the order, for each i and all values
abbrev pub cofactors : List Var → Function → List Function
cofactors [] f = f ∷ []
cofactors (v ∷ vs) f = f ∷ (cofactors vs (fixed f v.0 false) ++ cofactors vs (fixed f v.0 true))

-- what it gives by fixing exactly the first i
abbrev pub cofactors_at : ℕ → List Var → Function → List Function
cofactors_at zero order f = f ∷ []
cofactors_at (suc i) [] f = []
cofactors_at (suc i) (v ∷ vs) f = cofactors_at i vs (fixed f v.0 false) ++ cofactors_at i vs (fixed f v.0 true)

-- whether two functions have one value, whatever the values of the order's variables are
abbrev pub alike : List Var → Function → Function → Bool
alike [] f g = beq (f (λ _. false)) (g (λ _. false))
alike (v ∷ vs) f g = alike vs (fixed f v.0 false) (fixed g v.0 false) && alike vs (fixed f v.0 true) (fixed g v.0 true)

-- whether a function is constant
abbrev pub is_constant : List Var → Function → Bool
is_constant order f = alike order f (λ _. false) || alike order f (λ _. true)

-- what the functions of a list give by fixing the first i variables, for each i, without what is constant
abbrev pub parts : List Var → List Function → List Function
parts order fs = filter (λ f. not (is_constant order f)) (flat_map (cofactors order) fs)

-- How many different functions, without the two constants, are got from a function of the list by fixing the first i
-- variables.
abbrev pub size : List Var → List Function → ℕ
size order fs = distinct_count (alike order) (parts order fs)

-- whether a function depends on a variable
abbrev pub depends_on : List Var → ℕ → Function → Bool
depends_on order v f = not (alike order (fixed f v false) (fixed f v true))

-- the functions of the list that depend on the variable, where there is one
abbrev pub dependent : List Var → Option Var → List Function → List Function
dependent order None fs = []
dependent order (Some v) fs = filter (depends_on order v.0) fs

-- How many different functions are got by fixing exactly the first i variables and depend on the next one.
abbrev pub level_size : List Var → List Function → ℕ → ℕ
level_size order fs i =
    distinct_count (alike order) (dependent order (slice_get order i) (flat_map (cofactors_at i order) fs))
