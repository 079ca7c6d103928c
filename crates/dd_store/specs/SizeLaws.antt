-- Laws of the number of nodes that functions need.
use Rattle.std.specs.Prelude.{◌≡◌, ℕ, ◌<◌, ◌≤◌, ◌*◌, ◌^◌, Bool, false, nat_eq, nat_le, Option, Some, None}
use Rattle.std.specs.Prelude.{List, [], ◌∷◌, ◌++◌, length, map, filter, flat_map, slice_get}
use Rattle.std.specs.List.{All, Contains}
use Rattle.std.specs.Set.{distinct_count}
use Rattle.dd_store.specs.declared.row.Row.{Row}
use Rattle.dd_store.specs.declared.row.Var.{Var}
use Rattle.dd_store.specs.Follow.{step, value_in, IsThere}
use Rattle.dd_store.specs.Order.{level_in, level_of_row, IsIn}
use Rattle.dd_store.specs.Reached.{reached}
use Rattle.dd_store.specs.Size.{Function, fixed, cofactors, size, level_size}
use Rattle.dd_store.specs.Table.{AreReduced}

-- More functions never need fewer nodes.
abbrev pub MoreIsNotSmaller : Type 0
MoreIsNotSmaller =
    (order : List Var) (few more : List Function) →
    ((f : Function) → Contains few f → Contains more f) → size order few ≤ size order more

-- nor at any level
abbrev pub MoreIsNotSmallerAtLevels : Type 0
MoreIsNotSmallerAtLevels =
    (order : List Var) (few more : List Function) (i : ℕ) →
    ((f : Function) → Contains few f → Contains more f) → level_size order few i ≤ level_size order more i

-- m functions of n variables need at most m * 2^n nodes.
abbrev pub SizeIsBounded : Type 0
SizeIsBounded = (order : List Var) (fs : List Function) → size order fs ≤ length fs * 2 ^ length order

-- and at most m * 2^i of them at level i
abbrev pub LevelsAreBounded : Type 0
LevelsAreBounded = (order : List Var) (fs : List Function) (i : ℕ) → level_size order fs i ≤ length fs * 2 ^ i

-- What a function of the list gives by fixing the first variables counts with it.
abbrev pub CofactorsAddNothing : Type 0
CofactorsAddNothing =
    (order : List Var) (fs : List Function) (f c : Function) → Contains fs f → Contains (cofactors order f) c →
    size order (c ∷ fs) ≡ size order fs

-- also at each level
abbrev pub CofactorsAddNothingAtLevels : Type 0
CofactorsAddNothingAtLevels =
    (order : List Var) (fs : List Function) (f c : Function) (i : ℕ) →
    Contains fs f → Contains (cofactors order f) c → level_size order (c ∷ fs) i ≡ level_size order fs i

-- a function doesn't depend on a variable
abbrev pub IsFreeOf : ℕ → Function → Type 0
IsFreeOf v f = (a : ℕ → Bool) (b : Bool) → fixed f v b a ≡ f a

-- A last variable on which nothing depends adds nothing.
abbrev pub LastVariableAddsNothing : Type 0
LastVariableAddsNothing =
    (order : List Var) (v : Var) (fs : List Function) → All (IsFreeOf v.0) fs →
    size (order ++ v ∷ []) fs ≡ size order fs

-- nor at any level
abbrev pub LastVariableAddsNothingAtLevels : Type 0
LastVariableAddsNothingAtLevels =
    (order : List Var) (v : Var) (fs : List Function) (i : ℕ) → All (IsFreeOf v.0) fs →
    level_size (order ++ v ∷ []) fs i ≡ level_size order fs i

-- the value of a constant or node, as a function
abbrev pub function_of : List Var → (ℕ → Option Row) → ℕ → Function
function_of order rows n = λ a. value_in order rows a n

-- how many nodes are reached from the numbers, without the constants
abbrev pub reached_count : List Var → (ℕ → Option Row) → List ℕ → ℕ
reached_count order rows ns = distinct_count nat_eq (filter (nat_le 2) (flat_map (reached order rows) ns))

-- In reduced rows as many nodes are reached as the functions need.
abbrev pub ReachedIsSize : Type 0
ReachedIsSize =
    (order : List Var) (rows : ℕ → Option Row) → AreReduced order rows →
    (ns : List ℕ) → All (IsThere rows) ns →
    reached_count order rows ns ≡ size order (map (function_of order rows) ns)

-- whether a node tests the variable
abbrev pub has_variable : ℕ → Option Row → Bool
has_variable v None = false
has_variable v (Some r) = nat_eq r.var.0 v

abbrev pub tests : (ℕ → Option Row) → ℕ → ℕ → Bool
tests rows v n = has_variable v (rows n)

-- And at each level as many reached nodes test its variable as the functions need there.
abbrev pub ReachedIsLevelSize : Type 0
ReachedIsLevelSize =
    (order : List Var) (rows : ℕ → Option Row) → AreReduced order rows →
    (ns : List ℕ) → All (IsThere rows) ns → (i : ℕ) (v : Var) → slice_get order i ≡ Some v →
    distinct_count nat_eq (filter (tests rows v.0) (flat_map (reached order rows) ns))
    ≡ level_size order (map (function_of order rows) ns) i

-- Each function is a cofactor of itself.
abbrev pub IsOwnCofactor : Type 0
IsOwnCofactor = (order : List Var) (f : Function) → Contains (cofactors order f) f

-- The cofactors of a cofactor are cofactors.
abbrev pub CofactorsCompose : Type 0
CofactorsCompose =
    (order : List Var) (f g h : Function) →
    Contains (cofactors order f) g → Contains (cofactors order g) h → Contains (cofactors order f) h

-- Fixing a variable gives a cofactor where the function depends on no variable above it.
abbrev pub FixedIsCofactor : Type 0
FixedIsCofactor =
    (order : List Var) (f : Function) (v : ℕ) (b : Bool) → IsIn order v →
    ((w : ℕ) → level_in order w < level_in order v → IsFreeOf w f) → Contains (cofactors order f) (fixed f v b)

-- A constant or a node with a variable fixed, its own or one above it, has the value of what it leads to past the
-- variable.
abbrev pub FixedFollows : Type 0
FixedFollows =
    (order : List Var) (rows : ℕ → Option Row) → AreReduced order rows →
    (n v : ℕ) (b : Bool) → level_in order v ≤ level_of_row order (rows n) →
    fixed (function_of order rows n) v b ≡ function_of order rows (step (rows n) v n b)
