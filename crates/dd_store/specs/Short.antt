-- Where a budget is too small: what is held and what a call has to make together need more nodes.
use Rattle.std.specs.Prelude.{ℕ, ◌+◌, ◌*◌, ◌^◌, ◌<◌, ◌≤◌, Bool, true, false, List, [], ◌∷◌, ◌++◌, length, flat_map}
use Rattle.std.specs.List.{Any, Contains}
use Rattle.std.specs.Bool.{beq}
use Rattle.dd_store.specs.declared.row.Var.{Var}
use Rattle.dd_store.specs.Size.{Function, size}

-- whether a variable has this value
abbrev pub literal : ℕ → Bool → Function
literal v b a = beq (a v) b

-- the literals of all variables: each of them, and its opposite
abbrev pub literals : List Var → List Function
literals order = flat_map (λ v. literal v.0 true ∷ literal v.0 false ∷ []) order

-- The budget is too small for some group of functions, beside the functions that are held and the literals.
abbrev pub IsShort : List Var → ℕ → List Function → List (List Function) → Type 0
IsShort order budget held groups = Any (λ group. budget < size order (held ++ (literals order ++ group))) groups

-- Where it is too small, it is so for more functions and groups, and a smaller one is too.
abbrev pub ShortStays : Type 0
ShortStays =
    (order : List Var) (budget less : ℕ) (held more : List Function) (few many : List (List Function)) → less ≤ budget →
    ((f : Function) → Contains held f → Contains more f) →
    ((group : List Function) → Contains few group → Contains many group) →
    IsShort order budget held few → IsShort order less more many

-- It is too small only where some group is so large: for h functions that are held, g of the group and n variables, the
-- budget is below (h + 2n + g) * 2^n.
abbrev pub ShortIsBounded : Type 0
ShortIsBounded =
    (order : List Var) (budget : ℕ) (held : List Function) (groups : List (List Function)) →
    IsShort order budget held groups →
    Any (λ group. budget < (length held + (2 * length order + length group)) * 2 ^ length order) groups
