-- Laws of reduced rows (Bryant 1986), for every order of the variables; and that changes compose.
use Rattle.std.specs.Prelude.{◌≡◌, ◌↔◌, ◌+◌, ◌<◌, ◌≤◌, ℕ, Bool, List, length, Option}
use Rattle.dd_store.specs.declared.row.Row.{Row}
use Rattle.dd_store.specs.declared.row.Var.{Var}
use Rattle.dd_store.specs.Follow.{value_in, with_value, IsThere}
use Rattle.dd_store.specs.Order.{level_in, level_of_row}
use Rattle.dd_store.specs.Table.{Table, AreReduced, IsLive}
use Rattle.dd_store.specs.Changes.{Grows}

-- two numbers have one value for every assignment
abbrev pub HaveSameValuesIn : List Var → (ℕ → Option Row) → ℕ → ℕ → Type 0
HaveSameValuesIn order rows m n = (a : ℕ → Bool) → value_in order rows a m ≡ value_in order rows a n

-- Canonicity: in reduced rows two constants or nodes with one value for every assignment are the same.
abbrev pub ValuesTellNodesApart : Type 0
ValuesTellNodesApart =
    (order : List Var) (rows : ℕ → Option Row) → AreReduced order rows →
    (m n : ℕ) → IsThere rows m → IsThere rows n → HaveSameValuesIn order rows m n → m ≡ n

-- the value of a number doesn't depend on any variable above the level
abbrev pub DependsOnNoneAbove : List Var → (ℕ → Option Row) → ℕ → ℕ → Type 0
DependsOnNoneAbove order rows l n = (v : ℕ) → level_in order v < l →
    (a : ℕ → Bool) (b : Bool) → value_in order rows (with_value a v b) n ≡ value_in order rows a n

-- A constant or a node stands on a level or below it exactly where its value depends on no variable above that level.
abbrev pub ValuesTellLevels : Type 0
ValuesTellLevels =
    (order : List Var) (rows : ℕ → Option Row) → AreReduced order rows →
    (n l : ℕ) → IsThere rows n → l ≤ length order →
    (l ≤ level_of_row order (rows n)) ↔ DependsOnNoneAbove order rows l n

-- One change behind another is a change by both, where what is live at both ends is so between them.
abbrev pub ChangesCompose : Type 0
ChangesCompose =
    (a b c : Table) (k j : ℕ) → Grows a b k → Grows b c j → ((n : ℕ) → IsLive a n → IsLive c n → IsLive b n) →
    Grows a c (k + j)
