-- The nodes that are reached by following ends.
use Rattle.std.specs.Prelude.{◌≡◌, ℕ, true, false, List, [], ◌∷◌, ◌++◌, Option}
use Rattle.std.specs.List.{All}
use Rattle.dd_store.specs.declared.row.Row.{Row}
use Rattle.dd_store.specs.declared.row.Var.{Var}
use Rattle.dd_store.specs.Follow.{step}

-- the number n, and what is reached from it past each variable of the order in turn, for both values
abbrev pub reached : List Var → (ℕ → Option Row) → ℕ → List ℕ
reached [] rows n = n ∷ []
reached (v ∷ vs) rows n =
    n ∷ (reached vs rows (step (rows n) v.0 n false) ++ reached vs rows (step (rows n) v.0 n true))

-- each number that is reached from n by the old rows has the same row among the new ones
abbrev pub KeepsReached : List Var → (ℕ → Option Row) → (ℕ → Option Row) → ℕ → Type 0
KeepsReached order old new n = All (λ m. new m ≡ old m) (reached order old n)
