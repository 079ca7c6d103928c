-- How a call changes the live handles, as a count for each number.
use Rattle.std.specs.Prelude.{◌≡◌, ℕ, ◌+◌, ◌==◌, if◌then◌else◌, List, [], ◌∷◌, length}
use Rattle.dd_store.specs.Table.{Table, handles_on, handle_count}

-- the live handles are those before
pub record KeepsHandles (old new : Table) : Type 0 where
  pub each : (n : ℕ) → handles_on new n ≡ handles_on old n
  pub total : handle_count new ≡ handle_count old

-- what one handle on n adds to the count of m
abbrev pub one_on : ℕ → ℕ → ℕ
one_on n m = if m == n then 1 else 0

-- the live handles are those before with one more, on the number n
pub record GainsHandle (old new : Table) (n : ℕ) : Type 0 where
  pub gained : handles_on new n ≡ handles_on old n + 1
  pub each : (m : ℕ) → handles_on new m ≡ handles_on old m + one_on n m
  pub total : handle_count new ≡ handle_count old + 1

-- the live handles are those before without one on the number n
pub record LosesHandle (old new : Table) (n : ℕ) : Type 0 where
  pub lost : handles_on new n + 1 ≡ handles_on old n
  pub each : (m : ℕ) → handles_on new m + one_on n m ≡ handles_on old m
  pub total : handle_count new + 1 ≡ handle_count old

-- how many of the handles stand on the number
abbrev pub count_on : List ℕ → ℕ → ℕ
count_on [] n = 0
count_on (h ∷ hs) n = one_on h n + count_on hs n

-- the live handles are those before with these
pub record HoldsMore (old new : Table) (handles : List ℕ) : Type 0 where
  pub each : (n : ℕ) → handles_on new n ≡ handles_on old n + count_on handles n
  pub total : handle_count new ≡ handle_count old + length handles

-- the live handles are those before without these
pub record HoldsLess (old new : Table) (handles : List ℕ) : Type 0 where
  pub each : (n : ℕ) → handles_on new n + count_on handles n ≡ handles_on old n
  pub total : handle_count new + length handles ≡ handle_count old
