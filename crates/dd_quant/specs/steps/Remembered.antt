-- What is remembered of nodes while a variable is fixed.
use Rattle.std.specs.Prelude.{◌≡◌, ◌⊎◌, ℕ, Bool, List, Option, Some, None, slice_index_or}
use Rattle.dd_store.specs.declared.row.NodeNo.{NodeNo}
use Rattle.dd_store.specs.Exhausted.{value_at}
use Rattle.dd_store.specs.Follow.{IsThere}
use Rattle.dd_store.specs.Size.{fixed}
use Rattle.dd_store.specs.Table.{Table, row_of}

-- the answer for a node
abbrev pub answer_of : List (Option NodeNo) → ℕ → Option NodeNo
answer_of answers n = slice_index_or answers n None

-- the answer is a node with the value of the first one, where the variable is fixed
pub record IsAnswer (t : Table) (v : ℕ) (b : Bool) (n r : ℕ) : Type 0 where
  pub asked_there : IsThere (row_of t) n
  pub there : IsThere (row_of t) r
  pub value : value_at t r ≡ fixed (value_at t n) v b

-- each answer is one
abbrev pub AreAnswers : Table → ℕ → Bool → List (Option NodeNo) → Type 0
AreAnswers t v b answers = (n : ℕ) (r : NodeNo) → answer_of answers n ≡ Some r → IsAnswer t v b n r.0

-- each answer is one of those before, or this one
abbrev pub IsRemembered : List (Option NodeNo) → List (Option NodeNo) → ℕ → ℕ → Type 0
IsRemembered old new node answer =
    (n : ℕ) (r : NodeNo) → answer_of new n ≡ Some r → (answer_of old n ≡ Some r) ⊎ ((n ≡ node) × (r.0 ≡ answer))
