-- The states of a count: one for each number of true members above, as handles on what is left to count.
use Rattle.std.specs.Prelude.{◌≡◌, ℕ, ◌+◌, ◌*◌, ◌<◌, ◌≤◌, List, length, if◌then◌else◌, nat_lt, slice_index}
use Rattle.std.specs.List.{Contains}
use Rattle.dd_store.specs.declared.refusal.Refusal.{Refusal}
use Rattle.dd_store.specs.declared.row.Var.{Var}
use Rattle.dd_store.specs.Changes.{Keeps}
use Rattle.dd_store.specs.Exhausted.{value_at}
use Rattle.dd_store.specs.Handles.{HoldsMore, count_on}
use Rattle.dd_store.specs.Size.{Function, cofactors}
use Rattle.dd_store.specs.Table.{Table, handles_on, IsSound, IsAbove}
use Rattle.dd_apply.specs.Cause.{IsCause}
use Rattle.dd_apply.specs.Split.{fork}
use Rattle.dd_count.specs.Cardinality.{true_count, is_within}

-- whether the true ones of the members and so many before them are within the bounds
abbrev pub counted : List Var → ℕ → ℕ → ℕ → Function
counted members low high before a = is_within low high (before + true_count members a)

-- The last state of k members. More true members than `high` are as bad as one more; where `high` is no bound, more
-- than `low` are as good as `low`.
abbrev pub last_state : ℕ → ℕ → ℕ → ℕ
last_state k low high = if nat_lt high k then high + 1 else low

-- the handle number c is what is left to count of the members where c are true before them
abbrev pub AreStates : Table → List Var → ℕ → ℕ → List ℕ → Type 0
AreStates t members low high states =
    (c : ℕ) → c < length states → value_at t (slice_index states c) ≡ counted members low high c

-- each handle of the list is live, also where several stand on one number
abbrev pub AreHeld : Table → List ℕ → Type 0
AreHeld t states = (n : ℕ) → count_on states n ≤ handles_on t n

-- each of them stands below the variable
abbrev pub AreBelow : Table → ℕ → List ℕ → Type 0
AreBelow t v states = (c : ℕ) → c < length states → IsAbove t v (slice_index states c)

-- a call that began with the old table has come to the new one, where the handles are live beside those before
pub record HoldsStates (old new : Table) (states : List ℕ) : Type 0 where
  pub keeps : Keeps old new
  pub more : HoldsMore old new states

-- whatever call has come to the old table with its handles goes on to the new one with its own
abbrev pub GoesOn : Table → List ℕ → Table → List ℕ → Type 0
GoesOn old states new states' = (begun : Table) → HoldsStates begun old states → HoldsStates begun new states'

-- each handle but the last one is that of the next one now where the variable is true, and else that of itself
pub record AreForked (old new : Table) (v : ℕ) (states states' : List ℕ) : Type 0 where
  pub each : (c : ℕ) → c + 1 < length states → value_at new (slice_index states' c)
      ≡ fork v (value_at old (slice_index states c)) (value_at old (slice_index states (c + 1)))
  pub last : (c : ℕ) → c + 1 ≡ length states → value_at new (slice_index states' c) ≡ value_at old (slice_index states c)

-- what the handles are, and what they are to be, are partial results of what is asked for
pub record AreParts (t : Table) (v : ℕ) (states : List ℕ) (asked : Function) : Type 0 where
  pub now : (c : ℕ) → c < length states → Contains (cofactors t.order asked) (value_at t (slice_index states c))
  pub next : (c : ℕ) → c + 1 < length states → Contains (cofactors t.order asked)
      (fork v (value_at t (slice_index states c)) (value_at t (slice_index states (c + 1))))

-- No call that has come to the old table with its states as partial results has room for what it was asked for.
abbrev pub IsCauseOver : Table → ℕ → List ℕ → Table → Refusal → Type 0
IsCauseOver old v states new refusal =
    (begun : Table) (asked : Function) → IsSound begun → HoldsStates begun old states → AreParts old v states asked →
    length states ≤ 2 * (length begun.order + 1) → IsCause begun new asked refusal
