-- What a kept result says, and when it is right.
use Rattle.std.specs.Prelude.{◌≡◌, ◌↔◌, ℕ, Bool, true, List}
use Rattle.std.specs.List.{Contains}
use Rattle.dd_store.specs.declared.row.NodeNo.{NodeNo}
use Rattle.dd_store.specs.Exhausted.{value_at}
use Rattle.dd_store.specs.Follow.{IsThere}
use Rattle.dd_store.specs.Table.{Table, row_of, value_of}
use Rattle.dd_apply.specs.declared.question.Question.{Question}
use Rattle.dd_apply.specs.declared.question.Question.TheVariants.{Binary, Ite, Implies}
use Rattle.dd_store.specs.Size.{Function}
use Rattle.dd_apply.specs.Held.{IsHeld}
use Rattle.dd_apply.specs.Truth.{applied, chosen}

-- every assignment that makes a true makes b true
abbrev pub DoesImply : Table → ℕ → ℕ → Type 0
DoesImply t a b = (x : ℕ → Bool) → value_of t a x ≡ true → value_of t b x ≡ true

-- the number answers the question: what is asked is there, and has the value of the answer
abbrev pub IsRight : Table → Question → ℕ → Type 0
IsRight t (Binary op a b) r =
    IsThere (row_of t) a.0 × IsThere (row_of t) b.0 × IsThere (row_of t) r ×
    (value_at t r ≡ applied op (value_at t a.0) (value_at t b.0))
IsRight t (Ite c a b) r =
    IsThere (row_of t) c.0 × IsThere (row_of t) a.0 × IsThere (row_of t) b.0 × IsThere (row_of t) r ×
    (value_at t r ≡ chosen (value_at t c.0) (value_at t a.0) (value_at t b.0))
IsRight t (Implies a b) r =
    IsThere (row_of t) a.0 × IsThere (row_of t) b.0 × ((r ≡ 1) ↔ DoesImply t a.0 b.0)

-- each kept result is right
abbrev pub AreRight : Table → List (Question × NodeNo) → Type 0
AreRight t kept = (q : Question) (r : NodeNo) → Contains kept (q, r) → IsRight t q r.0

-- the function is what the question asks for, of nodes that are held
abbrev pub IsAsked : Table → Question → Function → Type 0
IsAsked t (Binary op a b) f = IsHeld t a.0 × IsHeld t b.0 × (f ≡ applied op (value_at t a.0) (value_at t b.0))
IsAsked t (Ite c a b) f =
    IsHeld t c.0 × IsHeld t a.0 × IsHeld t b.0 × (f ≡ chosen (value_at t c.0) (value_at t a.0) (value_at t b.0))
IsAsked t (Implies a b) f = ⊥
