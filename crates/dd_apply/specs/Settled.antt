-- What an operation makes of two numbers without a look at the table.
use Rattle.std.specs.Prelude.{◌≡◌, ◌≢◌, ◌⊎◌, ℕ, ◌<◌, Bool, true, false, if◌then◌else◌}
use Rattle.dd_apply.specs.declared.operation.Operation.{Operation}
use Rattle.dd_apply.specs.Truth.{table}

-- the number is a constant's or one of the two, and has the answer's truth, whatever the truths of the nodes are
abbrev pub Settles : Operation → ℕ → ℕ → ℕ → Type 0
Settles op a b r = ((r < 2) ⊎ (r ≡ a) ⊎ (r ≡ b)) ×
    ((truth : ℕ → Bool) → truth 0 ≡ false → truth 1 ≡ true → truth r ≡ table op (truth a) (truth b))

-- the number is one of the three, and has the truth of a where c is true, and else that of b
abbrev pub SettlesChoice : ℕ → ℕ → ℕ → ℕ → Type 0
SettlesChoice c a b r = ((r ≡ c) ⊎ (r ≡ a) ⊎ (r ≡ b)) ×
    ((truth : ℕ → Bool) → truth 0 ≡ false → truth 1 ≡ true → truth r ≡ (if truth c then truth a else truth b))

-- yes where a is b, the constant no or b the constant yes; and no where a is the constant yes or b no, and else not
abbrev pub SettlesImplication : ℕ → ℕ → Bool → Type 0
SettlesImplication a b true = (a ≡ b) ⊎ (a ≡ 0) ⊎ (b ≡ 1)
SettlesImplication a b false = ((a ≡ 1) × (b ≢ 1)) ⊎ ((b ≡ 0) × (a ≢ 0))
