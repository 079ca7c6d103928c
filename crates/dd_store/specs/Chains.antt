-- Chains of numbers: each number has the next one of its chain, and 0, which is in no chain, ends it.
use Rattle.std.specs.Prelude.{◌≡◌, ◌≢◌, ◌⊎◌, ℕ, ◌+◌, ◌*◌, ◌/◌, ◌%◌, ◌^◌, ◌<◌, ◌≤◌, List, [], ◌∷◌, length, slice_index_or, Option, Some, None}
use Rattle.dd_store.specs.declared.row.Row.{Row}
use Rattle.dd_store.specs.declared.row.NodeNo.{NodeNo}

-- the number is in the list
abbrev pub Has : List ℕ → ℕ → Type 0
Has [] n = ⊥
Has (m ∷ ms) n = (m ≡ n) ⊎ Has ms n

-- the chain that begins at the head has these numbers, and none of them twice
abbrev pub IsChain : (ℕ → ℕ) → ℕ → List ℕ → Type 0
IsChain next head [] = head ≡ 0
IsChain next head (n ∷ ns) = (head ≡ n) × (n ≢ 0) × (Has ns n → ⊥) × IsChain next (next n) ns

-- the chain that begins at the head has exactly the numbers that belong to it
pub record IsChainOf (next : ℕ → ℕ) (head : ℕ) (belongs : ℕ → Type 0) : Type 0 where
  pub numbers : List ℕ
  pub chain : IsChain next head numbers
  pub each : (n : ℕ) → Has numbers n → belongs n
  pub all : (n : ℕ) → belongs n → Has numbers n

-- the heads of the chains of one variable, and how many nodes hang in them
pub record Heads : Type 0 where
  pub heads : List NodeNo
  pub nodes : ℕ

-- how many chains there are
abbrev pub width : Heads → ℕ
width h = length h.heads

-- the head of a chain
abbrev pub head_at : List NodeNo → ℕ → ℕ
head_at heads b = (slice_index_or heads b (record { 0 = 0 })).0

-- In which of so many chains a row hangs: its ends are multiplied by large odd numbers, and the leading bits of the sum
-- choose (Knuth, volume 3, section 6.4).
unfoldable pub bucket_of : Row → ℕ → ℕ
bucket_of r size = (((r.low.0 * 2654435761 % 2 ^ 32 + r.high.0 * 2246822519 % 2 ^ 32) % 2 ^ 32) * size) / 2 ^ 32

-- a node with this row hangs in this one of the chains of the variable
abbrev pub HangsIn : ℕ → ℕ → Option Row → ℕ → Type 0
HangsIn v size None b = ⊥
HangsIn v size (Some r) b = (r.var.0 ≡ v) × (bucket_of r size ≡ b)

-- each node of the variable hangs in its chain, and nothing else does
abbrev pub AreChained : (ℕ → ℕ) → (ℕ → Option Row) → ℕ → List NodeNo → Type 0
AreChained next rows v heads =
    (b : ℕ) → b < length heads → IsChainOf next (head_at heads b) (λ n. HangsIn v (length heads) (rows n) b)

-- a row hangs in one of the first b of so many chains
abbrev pub HangsBelow : ℕ → Option Row → ℕ → Type 0
HangsBelow size None b = ⊥
HangsBelow size (Some r) b = bucket_of r size < b

-- the nodes of the first b old chains hang in the new chains, and the others still in the old ones
pub record AreMoved (next : ℕ → ℕ) (rows : ℕ → Option Row) (v : ℕ) (old : List NodeNo) (b : ℕ) (new : List NodeNo) : Type 0 where
  pub still : (d : ℕ) → b ≤ d → d < length old → IsChainOf next (head_at old d) (λ n. HangsIn v (length old) (rows n) d)
  pub moved : (c : ℕ) → c < length new →
      IsChainOf next (head_at new c) (λ n. HangsIn v (length new) (rows n) c × HangsBelow (length old) (rows n) b)
