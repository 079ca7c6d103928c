-- A walk from a node down, among the assignments with some values.
use Rattle.std.specs.Prelude.{◌≡◌, ◌≢◌, ◌↔◌, ℕ, Bool, true, false, if◌then◌else◌, IsTrue, List, Option, Some}
use Rattle.dd_store.specs.Follow.{IsThere}
use Rattle.dd_store.specs.Table.{Table, row_of, value_of, top_of, level_of, IsVariable, IsAbove}
use Rattle.dd_quant.specs.steps.Given.{Allows, Meets}
use Rattle.dd_quant.specs.steps.Marked.{found_of}

-- some assignment with the values makes the node true
abbrev pub CanBe : Table → List (Option Bool) → ℕ → Type 0
CanBe t values n = (a : ℕ → Bool) × Meets values a × (value_of t n a ≡ true)

-- The node n tests the variable v, and its ends for no and yes are these: in place of an end for a value that isn't
-- allowed stands the constant no.
pub record HasOpenEnds (t : Table) (values : List (Option Bool)) (n v low high : ℕ) : Type 0 where
  pub variable : IsVariable t v
  pub top : top_of t n ≡ level_of t v
  pub value : (a : ℕ → Bool) → Meets values a → value_of t n a ≡ (if a v then value_of t high a else value_of t low a)
  pub low_there : IsThere (row_of t) low
  pub high_there : IsThere (row_of t) high
  pub above_low : IsAbove t v low
  pub above_high : IsAbove t v high
  pub low_allowed : low ≢ 0 → Allows values v false
  pub high_allowed : high ≢ 0 → Allows values v true

-- what is found of each marked node is whether it can be true
abbrev pub AreFound : Table → List (Option Bool) → List (Option Bool) → Type 0
AreFound t values marks = (n : ℕ) (b : Bool) → found_of marks n ≡ Some b → IsTrue b ↔ CanBe t values n
