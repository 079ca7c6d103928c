-- The variables above the level are done, and the others are as before.
use Rattle.std.proofs.Common.{◌≡◌, ◌⊎◌, ◌↔◌, ℕ, ◌<◌, ◌≤◌, Bool, length, slice_index}
use Rattle.dd_store.specs.Table.{level_of, IsVariable}
use Rattle.dd_quant.specs.steps.Given.{Allows}
use Rattle.dd_quant.specs.steps.Noted.{HasNote, IsPassed}
use Rattle.dd_quant.proofs.noted.open_passed.Given as goal

abbrev pub invariant-loop-level : goal.invariant-loop-level
invariant-loop-level l = record {
  number : length l.offers ≡ length l.initial.offers;
  reached : (k : ℕ) → (k < l.reached) ↔ ((j : ℕ) × (j < l.level) × (k < slice_index l.far j));
  done : (v : ℕ) (b : Bool) → IsVariable l.kernel v → level_of l.kernel v < l.level → HasNote l.offers v b ↔
      (HasNote l.initial.offers v b ⊎ (IsPassed l.far (level_of l.kernel v) × Allows l.values v b));
  left : (v : ℕ) (b : Bool) → IsVariable l.kernel v → l.level ≤ level_of l.kernel v → HasNote l.offers v b ↔ HasNote l.initial.offers v b;
}
