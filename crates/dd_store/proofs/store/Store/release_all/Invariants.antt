-- The handles that are left are still live, and the others are given back.
use Rattle.std.proofs.Common.{◌≡◌, ℕ, ◌+◌, ◌≤◌, length}
use Rattle.dd_store.specs.Table.{handles_on, handle_count}
use Rattle.dd_store.specs.Changes.{Grows}
use Rattle.dd_store.specs.Handles.{count_on}
use Rattle.dd_store.proofs.store.Store.release_all.Given as goal

abbrev pub invariant-loop-handle : goal.invariant-loop-handle
invariant-loop-handle l = record {
  each : (n : ℕ) → handles_on l.self n + count_on l.initial.handles.items n ≡ handles_on l.initial.self n + count_on l.handles.items n;
  total : handle_count l.self + length l.initial.handles.items ≡ handle_count l.initial.self + length l.handles.items;
  fewer : (n : ℕ) → count_on l.handles.items n ≤ count_on l.initial.handles.items n;
  grows : Grows l.initial.self l.self 0;
}

abbrev pub decreases-loop-handle : goal.decreases-loop-handle
decreases-loop-handle l = goal.left-loop-handle l
