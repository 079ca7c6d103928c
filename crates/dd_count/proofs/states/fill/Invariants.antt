-- So many states are there.
use Rattle.std.proofs.Common.{◌≡◌, ◌≤◌, [], length}
use Rattle.dd_store.specs.Table.{node_count}
use Rattle.dd_count.specs.States.{AreStates, HoldsStates}
use Rattle.dd_count.proofs.states.fill.Given as goal

abbrev pub invariant-loop-before : goal.invariant-loop-before
invariant-loop-before l = record {
  held : HoldsStates l.initial.kernel l.kernel l.states.items;
  states : AreStates l.kernel [] l.low l.high l.states.items;
  number : length l.states.items ≡ l.before;
  nodes : node_count l.kernel ≤ node_count l.initial.kernel;
}
