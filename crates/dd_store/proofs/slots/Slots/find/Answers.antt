-- The chain has all nodes with the row.
use Rattle.std.proofs.Common.{subst, IfNone, Some, ◌≢◌, ℕ}
use Rattle.dd_store.specs.Linked.{row_in}
use Rattle.dd_store.proofs.NodesLemmas.{absent-seen}
use Rattle.dd_store.proofs.slots.Slots.find.Goals as goal

pub returns-clause-absent : goal.returns-clause-absent
returns-clause-absent c =
    rw (← c.self.view_is)
    (absent-seen c.self.inside.slots.items _ _ (subst (λ slots. IfNone c.find_in.result ((n : ℕ) → row_in slots n ≢ Some c.args.row)) c.deref.ensures.value c.find_in.ensures.absent))
