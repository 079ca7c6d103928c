-- The halves stand on lower levels.
use Rattle.std.proofs.Common.{◌-◌, length, min}
use Rattle.dd_store.specs.Table.{top_of}
use Rattle.dd_apply.proofs.kernel.Kernel.+does_imply.Given as goal

abbrev pub decreases-does_imply : goal.decreases-does_imply
decreases-does_imply l = length l.self.now.order - min (top_of l.self.now l.a.0) (top_of l.self.now l.b.0)
