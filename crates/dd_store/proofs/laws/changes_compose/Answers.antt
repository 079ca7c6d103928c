-- One change behind another.
use Rattle.dd_store.proofs.ChangeLemmas.{grows_then}
use Rattle.dd_store.proofs.laws.changes_compose.Goals as goal

pub returns : goal.returns
returns c = λ first middle last k j one two live. grows_then one two live
