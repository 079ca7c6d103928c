-- What is met by the tokens is a named fault.
use Rattle.uvl_faults.proofs.Naming.{searched_named}
use Rattle.uvl_faults.proofs.named.first_named.Goals as goal

pub returns : goal.returns
returns c = searched_named c.args.tokens.now c.first_met.result c.first_met.ensures
