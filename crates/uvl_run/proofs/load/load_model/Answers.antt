-- What the loading and the resolution are refused for is what is wrong with the main file.
use Rattle.uvl_run.proofs.Loads.{cause_of_resolution}
use Rattle.uvl_run.proofs.load.load_model.Goals as goal

pub returns-clause-fault : goal.returns-clause-fault
returns-clause-fault g c =
    cause_of_resolution (g.F.Files.told c.args.files.now) c.args.path.now c.in_ok-set.set.files c.in-Err.fault
    c.fault_of.result c.in_ok-set.ensures.loads c.in-Err.ensures.cause c.fault_of.ensures
