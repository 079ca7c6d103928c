-- The law of loaded sets goes down the order of reading.
use Rattle.uvl_imports.proofs.Said.{each_set}
use Rattle.uvl_imports.proofs.law.loaded_files_are_said.Goals as goal

pub returns : goal.returns
returns c = each_set
