-- The laws of the layers, one upon the other.
use Rattle.uvl_run.proofs.LoadedOnce.{loaded_once}
use Rattle.uvl_run.proofs.laws.every_main_file_is_loaded_once.Goals as goal

pub returns : goal.returns
returns c = loaded_once c.all_files_load_or_have_a_fault.ensures c.each_set_has_one_answer.ensures
