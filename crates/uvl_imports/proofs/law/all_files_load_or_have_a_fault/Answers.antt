-- The law of files rests on that of bytes.
use Rattle.uvl_imports.proofs.AllFiles.{all_files}
use Rattle.uvl_imports.proofs.law.all_files_load_or_have_a_fault.Goals as goal

pub returns : goal.returns
returns c = all_files c.all_bytes_are_read_once.ensures
