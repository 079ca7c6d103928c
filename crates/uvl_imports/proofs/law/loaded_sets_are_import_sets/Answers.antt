-- The law of import sets goes down the order of reading, and rests on that of tokens.
use Rattle.uvl_imports.proofs.ImportSets.{each_loaded_set}
use Rattle.uvl_imports.proofs.law.loaded_sets_are_import_sets.Goals as goal

pub returns : goal.returns
returns c = each_loaded_set c.tokens_are_a_list.ensures
