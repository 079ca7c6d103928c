-- The causes follow from what a run answers.
use Rattle.uvl_run.proofs.Exactly.{exactly}
use Rattle.uvl_run.proofs.top.run.Goals as goal

pub returns-clause-exactly : goal.returns-clause-exactly
returns-clause-exactly g c = exactly _ _ _ _ c.every_main_file_is_loaded_once.ensures c.answer_words.result c.answer_words.ensures.answers
