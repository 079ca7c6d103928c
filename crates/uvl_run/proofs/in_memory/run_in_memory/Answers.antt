-- The objects tell everything, and their counts don't rise.
use Rattle.std.proofs.lemmas.Option.{same_Some}
use Rattle.uvl_run.proofs.InMemory.{in_memory}
use Rattle.uvl_run.proofs.in_memory.run_in_memory.Goals as goal

pub returns : goal.returns
returns c = record {
  run = in_memory _ _ _ _ _ _ c.run.result c.run.ensures.answers;
  same_files = same_Some _ _ c.run.ensures.same_files;
}
