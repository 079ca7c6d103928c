-- What came of writing the one line of a run.
use Rattle.std.specs.Prelude.{ℕ, List, Option, IsFalse}
use Rattle.std.specs.Io.KnownBytes.{Appends}
use Rattle.uvl_outside.specs.Faults.{Counts}
use Rattle.uvl_run.specs.declared.status.Status.{Status}
use Rattle.uvl_run.specs.Outside.{Object, the_files, the_input, the_output, has_failed}
use Rattle.uvl_run.specs.Run.{SaysLine}

-- the line was written, or a front of it, and no other object than the sink failed
pub record WritesLine (line : List ℕ) (whole : Status) (before now : Option (List ℕ)) (faults_before faults : ℕ)
    (status : Status) : Type 0 where
  pub said : List ℕ
  pub failed : Option Object
  pub wrote : Appends before now said
  pub says : SaysLine line whole said (record { status = status; failed = failed })
  pub output : Counts faults_before faults (has_failed the_output failed)
  pub no_files : IsFalse (has_failed the_files failed)
  pub no_input : IsFalse (has_failed the_input failed)
