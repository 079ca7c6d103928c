-- What is seen of the objects that a run is handed: its files, its input and its output. This project's own.
use Rattle.std.specs.Prelude.{ℕ, Bool, true, false, List, Option, Some}
use Rattle.uvl_outside.specs.Faults.{Counts}

pub data Object : Type 0 where
  the_files : Object
  the_input : Object
  the_output : Object

-- at some moment: the bytes that the input has left and those that were written, where these are told, and how many
-- faults each of the objects has answered
pub record Outside : Type 0 where
  pub left : Option (List ℕ)
  pub written : Option (List ℕ)
  pub file_faults : ℕ
  pub input_faults : ℕ
  pub output_faults : ℕ

abbrev pub seen : Option (List ℕ) → Option (List ℕ) → ℕ → ℕ → ℕ → Outside
seen left written files input output = record {
  left = left;
  written = written;
  file_faults = files;
  input_faults = input;
  output_faults = output;
}

-- whether this is the object that failed, where one did
abbrev pub has_failed : Object → Option Object → Bool
has_failed the_files (Some the_files) = true
has_failed the_input (Some the_input) = true
has_failed the_output (Some the_output) = true
has_failed _ _ = false

-- the count of the object that failed rose, where one did, and those of the others are as before
pub record AreCounted (failed : Option Object) (before now : Outside) : Type 0 where
  pub files : Counts before.file_faults now.file_faults (has_failed the_files failed)
  pub input : Counts before.input_faults now.input_faults (has_failed the_input failed)
  pub output : Counts before.output_faults now.output_faults (has_failed the_output failed)
