-- What is known of what answers the commands of a script. This project's own.
use Rattle.std.specs.Prelude.{ℕ, Bool, true, false, List, Result, Ok, Err}
use Rattle.uvl_script.specs.declared.command.Command.{Command}
use Rattle.uvl_lines.specs.declared.answerer.AnswerFault.{AnswerFault}
use Rattle.uvl_lines.specs.declared.answerer.AnswerFault.TheVariants.{FetchFailed, OutOfMemory}

-- what commands may be answered over states of some type: the state in front of a command, the command, the text of the
-- reply and the state behind it
abbrev pub Replies : Type 0 → Type 1
Replies A = A → Command → List ℕ → A → Type 0

-- which commands fetch a file in which state
abbrev pub Fetching : Type 0 → Type 1
Fetching A = A → Command → Type 0

-- the host failed while a file was fetched, and no want of memory
abbrev pub fetch_failed : {T : Type 0} → Result T AnswerFault → Bool
fetch_failed (Ok _) = false
fetch_failed (Err FetchFailed) = true
fetch_failed (Err OutOfMemory) = false
