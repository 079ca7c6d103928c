-- What a line of a script is answered, given what commands are. This project's own.
use Rattle.std.specs.Prelude.{◌≡◌, ℕ, List, [], ◌∷◌, ◌++◌, codes, Option, Some, None, Result, Ok, Err, IsSomeAnd}
use Rattle.uvl_script.specs.declared.command.Command.{Command}
use Rattle.uvl_script.specs.declared.fault.LineFault.{LineFault}
use Rattle.uvl_script.specs.Faults.{word_of}
use Rattle.uvl_script.specs.Lines.{reading_of}
use Rattle.uvl_lines.specs.Answers.{Replies}
use Rattle.uvl_lines.specs.Lines.{joined}

-- the bytes of a reply: its lines, each followed by LF, and then a line with a point
abbrev pub reply_of : List (List ℕ) → List ℕ
reply_of lines = joined lines (codes ".\n")

-- the reply to what is refused for this reason
abbrev pub refused : List ℕ → List ℕ
refused word = reply_of ((codes "refused " ++ word) ∷ [])

-- The text that answers what a line is read as, and the state behind it. A line without words has no reply, and one with
-- a fault is refused with the word of the fault; both leave the state alone.
abbrev pub ReadLine : {A : Type 0} → Replies A → A → Result (Option Command) LineFault → List ℕ → A → Type 0
ReadLine R s (Ok None) text t = (text ≡ []) × (t ≡ s)
ReadLine R s (Ok (Some command)) text t = R s command text t
ReadLine R s (Err fault) text t = IsSomeAnd (word_of fault) (λ word. text ≡ refused word) × (t ≡ s)

-- the text that answers a line, given without its LF, and the state behind it
abbrev pub Line : {A : Type 0} → Replies A → A → List ℕ → List ℕ → A → Type 0
Line R s line text t = ReadLine R s (reading_of line) text t
