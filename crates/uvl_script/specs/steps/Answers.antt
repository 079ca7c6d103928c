-- What the calls that read a line answer on their way.
use Rattle.std.specs.Prelude.{◌≡◌, ◌⊎◌, ℕ, List, Option, Some, None, Result, Ok, Err, IfSome, chars}
use Rattle.uvl_script.specs.Lines.{words_of_line}
use Rattle.uvl_script.specs.Words.{words_of}
use Rattle.uvl_script.specs.declared.command.Command.{Command}
use Rattle.uvl_script.specs.declared.fault.LineFault.{LineFault}
use Rattle.uvl_script.specs.declared.fault.LineFault.TheVariants.{OutOfMemory}

-- A command or a fault is answered as it is; where it is a command, memory may have been wanting.
abbrev pub IsAnsweredBy : Result Command LineFault → Result Command LineFault → Type 0
IsAnsweredBy (Ok command) result = (result ≡ Ok command) ⊎ (result ≡ Err OutOfMemory)
IsAnsweredBy (Err fault) result = result ≡ Err fault

-- A reading is answered as it is; where it is a command, memory may have been wanting.
abbrev pub IsAnswered : Result (Option Command) LineFault → Result (Option Command) LineFault → Type 0
IsAnswered (Ok (Some command)) result = (result ≡ Ok (Some command)) ⊎ (result ≡ Err OutOfMemory)
IsAnswered (Ok None) result = result ≡ Ok None
IsAnswered (Err fault) result = result ≡ Err fault

-- what a text has words for is answered as it is
abbrev pub AnswersWords : List ℕ → (List (List ℕ) → Result Command LineFault) → Result Command LineFault → Type 0
AnswersWords text answer result = IfSome (words_of (chars text)) (λ words. IsAnsweredBy (answer words) result)

-- the words of a text, where it has some, are those of a line
abbrev pub HasWordsOf : List ℕ → List ℕ → Type 0
HasWordsOf line text = IfSome (words_of (chars text)) (λ words. words_of_line line ≡ Ok words)
