-- What a line of a script says.
use Rattle.std.specs.Prelude.{ℕ, Bool, true, ◌==◌, nat_lt, List, [], ◌∷◌, length, if◌then◌else◌, chars, Option, Some, None, Result, Ok, Err}
use Rattle.std.specs.Str.{is_utf8}
pub use Rattle.uvl_base.specs.Limits.{most_line_bytes}
use Rattle.uvl_script.specs.Commands.{command_of}
use Rattle.uvl_script.specs.Words.{is_separator, words_of}
use Rattle.uvl_script.specs.declared.command.Command.{Command}
use Rattle.uvl_script.specs.declared.fault.LineFault.{LineFault}
use Rattle.uvl_script.specs.declared.fault.WordFault.{WordFault}
use Rattle.uvl_script.specs.declared.fault.LineFault.TheVariants as line_fault
use Rattle.uvl_script.specs.declared.fault.WordFault.TheVariants as word_fault

-- a line without the CR at its end, where it has one
abbrev pub without_cr : List ℕ → List ℕ
without_cr [] = []
without_cr (b ∷ []) = if b == 13 then [] else b ∷ []
without_cr (b ∷ c ∷ bs) = b ∷ without_cr (c ∷ bs)

-- a text that is blank, or whose first character but spaces and tabs is `#`
abbrev pub is_silent : List ℕ → Bool
is_silent [] = true
is_silent (c ∷ cs) = if is_separator c then is_silent cs else c == 35

-- words that may not have been there
abbrev pub words_or_fault : Option (List (List ℕ)) → Result (List (List ℕ)) WordFault
words_or_fault None = Err word_fault.BadName
words_or_fault (Some words) = Ok words

-- the words of a text; a comment has none
abbrev pub words_of_text : List ℕ → Result (List (List ℕ)) WordFault
words_of_text text = if is_silent text then Ok [] else words_or_fault (words_of text)

-- the words of a line without its line end
abbrev pub words_of_line : List ℕ → Result (List (List ℕ)) WordFault
words_of_line line = if is_utf8 line then words_of_text (chars line) else Err word_fault.BadUtf8

-- the words of a line that may end with CR
abbrev pub words_of_ended : List ℕ → Result (List (List ℕ)) WordFault
words_of_ended line = words_of_line (without_cr line)

-- a line that has words has an answer
abbrev pub some_command : Result Command LineFault → Result (Option Command) LineFault
some_command (Ok command) = Ok (Some command)
some_command (Err fault) = Err fault

-- what a fault of the words is to their line
abbrev pub line_fault_of : WordFault → LineFault
line_fault_of word_fault.BadUtf8 = line_fault.BadUtf8
line_fault_of word_fault.BadName = line_fault.BadName
line_fault_of word_fault.OutOfMemory = line_fault.OutOfMemory

-- the command that words are, of which the first is its name; where there are none there is no command
abbrev pub reading_of_words : Result (List (List ℕ)) WordFault → Result (Option Command) LineFault
reading_of_words (Ok []) = Ok None
reading_of_words (Ok (name ∷ words)) = some_command (command_of name words)
reading_of_words (Err fault) = Err (line_fault_of fault)

-- what a line is read as: a command, nothing, or the first of its faults
abbrev pub reading_of : List ℕ → Result (Option Command) LineFault
reading_of line =
    if nat_lt most_line_bytes (length (without_cr line)) then Err line_fault.TooLong
    else reading_of_words (words_of_ended line)
