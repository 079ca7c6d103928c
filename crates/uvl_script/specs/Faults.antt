-- The words that a refused line is answered with.
use Rattle.std.specs.Prelude.{ℕ, List, Option, Some, None, codes}
use Rattle.uvl_script.specs.declared.fault.LineFault.{LineFault}
use Rattle.uvl_script.specs.declared.fault.LineFault.TheVariants.{TooLong, BadUtf8, BadName, UnknownCommand, WrongArity, OutOfMemory}

-- the word of a refusal; want of memory is none
abbrev pub word_of : LineFault → Option (List ℕ)
word_of TooLong = Some (codes "too-long")
word_of BadUtf8 = Some (codes "bad-utf8")
word_of BadName = Some (codes "bad-name")
word_of UnknownCommand = Some (codes "unknown-command")
word_of WrongArity = Some (codes "wrong-arity")
word_of OutOfMemory = None
