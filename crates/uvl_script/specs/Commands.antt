-- The commands of a script.
use Rattle.std.specs.Prelude.{ℕ, List, [], ◌∷◌, codes, encode_utf8_all, Option, Some, None, Result, Ok, Err}
use Rattle.std.specs.List.{find}
use Rattle.std.specs.Option.{option_map}
use Rattle.std.specs.Str.{bytes_eq}
use Rattle.uvl_script.specs.declared.command.Command.{Command}
use Rattle.uvl_script.specs.declared.command.Command.TheVariants.{Valid, Void, Dead, Core, FalseOpt}
use Rattle.uvl_script.specs.declared.command.CommandName.{CommandName}
use Rattle.uvl_script.specs.declared.command.CommandName.TheVariants as called
use Rattle.uvl_script.specs.declared.fault.LineFault.{LineFault}
use Rattle.uvl_script.specs.declared.fault.LineFault.TheVariants.{UnknownCommand, WrongArity}

-- the commands, each with its name
abbrev pub commands : List (List ℕ × CommandName)
commands =
    (codes "valid", called.Valid)
    ∷ (codes "void", called.Void)
    ∷ (codes "dead", called.Dead)
    ∷ (codes "core", called.Core)
    ∷ (codes "falseopt", called.FalseOpt)
    ∷ []

-- the command that some bytes name, if there is one
abbrev pub command_named : List ℕ → Option CommandName
command_named bytes = option_map (λ command. command.1) (find (λ command. bytes_eq bytes command.0) commands)

-- a command that takes no words
abbrev pub without_words : Command → List (List ℕ) → Result Command LineFault
without_words command [] = Ok command
without_words command (word ∷ words) = Err WrongArity

-- the command that is called so, with the words behind its name
abbrev pub command_with : CommandName → List (List ℕ) → Result Command LineFault
command_with called.Valid words = Ok (Valid words)
command_with called.Void words = without_words Void words
command_with called.Dead words = without_words Dead words
command_with called.Core words = without_words Core words
command_with called.FalseOpt words = without_words FalseOpt words

-- where there is such a command it is told by its words
abbrev pub command_or_fault : Option CommandName → List (List ℕ) → Result Command LineFault
command_or_fault None words = Err UnknownCommand
command_or_fault (Some name) words = command_with name words

-- the command of this name with the words behind it
abbrev pub command_of : List ℕ → List (List ℕ) → Result Command LineFault
command_of name words = command_or_fault (command_named (encode_utf8_all name)) words
