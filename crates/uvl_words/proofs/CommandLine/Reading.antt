-- What the words ask for, from the contract of `clap`.
use Rattle.std.proofs.Common.{◌≡◌, ◌∙◌, refl, ap, true, false, List, [], ◌∷◌, Option, Some, None}
use Rattle.clap.specs.Words.{IsAmong, Kinds, Row, Text, fault_of, is_simple, is_simple_and_free, matches_of}
use Rattle.clap.specs.Walk.{idle, nothing_held}
use Rattle.clap.specs.Simple.{built, entered}
use Rattle.clap.specs.Faults.{entered_fault, level_fault}
use Rattle.std.specs.Prelude.{is_some}
use Rattle.clap.specs.declared.error.kind.ErrorKind.{ErrorKind}
use Rattle.clap.proofs.OnLiterals.{clap_on_literals}
use Rattle.uvl_words.specs.CommandLineRules.{words_command}
use Rattle.uvl_words.specs.CommandLine.{request_of}
use Rattle.uvl_words.proofs.CommandLine.Walks.{answer, fault_of_walk, held_at, nothing, shape, walk_at}
use Rattle.uvl_words.proofs.CommandLine.Fronts.{Front}
use Rattle.uvl_words.proofs.CommandLine.Matching.{matches}

pub simple : is_simple words_command ≡ true
unfolding clap_on_literals
simple = refl

pub simple_and_free : is_simple_and_free words_command ≡ true
unfolding clap_on_literals
simple_and_free = refl

-- the command has no subcommand
no_subcommand : (words : List Text) (stop : Option (Text × List Text))
    → level_fault shape [] nothing_held words (is_some (entered (built words_command) stop)) (entered_fault (built words_command) stop)
    ≡ fault_of_walk (walk_at (held_at nothing) 1 false idle) words
no_subcommand words None = refl
no_subcommand words (Some p) = refl

-- what `clap` takes and finds is what the words ask for
pub reads : (words : List Text) → Front words → answer (fault_of words_command words) (matches_of words_command words) ≡ request_of words
unfolding request_of
reads words front =
    ap (λ (k : Kinds). answer k (matches_of words_command words)) (no_subcommand words _) ∙ matches words front

-- a kind of error among those that may come refuses the words
pub among_refuses : (k : ErrorKind) (kinds : Kinds) (rows : List Row) → IsAmong k kinds → answer kinds rows ≡ None
among_refuses k [] rows among = absurd among
among_refuses k (x ∷ xs) rows among = refl
