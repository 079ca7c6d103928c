-- The count so far, with that of the rest, is the count of all.
use Rattle.std.proofs.Common.{◌≡◌, ◌+◌, length, drop}
use Rattle.std.specs.Str.{chars}
use Rattle.std.specs.List.{prefix_len}
use Rattle.uvl_lexer.specs.Characters.{is_of_class}
use Rattle.uvl_lexer.proofs.characters.count_characters_while.Given as goal

abbrev pub invariant-loop-character : goal.invariant-loop-character
invariant-loop-character l =
    (l.count ≡ length l.yielded)
    × (l.count + prefix_len (is_of_class l.class) (drop l.count (chars l.text)) ≡ prefix_len (is_of_class l.class) (chars l.text))
