-- What is left of the text is read on as the whole of it is from its front.
use Rattle.std.proofs.Common.{◌≡◌, ◌+◌, length}
use denote.Text.{Utf8}
use denote.Shadow.{shadow}
use Rattle.std.specs.Prelude.{chars}
use Rattle.uvl_lexer.specs.Cut.{cut}
use Rattle.uvl_lexer.specs.steps.Turns.{read_through}
use Rattle.uvl_lexer.specs.Positions.{IsSound}
use Rattle.uvl_lexer.specs.steps.Reading.{read_on}
use Rattle.uvl_lexer.proofs.lexer.read_text.Given as goal

abbrev pub invariant-loop-piece : goal.invariant-loop-piece
invariant-loop-piece l =
    shadow (Utf8 l.rest)
    × IsSound l.reader.position
    × (l.reader.position.byte + length l.rest ≡ length l.text)
    × (read_through (chars l.text) ≡ read_on l.reader (cut (chars l.rest)))

abbrev pub decreases-loop-piece : goal.decreases-loop-piece
decreases-loop-piece l = length (chars l.rest)
