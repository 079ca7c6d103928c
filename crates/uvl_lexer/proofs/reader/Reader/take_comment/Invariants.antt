-- What is left of the comment is read on as the whole of it is from its front.
use Rattle.std.proofs.Common.{◌≡◌, ◌+◌, length}
use denote.Text.{Utf8}
use denote.Shadow.{shadow}
use Rattle.std.specs.Prelude.{chars}
use Rattle.uvl_lexer.specs.Cut.{Cut, comment_onto}
use Rattle.uvl_lexer.specs.Positions.{IsSound}
use Rattle.uvl_lexer.specs.steps.Reading.{read_on}
use Rattle.uvl_lexer.proofs.reader.Reader.take_comment.Given as goal

abbrev pub invariant-loop-piece : goal.invariant-loop-piece
invariant-loop-piece l =
    shadow (Utf8 l.rest)
    × IsSound l.self.position
    × (l.self.position.byte + length l.rest ≡ l.initial.self.position.byte + length l.comment)
    × ((more : Cut) → read_on l.initial.self (comment_onto (chars l.comment) more) ≡ read_on l.self (comment_onto (chars l.rest) more))

abbrev pub decreases-loop-piece : goal.decreases-loop-piece
decreases-loop-piece l = length (chars l.rest)
