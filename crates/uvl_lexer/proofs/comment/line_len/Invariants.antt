-- The count so far, with that of the rest, is the count of all.
use Rattle.std.proofs.Common.{◌≡◌, ◌+◌, length}
use denote.Text.{Utf8}
use denote.Shadow.{shadow}
use Rattle.std.specs.Prelude.{chars}
use Rattle.uvl_lexer.specs.Pieces.{line_len}
use Rattle.uvl_lexer.proofs.comment.line_len.Given as goal

abbrev pub invariant-loop-parts : goal.invariant-loop-parts
invariant-loop-parts l =
    shadow (Utf8 l.rest)
    × (line_len (chars l.rest) + l.count ≡ line_len (chars l.text))
    × (length (chars l.rest) + l.count ≡ length (chars l.text))

abbrev pub decreases-loop-parts : goal.decreases-loop-parts
decreases-loop-parts l = length (chars l.rest)
