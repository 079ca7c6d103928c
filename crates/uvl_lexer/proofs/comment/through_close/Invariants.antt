-- The comment is closed where the rest is, behind so many characters more.
use Rattle.std.proofs.Common.{◌≡◌, ◌+◌, length}
use denote.Text.{Utf8}
use denote.Shadow.{shadow}
use Rattle.std.specs.Prelude.{chars}
use Rattle.std.specs.Option.{option_map}
use Rattle.uvl_lexer.specs.Pieces.{through_close}
use Rattle.uvl_lexer.proofs.comment.through_close.Given as goal

abbrev pub invariant-loop-parts : goal.invariant-loop-parts
invariant-loop-parts l =
    shadow (Utf8 l.rest)
    × (option_map (λ n. n + l.count) (through_close (chars l.rest)) ≡ through_close (chars l.text))
    × (length (chars l.rest) + l.count ≡ length (chars l.text))

abbrev pub decreases-loop-parts : goal.decreases-loop-parts
decreases-loop-parts l = length (chars l.rest)
