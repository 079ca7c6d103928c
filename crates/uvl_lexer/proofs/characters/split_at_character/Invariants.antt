-- What is left are the characters behind those taken, and the bytes at the end of the text.
use denote.Text.{Utf8}
use denote.Shadow.{shadow}
use Rattle.uvl_lexer.proofs.Splits.{Taken}
use Rattle.uvl_lexer.proofs.characters.split_at_character.Given as goal

abbrev pub invariant-loop-taken : goal.invariant-loop-taken
invariant-loop-taken l = shadow (Utf8 l.rest) × Taken l.text l.rest l._taken
