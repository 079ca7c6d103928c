-- What is left has words exactly where the whole text has.
use denote.Shadow.{shadow}
use denote.Text.{Utf8}
use Rattle.std.proofs.Common.{◌≡◌, length, is_some}
use Rattle.std.specs.Prelude.{chars}
use Rattle.uvl_script.specs.Words.{words_of}
use Rattle.uvl_script.proofs.words.has_words.Given as goal

abbrev pub invariant-loop-behind : goal.invariant-loop-behind
invariant-loop-behind l = (is_some (words_of (chars l.rest)) ≡ is_some (words_of (chars l.fn.text))) × shadow (Utf8 l.rest)

abbrev pub decreases-loop-behind : goal.decreases-loop-behind
decreases-loop-behind l = length l.rest
