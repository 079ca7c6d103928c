-- The words copied so far stand in front of those that are left.
use denote.Shadow.{shadow}
use denote.Text.{Utf8}
use Rattle.std.proofs.Common.{◌≡◌, length}
use Rattle.std.specs.Prelude.{chars}
use Rattle.uvl_script.specs.Words.{words_of}
use Rattle.uvl_script.specs.steps.Pieces.{onto_all}
use Rattle.uvl_script.proofs.words.copy_words.Given as goal

abbrev pub invariant-loop-word : goal.invariant-loop-word
invariant-loop-word l = (words_of (chars l.fn.text) ≡ onto_all l.words.items (words_of (chars l.rest))) × shadow (Utf8 l.rest)

abbrev pub decreases-loop-word : goal.decreases-loop-word
decreases-loop-word l = length l.rest
