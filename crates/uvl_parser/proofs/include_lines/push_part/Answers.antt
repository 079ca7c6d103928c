use Rattle.std.proofs.Common.{refl, ap, ◌∙◌}
use Rattle.std.specs.Str.{chars}
use Rattle.uvl_parser.proofs.LevelTexts.{appended, word_chars}
use Rattle.uvl_parser.proofs.include_lines.push_part.Goals as goal

pub returns-in_ok-push_text-in-Word : goal.returns-in_ok-push_text-in-Word
returns-in_ok-push_text-in-Word c =
    rw c.in-Word.is (refl, appended _ _ _ _ c.in_ok-push_text-in-Word.ensures (ap chars c.text-in-Word.ensures.spelling ∙ word_chars c.in-Word.word))
