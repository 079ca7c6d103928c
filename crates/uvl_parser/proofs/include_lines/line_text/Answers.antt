use Rattle.uvl_parser.proofs.LevelTexts.{line_read}
use Rattle.uvl_parser.proofs.include_lines.line_text.Goals as goal

pub returns : goal.returns
returns c = line_read _ _ _ _ _ _ c.new-text.ensures.bytes c.in_ok-behind.ensures c.in_ok-rest.ensures
