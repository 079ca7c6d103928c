use Rattle.uvl_parser.proofs.LevelTexts.{level_is}
use Rattle.uvl_parser.proofs.include_lines.level.Goals as goal

pub returns : goal.returns
returns c = rw (level_is c.args.tokens.now) c.level_text.ensures
