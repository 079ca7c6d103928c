use Rattle.uvl_parser.proofs.LevelTexts.{token_read, token_refused, token_missing}
use Rattle.uvl_parser.proofs.include_lines.level_token.Goals as goal

pub returns-in_default : goal.returns-in_default
returns-in_default c = token_missing _ _ c.in_default.ensures.cases

pub returns-then-branch : goal.returns-then-branch
returns-then-branch c = token_read _ _ _ _ _ _ c.in-Some.ensures.cases.0 c.in_ok-push_part.ensures c.if-branch.true

pub returns-else-branch : goal.returns-else-branch
returns-else-branch c = token_refused _ _ _ _ _ _ c.in-Some.ensures.cases.0 c.in_ok-push_part.ensures c.if-branch.false
