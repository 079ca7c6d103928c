-- A text without bytes is one without characters.
use Rattle.std.proofs.Common.{arith}
use Rattle.std.proofs.lemmas.Grind.{common_steps}
use Rattle.uvl_base.proofs.Texts.{is_empty-chars}
use Rattle.uvl_base.proofs.name.is_name.Goals as goal

pub returns-then-not-is_empty : goal.returns-then-not-is_empty
returns-then-not-is_empty c = let e = is_empty-chars _ c.utf8.text in grind (arith, common_steps)

pub returns-else-not-is_empty : goal.returns-else-not-is_empty
returns-else-not-is_empty c = let e = is_empty-chars _ c.utf8.text in grind (arith, common_steps)
