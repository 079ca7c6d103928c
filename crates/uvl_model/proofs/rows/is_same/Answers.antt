-- Texts are compared by their characters.
use Rattle.std.proofs.Common.{◌∙◌}
use Rattle.uvl_model.proofs.Texts.{same_chars}
use Rattle.uvl_model.proofs.rows.is_same.Goals as goal

pub returns : goal.returns
returns c = c.eq.ensures ∙ same_chars c.args.first.now c.args.second.now c.utf8.first c.utf8.second
