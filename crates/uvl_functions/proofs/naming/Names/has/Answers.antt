-- A name is there where its text is among the texts.
use Rattle.std.proofs.Common.{ap, ◌∙◌}
use Rattle.std.specs.Prelude.{chars}
use Rattle.uvl_model.proofs.NameKeys.{has-names_of_keys}
use Rattle.uvl_semantics.specs.Product.{has}
use Rattle.uvl_functions.proofs.naming.Names.has.Goals as goal

pub returns : goal.returns
returns c =
    c.contains.ensures ∙ has-names_of_keys c.text.result.now c.text.utf8 c.self.inside.texts.keys
    ∙ ap (λ names. has names (chars c.text.result.now)) (c.self.invariant.1 ∙ c.self.view_is) ∙ ap (has c.args.self.now) c.text.ensures.characters
