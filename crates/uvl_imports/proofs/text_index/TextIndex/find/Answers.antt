-- The place of the text among the keys.
use Rattle.std.proofs.Common.{ap, ◌∙◌}
use Rattle.uvl_imports.specs.Texts.{has, place_of}
use Rattle.uvl_imports.proofs.TextKeys.{has-texts_of, place-texts_of}
use Rattle.uvl_imports.proofs.text_index.TextIndex.find.Goals as goal

pub returns-clause-place : goal.returns-clause-place
returns-clause-place c = c.get_index_of.ensures.index ∙ place-texts_of c.args.text.now c.self.inside.texts.keys ∙ ap (place_of c.args.text.now) c.self.view_is

pub returns-clause-found : goal.returns-clause-found
returns-clause-found c = c.get_index_of.ensures.found ∙ has-texts_of c.args.text.now c.self.inside.texts.keys ∙ ap (λ ts. has ts c.args.text.now) c.self.view_is
