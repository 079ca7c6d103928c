-- The place of the name among the keys is its number.
use Rattle.std.proofs.Common.{is_some, refl, sym, ap, ◌∙◌}
use Rattle.std.specs.Option.{option_map}
use Rattle.std.proofs.lemmas.Bool.{false≢true}
use Rattle.uvl_model.specs.Spelling.{numbered}
use Rattle.uvl_model.proofs.NameKeys.{known-Decides, number-names_of_keys}
use Rattle.uvl_model.proofs.names.NameIndex.find.Goals as goal

pub returns-in_err-number-clause-exact : goal.returns-in_err-number-clause-exact
returns-in_err-number-clause-exact c =
    number-names_of_keys c.args.name.now c.utf8.name c.self.inside.names.keys c.args.self.now c.self.view_is c.self.invariant.0
    c.get_index_of.result c.get_index_of.ensures.index c.get_index_of.ensures.found
    c.from_residual.result (c.from_residual.ensures ∙ ap (option_map numbered) (sym c.in_err-number.was))

pub returns-in_err-number-clause-known : goal.returns-in_err-number-clause-known
returns-in_err-number-clause-known c =
    let known = known-Decides c.args.name.now c.utf8.name c.self.inside.names.keys _ c.get_index_of.ensures.found c.args.self.now c.self.view_is in
    let none = ap is_some c.in_err-number.was in
    ((λ some. absurd (false≢true (sym (ap is_some c.from_residual.ensures) ∙ some))), (λ there. absurd (false≢true (sym none ∙ known.1 there))))

pub returns-clause-exact : goal.returns-clause-exact
returns-clause-exact c =
    number-names_of_keys c.args.name.now c.utf8.name c.self.inside.names.keys c.args.self.now c.self.view_is c.self.invariant.0
    c.get_index_of.result c.get_index_of.ensures.index c.get_index_of.ensures.found
    _ (ap (option_map numbered) (sym c.in_ok-number.was))

pub returns-clause-known : goal.returns-clause-known
returns-clause-known c =
    let known = known-Decides c.args.name.now c.utf8.name c.self.inside.names.keys _ c.get_index_of.ensures.found c.args.self.now c.self.view_is in
    ((λ _. known.0 (ap is_some c.in_ok-number.was)), (λ _. refl))
