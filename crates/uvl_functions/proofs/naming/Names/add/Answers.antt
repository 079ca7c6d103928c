-- The texts are those of the names, and the new variable's number is the new name's place.
use Rattle.std.proofs.Common.{◌≡◌, [], ◌∷◌, ◌++◌, slice_get, sym, ap, ◌∙◌, subst, rules}
use Rattle.std.specs.Prelude.{chars}
use Rattle.std.proofs.lemmas.Bool.{false≢true}
use Rattle.uvl_model.specs.Sound.{AreDistinct}
use Rattle.uvl_model.proofs.NameKeys.{names_of_keys, has-names_of_keys, names-insert_key}
use Rattle.uvl_model.proofs.Places.{AreDistinct-push}
use Rattle.uvl_semantics.specs.Product.{has}
use Rattle.uvl_semantics.proofs.Membership.{has-from_Contains}
use Rattle.uvl_functions.proofs.Placed.{slice_get-seam, adds-one}
use Rattle.uvl_functions.proofs.naming.Names.add.Goals as goal

items : (c : goal.After-insert_within_capacity) → c.push_within_capacity.new.list.items ≡ c.args.self.now ++ c.args.name.now ∷ []
items c = search rules

texts : (c : goal.After-insert_within_capacity) → names_of_keys c.insert_within_capacity.new.texts.keys ≡ c.args.self.now ++ c.args.name.now ∷ []
texts c =
    let kept : c.reserve-2.new.self.keys ≡ c.self.inside.texts.keys = search rules in
    let inserted = c.insert_within_capacity.ensures in
    let out = sym (has-names_of_keys c.text.result.now c.text.utf8 c.self.inside.texts.keys
    ∙ ap (λ names. has names (chars c.text.result.now)) (c.self.invariant.1 ∙ c.self.view_is) ∙ ap (has c.args.self.now) c.text.ensures.characters) in
    names-insert_key c.text.result.now c.text.utf8 c.self.inside.texts.keys c.insert_within_capacity.new.texts.keys c.in_ok-text.text c.in_ok-text.ensures.ok
    (sym out ∙ c.requires.absent) (search rules)
    ∙ ap (λ names. names ++ chars c.text.result.now ∷ []) (c.self.invariant.1 ∙ c.self.view_is)
    ∙ ap (λ name. c.args.self.now ++ name ∷ []) c.text.ensures.characters

pub invariant_of-self-2 : goal.invariant_of-self-2
invariant_of-self-2 c = (
  subst AreDistinct (sym (items c))
      (AreDistinct-push c.args.self.now c.args.name.now (subst AreDistinct c.self.view_is c.self.invariant.0)
      (λ there. false≢true (sym c.requires.absent ∙ has-from_Contains c.args.self.now c.args.name.now there))),
  texts c ∙ sym (items c),
)

pub returns-clause-named : goal.returns-clause-named
returns-clause-named c =
    ap (λ names. slice_get names c.in-Ok.var.0) (items c)
    ∙ slice_get-seam c.args.self.now c.args.name.now c.in-Ok.var.0 (c.in-Ok.ensures.number ∙ sym c.requires.as_many)

pub returns-clause-adds : goal.returns-clause-adds
returns-clause-adds c =
    adds-one c.args.kernel.now c.add_variable.new.self c.in-Ok.var c.in-Ok.ensures.number c.in-Ok.ensures.last c.in-Ok.ensures.handles c.in-Ok.ensures.nodes
    c.in-Ok.ensures.values c.in-Ok.ensures.sound
