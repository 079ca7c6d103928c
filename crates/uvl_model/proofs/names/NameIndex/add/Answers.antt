-- A new name goes last, and the names stay distinct.
use Rattle.std.proofs.Common.{◌≡◌, [], ◌∷◌, ◌++◌, length, Contains, refl, sym, ap, ◌∙◌, subst, string_bytes, arith}
use Rattle.std.specs.Prelude.{chars}
use Rattle.std.proofs.lemmas.Bool.{false≢true}
use Rattle.std.proofs.lemmas.List.{length-map, length-append}
use Rattle.uvl_model.specs.Sound.{AreDistinct}
use Rattle.uvl_model.proofs.NameKeys.{names_of_keys, known-Decides, names-insert_key}
use Rattle.uvl_model.proofs.Places.{AreDistinct-push}
use Rattle.uvl_model.proofs.names.NameIndex.add.Goals as goal

pub returns-then-contains-clause-known : goal.returns-then-contains-clause-known
returns-then-contains-clause-known c =
    let known = known-Decides c.args.name.now c.utf8.name c.self.inside.names.keys _ c.contains.ensures c.args.self.now c.self.view_is in
    ((λ _. known.0 c.if-contains.true), (λ _. refl))

-- the names behind a new key
names_after : (c : goal.In_ok-insert) → names_of_keys c.insert.new.self.keys ≡ c.args.self.now ++ chars c.args.name.now ∷ []
names_after c =
    names-insert_key c.args.name.now c.utf8.name c.self.inside.names.keys c.insert.new.self.keys c.in_ok-name.name c.in_ok-name.ensures.ok
    (sym c.contains.ensures ∙ c.if-contains.false) c.in_ok-insert.ensures.keys
    ∙ ap (λ names. names ++ chars c.args.name.now ∷ []) c.self.view_is

-- the name isn't there before
new_name : (c : goal.In_ok-insert) → Contains c.args.self.now (chars c.args.name.now) → ⊥
new_name c there =
    let known = known-Decides c.args.name.now c.utf8.name c.self.inside.names.keys _ c.contains.ensures c.args.self.now c.self.view_is in
    false≢true (sym c.if-contains.false ∙ known.1 there)

distinct_after : (c : goal.In_ok-insert) → AreDistinct (names_of_keys c.insert.new.self.keys)
distinct_after c =
    let before = subst AreDistinct c.self.view_is c.self.invariant.0 in
    subst AreDistinct (sym (names_after c)) (AreDistinct-push c.args.self.now (chars c.args.name.now) before (new_name c))

pub invariant_of-self-2 : goal.invariant_of-self-2
invariant_of-self-2 c =
    let count : length c.insert.new.self.keys ≡ length (c.args.self.now ++ chars c.args.name.now ∷ []) =
    sym (length-map c.insert.new.self.keys (λ name. chars (string_bytes name))) ∙ ap length (names_after c) in
    (distinct_after c, omega (arith, count, length-append c.args.self.now (chars c.args.name.now ∷ []), c.requires))

pub returns-clause-added : goal.returns-clause-added
returns-clause-added c = names_after c

pub returns-clause-known : goal.returns-clause-known
returns-clause-known c = ((λ e. absurd (false≢true (sym e))), (λ there. absurd (new_name c there)))

pub returns-clause-distinct : goal.returns-clause-distinct
returns-clause-distinct c = distinct_after c
