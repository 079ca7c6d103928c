-- A name that is there keeps its place, and another one goes last.
use Rattle.std.proofs.Common.{◌≡◌, Some, is_some, false, List, ℕ, ◌∷◌, ◌++◌, [], length, if◌then◌else◌, OnOk, refl, sym, ap, ◌∙◌, subst, arith, length-append}
use Rattle.std.specs.Option.{option_map}
use Rattle.std.specs.Prelude.{chars}
use Rattle.uvl_model.specs.Sound.{AreDistinct}
use Rattle.uvl_model.specs.Spelling.{numbered}
use Rattle.uvl_model.proofs.NameKeys.{has-names_of_keys, number-names_of_keys}
use Rattle.uvl_semantics.specs.Product.{has}
use Rattle.uvl_functions.specs.Placing.{with_name}
use Rattle.uvl_functions.proofs.naming.Names.place_name.Goals as goal

-- the look-up tells whether the name is there
found : (c : goal.In-Some) → is_some c.get_index_of.result ≡ has c.args.self.now c.args.name.now
found c =
    c.get_index_of.ensures.found ∙ has-names_of_keys c.text.result.now c.text.utf8 c.self.inside.texts.keys
    ∙ ap (λ names. has names (chars c.text.result.now)) (c.self.invariant.1 ∙ c.self.view_is) ∙ ap (has c.args.self.now) c.text.ensures.characters

absent : (c : goal.After-add-arg-in-None-1) → has c.args.self.now c.args.name.now ≡ false
absent c =
    sym (c.get_index_of.ensures.found ∙ has-names_of_keys c.text.result.now c.text.utf8 c.self.inside.texts.keys
    ∙ ap (λ names. has names (chars c.text.result.now)) (c.self.invariant.1 ∙ c.self.view_is) ∙ ap (has c.args.self.now) c.text.ensures.characters)
    ∙ ap is_some c.in-None.is

-- where a name isn't there it goes last
goes-last : (names : List (List ℕ)) (name : List ℕ) → has names name ≡ false → with_name names name ≡ names ++ name ∷ []
goes-last names name out = ap (λ b. if b then names else names ++ name ∷ []) out

pub add-requires-clause-room : goal.add-requires-clause-room
add-requires-clause-room c =
    let last = ap length (goes-last c.args.self.now c.args.name.now (absent c)) ∙ length-append c.args.self.now (c.args.name.now ∷ []) in
    let some = c.requires.room in
    omega arith

pub add-requires-clause-absent : goal.add-requires-clause-absent
add-requires-clause-absent c = absent c

pub returns-in-Some-clause-names : goal.returns-in-Some-clause-names
returns-in-Some-clause-names c =
    sym (ap (λ b. if b then c.args.self.now else c.args.self.now ++ c.args.name.now ∷ []) (sym (found c) ∙ ap is_some c.in-Some.is))

pub returns-in-Some-clause-named : goal.returns-in-Some-clause-named
returns-in-Some-clause-named c =
    let view = c.self.invariant.1 ∙ c.self.view_is in
    let exact = number-names_of_keys c.text.result.now c.text.utf8 c.self.inside.texts.keys c.args.self.now view
    (subst AreDistinct (sym c.self.invariant.1) c.self.invariant.0) c.get_index_of.result c.get_index_of.ensures.index c.get_index_of.ensures.found
    (option_map numbered c.get_index_of.result) refl c.in-Some.place in
    exact.0 (ap (option_map numbered) c.in-Some.is) ∙ ap Some c.text.ensures.characters

pub returns-in-None-clause-names : goal.returns-in-None-clause-names
returns-in-None-clause-names c =
    let out : has c.args.self.now c.args.name.now ≡ false =
    sym (c.get_index_of.ensures.found ∙ has-names_of_keys c.text.result.now c.text.utf8 c.self.inside.texts.keys
    ∙ ap (λ names. has names (chars c.text.result.now)) (c.self.invariant.1 ∙ c.self.view_is) ∙ ap (has c.args.self.now) c.text.ensures.characters)
    ∙ ap is_some c.in-None.is in
    subst (λ (names : List (List ℕ)). OnOk c.add.result (c.add.new.self ≡ names)) (sym (goes-last c.args.self.now c.args.name.now out)) c.add.ensures.names
