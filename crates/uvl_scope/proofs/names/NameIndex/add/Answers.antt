-- A new name goes last, and the names stay distinct.
use Rattle.std.proofs.Common.{◌++◌, ◌∷◌, [], ap, ◌∙◌, not, if◌then◌else◌, List, ℕ}
use Rattle.std.specs.Prelude.{chars}
use Rattle.uvl_semantics.specs.Product.{has}
use Rattle.uvl_scope.proofs.Distinct.{distinct-added}
use Rattle.uvl_scope.proofs.NameKeys.{names-added}
use Rattle.uvl_scope.proofs.names.NameIndex.add.Goals as goal

pub invariant_of-self-2 : goal.invariant_of-self-2
invariant_of-self-2 c =
    let more = names-added c.args.name.now c.utf8.name c.self.inside.names.keys c.insert_full.new.self.keys c.in_ok-name.name c.in_ok-_number.new c.in_ok-name.ensures.ok
    c.in_ok-_number.ensures.added c.in_ok-_number.ensures.keys in
    distinct-added _ _ (chars c.args.name.now) c.in_ok-_number.new c.self.invariant more.0 more.1

pub returns-clause-known : goal.returns-clause-known
returns-clause-known c =
    let more = names-added c.args.name.now c.utf8.name c.self.inside.names.keys c.insert_full.new.self.keys c.in_ok-name.name c.in_ok-_number.new c.in_ok-name.ensures.ok
    c.in_ok-_number.ensures.added c.in_ok-_number.ensures.keys in
    more.0 ∙ ap (λ (ns : List (List ℕ)). not (has ns (chars c.args.name.now))) c.self.view_is

pub returns-clause-added : goal.returns-clause-added
returns-clause-added c =
    let more = names-added c.args.name.now c.utf8.name c.self.inside.names.keys c.insert_full.new.self.keys c.in_ok-name.name c.in_ok-_number.new c.in_ok-name.ensures.ok
    c.in_ok-_number.ensures.added c.in_ok-_number.ensures.keys in
    more.1 ∙ ap (λ (ns : List (List ℕ)). if c.in_ok-_number.new then ns ++ chars c.args.name.now ∷ [] else ns) c.self.view_is
