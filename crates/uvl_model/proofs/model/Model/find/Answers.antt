-- The index has the names of the rows.
use Rattle.std.proofs.Common.{◌≡◌, ◌↔◌, List, ℕ, Contains, ap, ◌∙◌, subst}
use Rattle.std.specs.Prelude.{chars, IsSome}
use Rattle.uvl_model.specs.Names.{feature_names}
use Rattle.uvl_semantics.proofs.Membership.{found_is_has}
use Rattle.uvl_model.proofs.model.Model.find.Goals as goal

-- the names of the index
indexed : (c : goal.After-find) → c.self.inside.names ≡ feature_names c.args.self.now
indexed c = c.self.invariant.1 ∙ ap feature_names c.self.view_is

pub returns-clause-feature : goal.returns-clause-feature
returns-clause-feature c =
    let name = chars c.args.name.now in
    let P : List (List ℕ) → Type 0 = λ names. IsSome c.find.result ↔ Contains names name in
    found_is_has (feature_names c.args.self.now) name c.find.result (subst P (indexed c) c.find.ensures.known)
