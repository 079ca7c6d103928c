-- What the reference places.
use Rattle.std.proofs.Common.{◌≡◌, ℕ, List, ◌++◌, ◌∷◌, [], Option, Some, sym, ap, ◌∙◌, subst, OnOk}
use Rattle.std.specs.Prelude.{chars, option_copied}
use Rattle.uvl_ast.specs.declared.feature.Feature.{out-Feature}
use Rattle.uvl_placing.specs.Names.{dotted, front_of}
use Rattle.uvl_scope.specs.declared.scope.Scope.{Scope}
use Rattle.uvl_scope.specs.Brought.{Brought, placed, together}
use Rattle.uvl_scope.specs.LineFaults.{Finding}
use Rattle.uvl_scope.specs.Lines.{line_of}
use Rattle.uvl_scope.specs.steps.Lines.{fault_of_found}
use Rattle.uvl_scope.specs.steps.Offers.{placed_by}
use Rattle.uvl_scope.specs.steps.Walk.{IsFound, brought_of}
use Rattle.uvl_scope.proofs.PlacedParts.{qualifier_at, found_at}
use Rattle.uvl_scope.proofs.tally.Tally.place.Goals as goal

-- the parts of the reference, and the qualifier
parts_are : (c : goal.After-drop-qualifier-2) → (out-Feature c.args.line.now).name.parts ≡ c.in-Some.front.now ++ c.in-Some.root.now ∷ []
parts_are c = sym c.as_slice.ensures ∙ c.in-Some.ensures.cases.0

pub returns-in_default-placed-clause-found : goal.returns-in_default-placed-clause-found
returns-in_default-placed-clause-found c =
    let line = line_of (out-Feature c.args.line.now) c.args.depth in
    let parts : (out-Feature c.args.line.now).name.parts ≡ c.in-Some.front.now ++ c.in-Some.root.now ∷ [] = sym c.as_slice.ensures ∙ c.in-Some.ensures.cases.0 in
    let called : chars c.deref.result.now ≡ dotted c.in-Some.front.now = ap chars c.deref.ensures ∙ c.in_ok-qualifier.ensures in
    ap (λ (f : Option Scope). fault_of_found (brought_of c.args.self.now) (dotted (front_of line.reference.parts)) f line)
    (found_at c.args.scopes.now c.args.imports.now line.reference.parts c.in-Some.front.now c.in-Some.root.now (chars c.deref.result.now) (option_copied c.placed.result) parts
    called c.placed.ensures
    ∙ ap (λ o. option_copied o) c.in_default-placed.is)

-- what is placed
placed_is : (c : goal.After-drop-qualifier-2) → placed_by c.args.scopes.now c.args.imports.now (out-Feature c.args.line.now).name.parts ≡ Some c.in-Some-placed.scope.now
placed_is c =
    found_at c.args.scopes.now c.args.imports.now (out-Feature c.args.line.now).name.parts c.in-Some.front.now c.in-Some.root.now (chars c.deref.result.now)
    (option_copied c.placed.result) (parts_are c) (ap chars c.deref.ensures ∙ c.in_ok-qualifier.ensures) c.placed.ensures
    ∙ ap (λ o. option_copied o) c.in-Some-placed.is

qualifier_is : (c : goal.After-drop-qualifier-2) → dotted (front_of (out-Feature c.args.line.now).name.parts) ≡ chars c.deref-2.result.now
qualifier_is c =
    qualifier_at (out-Feature c.args.line.now).name.parts c.in-Some.front.now c.in-Some.root.now (chars c.deref-2.result.now) (parts_are c)
    (ap chars c.deref-2.ensures ∙ c.in_ok-qualifier.ensures)

pub returns-clause-found : goal.returns-clause-found
returns-clause-found c =
    let line = line_of (out-Feature c.args.line.now) c.args.depth in
    let before = brought_of c.args.self.now in
    subst (λ (f : Option Finding). IsFound f c.place_scope.result)
    (sym (ap (λ (f : Option Scope). fault_of_found before (dotted (front_of line.reference.parts)) f line) (placed_is c)
    ∙ ap (λ (q : List ℕ). fault_of_found before q (Some c.in-Some-placed.scope.now) line) (qualifier_is c)))
    c.place_scope.ensures.found

pub returns-clause-brought : goal.returns-clause-brought
returns-clause-brought c =
    subst (λ (b : Brought). OnOk c.place_scope.result (brought_of c.place_scope.new.self ≡ together (brought_of c.args.self.now) b))
    (sym (ap (placed c.args.depth (dotted (front_of (out-Feature c.args.line.now).name.parts))) (placed_is c)
    ∙ ap (λ (q : List ℕ). placed c.args.depth q (Some c.in-Some-placed.scope.now)) (qualifier_is c)))
    c.place_scope.ensures.brought
