-- The members of a group that may not be absent where their parent is there.
use Rattle.std.proofs.Common.{◌≡◌, ◌<◌, ◌||◌, ◌&&◌, ℕ, Bool, true, false, not, List, [], length, get_or, nat_lt, Some, sym, ap, ◌∙◌, subst, arith}
use Rattle.std.specs.Prelude.{slice_get}
use Rattle.std.specs.List.{All}
use Rattle.std.proofs.lemmas.Bool.Decides.{nat_tests}
use Rattle.std.proofs.lemmas.List.Elements.{All-nil, All-cons, All-get_or}
use Rattle.std.proofs.lemmas.Option.{same_Some, slice_get-get_or}
use Rattle.dd_store.specs.declared.row.Var.{Var}
use Rattle.dd_store.specs.Table.{IsVariable}
use Rattle.dd_quant.specs.declared.literal.Literal.{Literal}
use Rattle.dd_quant.specs.declared.offer.Offer.{Offer}
use Rattle.dd_quant.specs.Possible.{literal_of}
use Rattle.uvl_compile.proofs.Among.{row-among}
use Rattle.uvl_model.specs.declared.rows.FeatureNo.{FeatureNo}
use Rattle.uvl_model.specs.Products.{Products}
use Rattle.uvl_model.specs.Spelling.{numbered}
use Rattle.uvl_analyses.specs.Analyses.{comes_with}
use Rattle.uvl_analyses.specs.Listed.{is_named, stays, var_of}
use Rattle.uvl_analyses.specs.Members.{is_dead_in, is_member, leaves_out, name_in}
use Rattle.uvl_analyses.proofs.Meaning.{stays_is}
use Rattle.uvl_analyses.proofs.optional.mark_group.Goals as goal

pub of-requires : goal.of-requires
of-requires c = (row-among c.args.kernel.now c.args.it.now.model c.args.it.now.map c.args.group.now c.requires.compiled.variables c.features.ensures.sound c.requires.there).parent

-- the variable of a feature
variable : (vars : List Var) (k : ℕ) (v : Var) → k < length vars → slice_get vars k ≡ Some v → v ≡ get_or vars k (record { 0 = 0 })
variable vars k v within at = same_Some _ _ (sym at ∙ slice_get-get_or vars k (record { 0 = 0 }) within)

pub offers_with-requires-clause-literals : goal.offers_with-requires-clause-literals
offers_with-requires-clause-literals c =
    let vars : List Var = c.args.it.now.map in
    let p = c.args.group.now.parent.0 in
    let above = (row-among c.args.kernel.now c.args.it.now.model vars c.args.group.now c.requires.compiled.variables c.features.ensures.sound c.requires.there).parent in
    let there = All-get_or (λ (v : Var). IsVariable c.args.kernel.now v.0) vars p (record { 0 = 0 }) above c.requires.compiled.variables.there in
    All-cons (λ (l : Literal). IsVariable c.args.kernel.now l.var.0) (record { var = c.of.result; value = true }) []
    (subst (λ (v : Var). IsVariable c.args.kernel.now v.0) (sym (variable vars p c.of.result above c.of.ensures)) there)
    (All-nil (λ (l : Literal). IsVariable c.args.kernel.now l.var.0))

pub mark_members-requires-clause-there : goal.mark_members-requires-clause-there
mark_members-requires-clause-there c =
    let inside = (row-among c.args.kernel.now c.args.it.now.model c.args.it.now.map c.args.group.now c.requires.compiled.variables c.features.ensures.sound c.requires.there).members in
    subst (λ (vs : List Var). All (λ (f : FeatureNo). f.0 < length vs) c.as_slice-members.result.now) (sym c.vars.ensures)
    (subst (λ (fs : List FeatureNo). All (λ (f : FeatureNo). f.0 < length c.args.it.now.map) fs) (sym c.as_slice-members.ensures) inside)

-- a group that lets its parent leave one out keeps a member by the rest
left_out : (lets named comes dead : Bool) → lets ≡ true → (dead && (true && named && comes)) ≡ (dead && (lets && named && comes))
left_out lets named comes dead e = ap (λ l. dead && (l && named && comes)) (sym e)

test_of : (m n : ℕ) → m < n → nat_lt m n ≡ true
test_of m n less = grind (arith, nat_tests)

pub returns : goal.returns
returns c = λ n inside.
    let rows = c.args.it.now.model in
    let vars : List Var = c.args.it.now.map in
    let group = c.args.group.now in
    let p = group.parent.0 in
    let count = c.requires.compiled.variables.count in
    let within : n < length vars = omega (arith, count, inside) in
    let above = (row-among c.args.kernel.now rows vars group c.requires.compiled.variables c.features.ensures.sound c.requires.there).parent in
    let parent : Literal = record { var = c.of.result; value = true } in
    let is : parent ≡ literal_of (var_of vars (numbered p)) true =
    ap (λ (v : Var). let l : Literal = record { var = v; value = true } in l) (variable vars p c.of.result above c.of.ensures) in
    let marked = c.mark_members.ensures n (subst (λ (vs : List Var). n < length vs) (sym c.vars.ensures) within) in
    let size = ap (λ (fs : List FeatureNo). length fs) c.as_slice-members.ensures in
    let lets : leaves_out group ≡ true = test_of group.lo (length group.members) (omega (arith, size, c.if-group-members.false)) in
    marked
    ∙ ap (λ (vs : List Var). get_or c.args.kept.now n false || (is_named c.as_slice-members.result.now (numbered n) && stays vs c.args.open.now c.deref.result.now (numbered n))) c.vars.ensures
    ∙ ap (λ (os : List Offer). get_or c.args.kept.now n false || (is_named c.as_slice-members.result.now (numbered n) && stays vars c.args.open.now os (numbered n))) c.deref.ensures.value
    ∙ ap (λ (fs : List FeatureNo). get_or c.args.kept.now n false || (is_named fs (numbered n) && stays vars c.args.open.now c.in_ok-given.given.items (numbered n))) c.as_slice-members.ensures
    ∙ ap (λ b. get_or c.args.kept.now n false || b)
    (stays_is rows c.args.kernel.now vars c.args.it.now.products c.requires.compiled c.products_are_sets.ensures c.features.ensures.sound c.args.open.now c.in_ok-given.given.items p n parent
    (is_member group (numbered n)) is c.requires.offered c.in_ok-given.ensures above within
    ∙ left_out (leaves_out group) (is_member group (numbered n)) (comes_with (Products rows) (name_in rows group.parent) (name_in rows (numbered n))) (not (is_dead_in rows (numbered n))) lets)
