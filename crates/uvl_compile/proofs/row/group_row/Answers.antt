-- The group's members are counted by their variables.
use Rattle.std.proofs.Common.{◌≡◌, ◌<◌, IfOk, IfErr, List, [], ◌∷◌, length, ap, sym, ◌∙◌, subst}
use Rattle.std.specs.List.{All}
use Rattle.dd_store.specs.declared.row.Var.{Var}
use Rattle.dd_store.specs.Exhausted.{value_at}
use Rattle.dd_store.specs.Size.{Function}
use Rattle.dd_count.specs.Members.{AreMembers}
use Rattle.uvl_functions.specs.Cause.{IsShortFor}
use Rattle.uvl_functions.specs.Groups.{row_parts}
use Rattle.uvl_model.specs.declared.rows.FeatureNo.{FeatureNo}
use Rattle.uvl_compile.specs.Members.{IsAmong, variable_of, variables_of, choice_by_parent, made_parts}
use Rattle.uvl_compile.proofs.Among.{row-among}
use Rattle.uvl_compile.proofs.HandleLemmas.{one-there}
use Rattle.uvl_compile.proofs.RowFunctions.{group-is, made-within, members-are, variable-is}
use Rattle.uvl_compile.proofs.Trades.{told-more}
use Rattle.uvl_compile.proofs.row.group_row.Goals as goal

pub variables-requires : goal.variables-requires
variables-requires c =
    let among = row-among c.args.kernel.now c.args.model.now c.args.map.now c.args.row.now c.requires.variables c.groups.ensures.sound c.requires.row in
    subst (λ (fs : List FeatureNo). All (λ (f : FeatureNo). f.0 < length c.args.map.now) fs) (sym c.as_slice.ensures) among.members

pub of-parent-requires : goal.of-parent-requires
of-parent-requires c =
    (row-among c.args.kernel.now c.args.model.now c.args.map.now c.args.row.now c.requires.variables c.groups.ensures.sound c.requires.row).parent

pub counted_row-requires-clause-parent : goal.counted_row-requires-clause-parent
counted_row-requires-clause-parent c =
    one-there c.args.kernel.now c.args.map.now c.args.row.now.parent.0 c.of-parent.result c.requires.variables.there c.of-parent.ensures

pub counted_row-requires-clause-members : goal.counted_row-requires-clause-members
counted_row-requires-clause-members c =
    let vars = c.args.map.now in
    let row = c.args.row.now in
    let among = row-among c.args.kernel.now c.args.model.now vars row c.requires.variables c.groups.ensures.sound c.requires.row in
    let is : c.deref.result.now ≡ variables_of vars row.members = c.deref.ensures.value ∙ c.in_ok-members.ensures ∙ ap (variables_of vars) c.as_slice.ensures in
    subst (λ (vs : List Var). AreMembers c.args.kernel.now vs) (sym is) (members-are c.args.kernel.now vars row c.requires.variables.there c.requires.variables.distinct among)

-- the members and the parent, as they are read
members-read : (c : goal.After-drop-members) → c.deref.result.now ≡ variables_of c.args.map.now c.args.row.now.members
members-read c = c.deref.ensures.value ∙ c.in_ok-members.ensures ∙ ap (variables_of c.args.map.now) c.as_slice.ensures

parent-read : (c : goal.After-drop-members) → c.of-parent.result ≡ variable_of c.args.map.now c.args.row.now.parent
parent-read c = variable-is c.args.map.now c.args.row.now.parent c.of-parent.result c.of-parent.ensures

among : (c : goal.After-drop-members) → IsAmong (length c.args.map.now) c.args.row.now
among c = row-among c.args.kernel.now c.args.model.now c.args.map.now c.args.row.now c.requires.variables c.groups.ensures.sound c.requires.row

pub returns-clause-value : goal.returns-clause-value
returns-clause-value c =
    let vars = c.args.map.now in
    let row = c.args.row.now in
    let is = ap (λ (v : Var). choice_by_parent v c.deref.result.now row.lo row.hi) (parent-read c)
    ∙ ap (λ (vs : List Var). choice_by_parent (variable_of vars row.parent) vs row.lo row.hi) (members-read c)
    ∙ group-is vars row (among c) in
    subst (λ (f : Function). IfOk c.counted_row.result (λ h. value_at c.counted_row.new.kernel h ≡ f)) is c.counted_row.ensures.value

pub returns-clause-cause : goal.returns-clause-cause
returns-clause-cause c =
    let vars = c.args.map.now in
    let row = c.args.row.now in
    let is = ap (λ (v : Var). made_parts v c.deref.result.now row.lo row.hi) (parent-read c)
    ∙ ap (λ (vs : List Var). made_parts (variable_of vars row.parent) vs row.lo row.hi) (members-read c) in
    told-more c.args.kernel.now (made_parts (variable_of vars row.parent) (variables_of vars row.members) row.lo row.hi) (row_parts vars row) c.counted_row.result
    (made-within vars row (among c))
    (subst (λ (fs : List Function). IfErr c.counted_row.result (IsShortFor c.args.kernel.now (fs ∷ []))) is c.counted_row.ensures.cause)
