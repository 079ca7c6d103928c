-- From the root and the last group to the first.
use Rattle.std.proofs.Common.{◌≡◌, ℕ, ◌+◌, ◌-◌, ◌<◌, List, length, drop, get_or, ap, sym, ◌∙◌, subst, arith}
use Rattle.std.proofs.lemmas.Result.{err_from_is_err_and}
use Rattle.dd_store.specs.Size.{Function}
use Rattle.uvl_functions.specs.Functions.{tree_function}
use Rattle.uvl_model.specs.declared.rows.GroupRow.{GroupRow}
use Rattle.uvl_compile.proofs.HandleLemmas.{keeps-behind}
use Rattle.uvl_compile.proofs.TreeLemmas.{IsTreeFrom, tree-begins, tree-none, tree-goes-on, cause-root, cause-group}
use Rattle.uvl_compile.proofs.tree.compile_tree.Goals as goal

one-less : (left : ℕ) → 0 < left → left - 1 + 1 ≡ left
one-less left some = omega arith

pub returns-in_err-tree-clause-cause : goal.returns-in_err-tree-clause-cause
returns-in_err-tree-clause-cause c =
    let p = err_from_is_err_and c.from_residual.result c.from_residual.ensures.1 in
    rw (p.1, p.2) (cause-root c.args.kernel.now c.args.map.now c.args.model.now c.in_err-tree.field-0.0 c.in_err-tree.ensures.cause)

pub loop-left-init : goal.loop-left-init
loop-left-init c =
    let vars = c.args.map.now in
    let some : 0 < length vars = (let few = c.features.ensures.some in let rows = ap length c.features.ensures.rows in let count = c.requires.count in omega arith) in
    let same = ap length (sym c.groups-groups.ensures.rows) in
    subst (λ (n : ℕ). IsTreeFrom c.args.kernel.now c.literal.new.kernel vars c.args.model.now.groups n c.in_ok-tree.tree) same
    (tree-begins c.args.kernel.now c.literal.new.kernel vars c.args.model.now.groups c.in_ok-tree.tree c.literal.ensures.keeps c.in_ok-tree.ensures.gained
    (tree-none c.literal.new.kernel vars c.in_ok-tree.tree c.of.result some c.of.ensures c.in_ok-tree.ensures.value))

pub returns-in_err-tree-2-clause-keeps : goal.returns-in_err-tree-2-clause-keeps
returns-in_err-tree-2-clause-keeps c =
    keeps-behind c.args.kernel.now c.loop-left.kernel c.with_group.new.kernel c.loop-left.tree c.loop-left.invariant.keeps c.loop-left.invariant.gained c.with_group.ensures.keeps

pub returns-in_err-tree-2-clause-cause : goal.returns-in_err-tree-2-clause-cause
returns-in_err-tree-2-clause-cause c =
    let p = err_from_is_err_and c.from_residual-in_err-tree-2.result c.from_residual-in_err-tree-2.ensures.1 in
    let left = c.loop-left.left in
    let row = c.index-groups-left.result in
    let is = subst (λ (gs : List GroupRow). row ≡ get_or gs (left - 1) row) c.groups-groups.ensures.rows c.index-groups-left.is in
    rw (p.1, p.2)
    (cause-group c.args.kernel.now c.loop-left.kernel c.loop-left.tree c.args.map.now c.args.model.now left (left - 1) row c.in_err-tree-2.field-0.0
    (one-less left c.loop-left-test.true) is c.loop-left.invariant c.in_err-tree-2.ensures.cause)

pub loop-left-preserved : goal.loop-left-preserved
loop-left-preserved c =
    let left = c.loop-left.left in
    let row = c.index-groups-left.result in
    let is = subst (λ (gs : List GroupRow). row ≡ get_or gs (left - 1) row) c.groups-groups.ensures.rows c.index-groups-left.is in
    tree-goes-on c.args.kernel.now c.loop-left.kernel c.with_group.new.kernel c.args.map.now c.args.model.now.groups left (left - 1) c.loop-left.tree c.in_ok-tree-2.tree row
    (one-less left c.loop-left-test.true) is c.loop-left.invariant c.with_group.ensures.keeps c.in_ok-tree-2.ensures.replaced c.in_ok-tree-2.ensures.value

pub returns-clause-value : goal.returns-clause-value
returns-clause-value c = λ a.
    let none : c.loop-left.left ≡ 0 = (let test = c.loop-left-test.false in omega arith) in
    ap (λ (f : Function). f a) (c.loop-left.invariant.value ∙ ap (λ (n : ℕ). tree_function c.args.map.now (drop n c.args.model.now.groups)) none
    ∙ sym (c.models_give_products.ensures.trees c.args.map.now c.args.model.now c.groups-groups.ensures.sound))
