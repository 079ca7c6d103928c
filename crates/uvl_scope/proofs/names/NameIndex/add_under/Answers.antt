-- One more name is added, one is there already, or all are added.
use Rattle.std.proofs.Common.{ℕ, List, [], ◌<◌, ◌≤◌, ap, ◌∙◌, subst}
use Rattle.std.specs.Prelude.{chars, not, if◌then◌else◌, ◌++◌, ◌∷◌}
use Rattle.uvl_semantics.specs.Product.{has}
use Rattle.uvl_scope.proofs.NamesUnder.{under_begin, under_there, under_more, under_none, under_all}
use Rattle.uvl_scope.proofs.names.NameIndex.add_under.Goals as goal

pub loop-number-init : goal.loop-number-init
loop-number-init c = under_begin c.args.self.now c.args.names.now (chars c.args.qualifier.now)

pub loop-number-preserved : goal.loop-number-preserved
loop-number-preserved c =
    let here = c.loop-number.self in
    let text = ap chars c.as_str.ensures.value ∙ c.in_ok-put_under.ensures in
    let b = c.in_ok-add.field-0 in
    under_more c.args.self.now here c.args.names.now (chars c.args.qualifier.now) (chars c.name.result.now) c.loop-number.number c.loop-number.invariant
    c.len-number-end.ensures.distinct (subst (λ (n : ℕ). c.loop-number.number < n) c.len-number-end.ensures.count c.loop-number-test.true) c.name.ensures
    b c.add.new.self (c.in_ok-add.ensures.known ∙ ap (λ (n : List ℕ). not (has here n)) text) c.if-not-branch.false
    (c.in_ok-add.ensures.added ∙ ap (λ (n : List ℕ). if b then here ++ n ∷ [] else here) text)

pub returns-then-not-branch-clause-new : goal.returns-then-not-branch-clause-new
returns-then-not-branch-clause-new c =
    let here = c.loop-number.self in
    let text = ap chars c.as_str.ensures.value ∙ c.in_ok-put_under.ensures in
    under_there c.args.self.now here c.args.names.now (chars c.args.qualifier.now) (chars c.name.result.now) c.loop-number.number c.loop-number.invariant
    c.len-number-end.ensures.distinct (subst (λ (n : ℕ). c.loop-number.number < n) c.len-number-end.ensures.count c.loop-number-test.true) c.name.ensures
    c.in_ok-add.field-0 (c.in_ok-add.ensures.known ∙ ap (λ (n : List ℕ). not (has here n)) text) c.if-not-branch.true

pub returns-clause-new : goal.returns-clause-new
returns-clause-new c =
    under_none c.args.self.now c.loop-number.self c.args.names.now (chars c.args.qualifier.now) c.loop-number.number c.loop-number.invariant
    (subst (λ (n : ℕ). n ≤ c.loop-number.number) c.len-number-end.ensures.count c.loop-number-test.false)

pub returns-clause-added : goal.returns-clause-added
returns-clause-added c = λ _.
    under_all c.args.self.now c.loop-number.self c.args.names.now (chars c.args.qualifier.now) c.loop-number.number c.loop-number.invariant
    (subst (λ (n : ℕ). n ≤ c.loop-number.number) c.len-number-end.ensures.count c.loop-number-test.false)
