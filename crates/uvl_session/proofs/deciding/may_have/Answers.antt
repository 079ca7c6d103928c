-- The walk on the session's diagram answers whether the value is offered.
use Rattle.std.proofs.Common.{◌<◌, List, [], length, sym, subst, arith}
use Rattle.std.proofs.lemmas.List.Elements.{All-nil, All-cons, All-get_or}
use Rattle.std.proofs.lemmas.Result.{IfOk-weaker}
use Rattle.dd_store.specs.declared.row.Var.{Var}
use Rattle.dd_store.specs.Table.{IsVariable}
use Rattle.dd_quant.specs.declared.literal.Literal.{Literal}
use Rattle.uvl_session.specs.Numbered.{all_of, decisions_in}
use Rattle.uvl_session.proofs.Offered.{offered-possible, variable}
use Rattle.uvl_session.proofs.deciding.may_have.Goals as goal

pub of-requires : goal.of-requires
of-requires c = let count = c.requires.compiled.variables.count in let inside = c.requires.feature in omega (arith, count, inside)

pub possible-requires-clause-literals : goal.possible-requires-clause-literals
possible-requires-clause-literals c =
    let vars : List Var = c.args.it.now.map in
    let k = c.args.decision.feature.0 in
    let within : k < length vars = (let count = c.requires.compiled.variables.count in let inside = c.requires.feature in omega (arith, count, inside)) in
    let there = All-get_or (λ (v : Var). IsVariable c.args.kernel.now v.0) vars k (record { 0 = 0 }) within c.requires.compiled.variables.there in
    All-cons (λ (l : Literal). IsVariable c.args.kernel.now l.var.0) (record { var = c.of.result; value = c.args.decision.value }) []
    (subst (λ (v : Var). IsVariable c.args.kernel.now v.0) (sym (variable vars k c.of.result within c.of.ensures)) there)
    (All-nil (λ (l : Literal). IsVariable c.args.kernel.now l.var.0))

pub returns : goal.returns
returns c =
    let rows = c.args.it.now.model in
    let vars : List Var = c.args.it.now.map in
    let k = c.args.decision.feature.0 in
    let within : k < length vars = (let count = c.requires.compiled.variables.count in let inside = c.requires.feature in omega (arith, count, inside)) in
    IfOk-weaker c.possible.result _ _
    (λ answer tells. offered-possible rows c.args.kernel.now vars (decisions_in rows (all_of c.args.session.now.stages)) c.args.session.now.agreeing c.requires.compiled.variables
    c.products_are_sets.ensures c.requires.decided.value c.args.it.now.products c.requires.compiled c.features.ensures.sound c.args.decision c.of.result answer within c.of.ensures tells)
    c.possible.ensures
