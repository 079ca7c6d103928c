-- What the operator and the right operand have stands in front of what was found.
use Rattle.std.proofs.Common.{refl}
use Rattle.std.specs.Option.{option_or}
use Rattle.uvl_scope.specs.NumberFaults.{fault_within}
use Rattle.uvl_scope.proofs.FaultsWithin.{fault_step}
use Rattle.uvl_scope.proofs.rule_faults.+faults.Goals as goal

pub left_of-returns-in_ok-behind-in-Binary-clause-behind : goal.left_of-returns-in_ok-behind-in-Binary-clause-behind
left_of-returns-in_ok-behind-in-Binary-clause-behind t c =
    let names = c.args.names.now in
    let attributes = c.args.attributes.now in
    fault_step names attributes (option_or (fault_within names attributes c.args.operation.now c.args.boolean) c.args.found) c.args.operation.now
    c.in-Binary.first c.in-Binary.second c.get-in-Binary-3.result.now c.get-in-Binary-2.result.now c.get.result.now c.get-in-Binary.result.now
    c.in-Binary.operator c.in-Binary.place c.args.boolean c.joins_truths-joins.result c.fault_of_operator-here.result c.in_ok-behind-in-Binary.behind
    c.args.found c.or.result refl c.in-Binary.is c.joins_truths-joins.ensures c.get-in-Binary-3.ensures c.get-in-Binary-2.ensures c.get.ensures
    c.get-in-Binary.ensures c.fault_of_operator-here.ensures c.in_ok-behind-in-Binary.ensures c.or.ensures
