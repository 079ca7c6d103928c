-- The rules in braces, and then those of the lines.
use Rattle.std.proofs.Common.{◌++◌}
use Rattle.uvl_ast.specs.Rules.{all_rules}
use Rattle.uvl_scope.proofs.Dotting.{on_ok}
use Rattle.uvl_scope.proofs.RulesWalked.{rules_begin, rules_stop, rules_found, adds_append}
use Rattle.uvl_scope.proofs.Walked.{err_is}
use Rattle.uvl_scope.proofs.tally.Tally.add_all_rules.Goals as goal

pub returns-in_err-add_rules_of-clause-found : goal.returns-in_err-add_rules_of-clause-found
returns-in_err-add_rules_of-clause-found c =
    let start = c.args.self.now in
    let front = all_rules c.args.root.now in
    rules_stop start start (front ++ c.args.lines.now) front c.args.lines.now c.from_residual.result c.in_err-add_rules_of.field-0.0
    (rules_begin start (front ++ c.args.lines.now) c.requires)
    (err_is c.from_residual.result c.in_err-add_rules_of.field-0.0 c.from_residual.ensures.1) c.in_err-add_rules_of.ensures.found

pub returns-clause-found : goal.returns-clause-found
returns-clause-found c =
    rules_found c.args.self.now c.add_rules_of.new.self (all_rules c.args.root.now) c.args.lines.now c.add_rules.result c.in_ok-add_rules_of.ensures.adds
    c.in_ok-add_rules_of.ensures.found c.add_rules.ensures.found

pub returns-clause-adds : goal.returns-clause-adds
returns-clause-adds c =
    on_ok c.add_rules.result _ _
    (λ h. adds_append c.args.self.now c.add_rules_of.new.self c.add_rules.new.self (all_rules c.args.root.now) c.args.lines.now c.in_ok-add_rules_of.ensures.adds h)
    c.add_rules.ensures.adds
