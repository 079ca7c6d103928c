-- The rules in braces, and then the lines.
use Rattle.std.proofs.Common.{◌≡◌, List, ◌++◌, sym, ap, subst}
use Rattle.std.specs.List.{All}
use Rattle.uvl_ast.specs.declared.expression.Expr.{Expr}
use Rattle.uvl_ast.specs.Rules.{all_rules_of_root, rules_of}
use Rattle.uvl_resolve.specs.steps.Rules.{IsPlain, heads_in}
use Rattle.uvl_resolve.proofs.Saying.{front_plain, parts_said, rest_plain}
use Rattle.uvl_resolve.proofs.Texts.{on_ok}
use Rattle.uvl_resolve.proofs.rules.RuleBuilder.add_own.Goals as goal

pub add_braces-requires-clause-plain : goal.add_braces-requires-clause-plain
add_braces-requires-clause-plain c =
    front_plain (heads_in c.args.scope.now) (all_rules_of_root c.args.file.now.root) c.args.file.now.rules c.requires.plain

pub add_rules-requires-clause-plain : goal.add_rules-requires-clause-plain
add_rules-requires-clause-plain c =
    subst (All (IsPlain (heads_in c.args.scope.now))) (sym c.as_slice.ensures)
    (rest_plain (heads_in c.args.scope.now) (all_rules_of_root c.args.file.now.root) c.args.file.now.rules c.requires.plain)

pub returns : goal.returns
returns c =
    let braces = all_rules_of_root c.args.file.now.root in
    let whole : rules_of c.args.file.now ≡ braces ++ c.as_slice.result.now = ap (λ (rs : List Expr). braces ++ rs) (sym c.as_slice.ensures) in
    on_ok c.add_rules.result _ _
    (λ h. parts_said (heads_in c.args.scope.now) c.args.offset c.args.self.now.rules c.add_braces.new.self.rules c.add_rules.new.self.rules (rules_of c.args.file.now)
    braces c.as_slice.result.now whole c.in_ok-add_braces.ensures h)
    c.add_rules.ensures
