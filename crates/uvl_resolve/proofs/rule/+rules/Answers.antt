-- Down the left operands.
use Rattle.std.proofs.Common.{◌≡◌, Some, sym, ap, ◌∙◌, arith}
use Rattle.uvl_ast.specs.declared.expression.Expr.{Expr}
use Rattle.uvl_ast.specs.Nodes.{nodes_of}
use Rattle.uvl_resolve.specs.steps.Rules.{made_of, number_of, within}
use Rattle.uvl_resolve.proofs.Made.{numbers_there, one_more, right_there, inner_made, inside_made, nodes_not, nodes_binary}
use Rattle.uvl_resolve.proofs.rule.+rules.Goals as goal

pub operand_of-rule_of-requires : goal.operand_of-rule_of-requires
operand_of-rule_of-requires t c =
    let made = inside_made c.args.names.now c.args.offset c.args.operand.now c.in-Not.inner c.in-Not.field-1 c.in-Not.is c.requires.made in
    (omega (arith, ap nodes_of c.in-Not.is, nodes_not c.in-Not.inner c.in-Not.field-1, ap nodes_of c.get.ensures), (c.requires.few, (made.0, ap (made_of c.args.names.now c.args.offset) c.get.ensures ∙ made.1)))

pub rule_of-rule_of-requires : goal.rule_of-rule_of-requires
rule_of-rule_of-requires t c =
    let made = right_there c.args.names.now c.args.offset (made_of c.args.names.now c.args.offset c.args.rule.now) c.loop-current.pending.items c.loop-current.current.now
    c.in-Binary.operator c.in-Binary.left c.in-Binary.right c.in-Binary.field-3 (sym c.comparison_by.ensures ∙ c.in_default-comparison_by.is) c.in-Binary.is c.loop-current.invariant.0 c.requires.made in
    (omega (arith, ap nodes_of c.in-Binary.is, nodes_binary c.in-Binary.operator c.in-Binary.left c.in-Binary.right c.in-Binary.field-3, ap nodes_of c.get-in-Binary.ensures, c.loop-current.invariant.1), (c.requires.few, (made.0, ap (made_of c.args.names.now c.args.offset) c.get-in-Binary.ensures ∙ made.1)))

pub rule_of-loop-current-preserved : goal.rule_of-loop-current-preserved
rule_of-loop-current-preserved t c =
    let names = c.args.names.now in
    let offset = c.args.offset in
    let right : made_of names offset c.in-Binary.right ≡ Some c.in_ok-right.right = ap (made_of names offset) (sym c.get-in-Binary.ensures) ∙ c.in_ok-right.ensures in (
      one_more names offset (made_of names offset c.args.rule.now) c.loop-current.pending.items c.push.new.self.items c.loop-current.current.now
          c.in-Binary.operator c.in-Binary.left c.in-Binary.right c.in-Binary.field-3 c.in_ok-right.right (sym c.comparison_by.ensures ∙ c.in_default-comparison_by.is) c.in-Binary.is c.loop-current.invariant.0 right c.in_ok-push.ensures.items
          ∙ ap (λ (e : Expr). within c.push.new.self.items (made_of names offset e)) (sym c.get-current.ensures),
      omega (arith, ap nodes_of c.in-Binary.is, nodes_binary c.in-Binary.operator c.in-Binary.left c.in-Binary.right c.in-Binary.field-3, ap nodes_of c.get-current.ensures, c.loop-current.invariant.1),
    )

pub rule_of-operand_of-requires : goal.rule_of-operand_of-requires
rule_of-operand_of-requires t c =
    let made = inner_made c.loop-current.pending.items (made_of c.args.names.now c.args.offset c.loop-current.current.now) (c.requires.made.0, sym c.loop-current.invariant.0 ∙ c.requires.made.1) in
    (omega (arith, c.loop-current.invariant.1), (c.requires.few, (made, c.in_default.not-Binary)))

pub rule_of-compared-requires-clause-left : goal.rule_of-compared-requires-clause-left
rule_of-compared-requires-clause-left t c =
    let both = numbers_there c.args.names.now c.args.offset (made_of c.args.names.now c.args.offset c.args.rule.now) c.loop-current.pending.items c.loop-current.current.now
    c.in-Binary.operator c.in-Some.how c.in-Binary.left c.in-Binary.right c.in-Binary.field-3 (sym c.comparison_by.ensures ∙ c.in-Some.is) c.in-Binary.is
    c.loop-current.invariant.0 c.requires.made in
    (both.0.0, ap (number_of c.args.names.now c.args.offset) c.get.ensures ∙ both.0.1)

pub rule_of-compared-requires-clause-right : goal.rule_of-compared-requires-clause-right
rule_of-compared-requires-clause-right t c =
    let both = numbers_there c.args.names.now c.args.offset (made_of c.args.names.now c.args.offset c.args.rule.now) c.loop-current.pending.items c.loop-current.current.now
    c.in-Binary.operator c.in-Some.how c.in-Binary.left c.in-Binary.right c.in-Binary.field-3 (sym c.comparison_by.ensures ∙ c.in-Some.is) c.in-Binary.is
    c.loop-current.invariant.0 c.requires.made in
    (both.1.0, ap (number_of c.args.names.now c.args.offset) c.get-in-Some.ensures ∙ both.1.1)
