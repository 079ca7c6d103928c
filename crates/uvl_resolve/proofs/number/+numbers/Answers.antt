-- Down the left operands.
use Rattle.std.proofs.Common.{◌≡◌, Some, sym, ap, ◌∙◌, arith}
use Rattle.uvl_ast.specs.declared.expression.Expr.{Expr}
use Rattle.uvl_ast.specs.Nodes.{nodes_of}
use Rattle.uvl_resolve.specs.steps.Rules.{number_of, within_numbers}
use Rattle.uvl_resolve.proofs.Made.{nodes_binary}
use Rattle.uvl_resolve.proofs.MadeNumbers.{inner_made, one_more, right_there}
use Rattle.uvl_resolve.proofs.number.+numbers.Goals as goal

pub number_of-requires : goal.number_of-requires
number_of-requires t c =
    let made = right_there c.args.names.now c.args.offset (number_of c.args.names.now c.args.offset c.args.number.now) c.loop-current.pending.items c.loop-current.current.now
    c.in-Binary.operator c.in-Binary.left c.in-Binary.right c.in-Binary.field-3 c.in-Binary.is c.loop-current.invariant.0 c.requires.made in
    (omega (arith, ap nodes_of c.in-Binary.is, nodes_binary c.in-Binary.operator c.in-Binary.left c.in-Binary.right c.in-Binary.field-3, ap nodes_of c.get.ensures, c.loop-current.invariant.1), (c.requires.few, (made.0, ap (number_of c.args.names.now c.args.offset) c.get.ensures ∙ made.1)))

pub loop-current-preserved : goal.loop-current-preserved
loop-current-preserved t c =
    let names = c.args.names.now in
    let offset = c.args.offset in
    let right : number_of names offset c.in-Binary.right ≡ Some c.in_ok-right.right = ap (number_of names offset) (sym c.get.ensures) ∙ c.in_ok-right.ensures in (
      one_more names offset (number_of names offset c.args.number.now) c.loop-current.pending.items c.push.new.self.items c.loop-current.current.now
          c.in-Binary.operator c.in-Binary.left c.in-Binary.right c.in-Binary.field-3 c.in_ok-right.right c.in-Binary.is c.loop-current.invariant.0 right c.in_ok-push.ensures.items
          ∙ ap (λ (e : Expr). within_numbers c.push.new.self.items (number_of names offset e)) (sym c.get-current.ensures),
      omega (arith, ap nodes_of c.in-Binary.is, nodes_binary c.in-Binary.operator c.in-Binary.left c.in-Binary.right c.in-Binary.field-3, ap nodes_of c.get-current.ensures, c.loop-current.invariant.1),
    )

pub amount_of-requires : goal.amount_of-requires
amount_of-requires t c =
    let made = inner_made c.loop-current.pending.items (number_of c.args.names.now c.args.offset c.loop-current.current.now) (c.requires.made.0, sym c.loop-current.invariant.0 ∙ c.requires.made.1) in
    record { few = c.requires.few; made = made; single = c.in_default.not-Binary }
