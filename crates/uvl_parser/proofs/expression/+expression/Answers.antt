-- Each function reads what its reader reads, by the steps of reading an expression.
use Rattle.std.proofs.Common.{sym, arith}
use Rattle.std.proofs.lemmas.Result.{err_from_is_err_and}
use Rattle.uvl_lexer.specs.declared.token.Symbol.TheVariants as symbol
use Rattle.uvl_grammar.specs.steps.Tests.{is_symbol}
use Rattle.uvl_grammar.specs.Expressions.{comparison_operator}
use Rattle.uvl_parser.proofs.Turns.{fails_on}
use Rattle.uvl_parser.proofs.Expressions.Steps.{one_takes, accept_takes, some_operator, comparison_fails, comparison_ends, comparison_reads, comparison_stops, operand_plain, operand_fails, operand_reads, operand_stops, primary_by, primary_is_literal, primary_of_nothing, negative_shorter, total_shorter, named_shorter, leaves}
use Rattle.uvl_parser.proofs.Expressions.Ranks.{rank_below}
use Rattle.uvl_parser.proofs.Expressions.Tails.{precedence_begins, precedence_fails, precedence_ends, precedence_over, precedence_goes, precedence_stops}
use Rattle.uvl_parser.proofs.expression.+expression.Goals as goal

-- ---- comparison

pub comparison-returns-in_err-left-clause-reads : goal.comparison-returns-in_err-left-clause-reads
comparison-returns-in_err-left-clause-reads t c =
    let p = err_from_is_err_and c.from_residual.result c.from_residual.ensures.1 in
    rw (p.1, p.2) (fails_on _ _ _ c.in_err-left.ensures.reads (λ left stops. comparison_fails _ left stops))

pub comparison-returns-in_default-clause-reads : goal.comparison-returns-in_default-clause-reads
comparison-returns-in_default-clause-reads t c = comparison_ends _ _ _ c.in_ok-left.ensures.reads c.in_default.ensures

pub comparison-grouped-requires-2 : goal.comparison-grouped-requires-2
comparison-grouped-requires-2 t c =
    let is = some_operator comparison_operator _ _ _ c.in-Some.ensures in
    let fewer = accept_takes comparison_operator _ _ _ is in
    (omega (arith, c.in_ok-left.ensures.shorter), tt)

pub comparison-returns-in_err-right-clause-reads : goal.comparison-returns-in_err-right-clause-reads
comparison-returns-in_err-right-clause-reads t c =
    let p = err_from_is_err_and c.from_residual-in_err-right.result c.from_residual-in_err-right.ensures.1 in
    rw (p.1, p.2) (fails_on _ _ _ c.in_err-right.ensures.reads (λ left stops.
    comparison_stops _ _ _ _ _ _ left c.in_ok-left.ensures.reads c.in_ok-left.ensures.shorter c.in-Some.ensures stops))

pub comparison-returns-clause-reads : goal.comparison-returns-clause-reads
comparison-returns-clause-reads t c =
    comparison_reads _ _ _ _ _ _ _ _ c.in_ok-left.ensures.reads c.in_ok-left.ensures.shorter c.in-Some.ensures c.in_ok-right.ensures.reads _ c.in_ok-binary.ensures

pub comparison-returns-clause-shorter : goal.comparison-returns-clause-shorter
comparison-returns-clause-shorter t c =
    let is = some_operator comparison_operator _ _ _ c.in-Some.ensures in
    let fewer = accept_takes comparison_operator _ _ _ is in
    omega (arith, c.in_ok-left.ensures.shorter, c.in_ok-right.ensures.shorter)

-- ---- grouped

pub grouped-returns-in_err-left-clause-reads : goal.grouped-returns-in_err-left-clause-reads
grouped-returns-in_err-left-clause-reads t c =
    let p = err_from_is_err_and c.from_residual.result c.from_residual.ensures.1 in
    rw (p.1, p.2) (fails_on _ _ _ c.in_err-left.ensures.reads (λ left stops. precedence_fails _ _ _ left c.tightest-most.ensures stops))

pub grouped-loop-turn-init : goal.grouped-loop-turn-init
grouped-loop-turn-init t c = precedence_begins _ _ _ _ _ c.tightest-most.ensures c.in_ok-left.ensures.reads c.in_ok-left.ensures.shorter _ (omega arith)

pub grouped-returns-in_default-clause-reads : goal.grouped-returns-in_default-clause-reads
grouped-returns-in_default-clause-reads t c = precedence_ends _ _ _ _ _ _ c.loop-turn.invariant c.in_default.ensures

pub grouped-part-requires-in-loop-turn : goal.grouped-part-requires-in-loop-turn
grouped-part-requires-in-loop-turn t c =
    let fewer = accept_takes _ _ _ _ c.in-Some.ensures.1 in
    (omega (arith, c.loop-turn.invariant.shorter, rank_below c.in-Some.precedence), tt)

pub grouped-returns-in_err-right-clause-reads : goal.grouped-returns-in_err-right-clause-reads
grouped-returns-in_err-right-clause-reads t c =
    let p = err_from_is_err_and c.from_residual-in_err-right.result c.from_residual-in_err-right.ensures.1 in
    rw (p.1, p.2) (fails_on _ _ _ c.in_err-right.ensures.reads (λ left stops.
    precedence_stops _ _ _ _ _ _ _ _ _ _ left c.loop-turn.invariant c.in-Some.ensures stops))

pub grouped-loop-turn-preserved : goal.grouped-loop-turn-preserved
grouped-loop-turn-preserved t c =
    precedence_goes _ _ _ _ _ _ _ _ _ _ _ _ _ _ c.loop-turn.invariant c.in-Some.ensures c.in_ok-right.ensures.reads c.in_ok-right.ensures.shorter c.in_ok-left-2.ensures

pub grouped-returns-clause-reads : goal.grouped-returns-clause-reads
grouped-returns-clause-reads t c = precedence_over _ _ _ _ _ _ _ c.loop-turn.invariant c.loop-turn-test.false

-- ---- operand

pub operand-returns-then-not-begins_with-clause-reads : goal.operand-returns-then-not-begins_with-clause-reads
operand-returns-then-not-begins_with-clause-reads t c =
    rw (operand_plain _ (sym c.if-not-begins_with.ensures)) c.comparison.ensures.reads

pub operand-returns-in_err-place-clause-reads : goal.operand-returns-in_err-place-clause-reads
operand-returns-in_err-place-clause-reads t c =
    let p = err_from_is_err_and c.from_residual.result c.from_residual.ensures.1 in
    rw (p.1, p.2) (fails_on _ _ _ c.in_err-place.ensures (λ left stops. operand_fails _ left (sym c.if-not-begins_with.ensures) stops))

pub operand-operand-requires : goal.operand-operand-requires
operand-operand-requires t c =
    let fewer = one_takes (is_symbol symbol.Bang) _ _ _ c.in_ok-place.ensures in
    (omega arith, tt)

pub operand-returns-in_err-inner-clause-reads : goal.operand-returns-in_err-inner-clause-reads
operand-returns-in_err-inner-clause-reads t c =
    let p = err_from_is_err_and c.from_residual-in_err-inner.result c.from_residual-in_err-inner.ensures.1 in
    rw (p.1, p.2) (fails_on _ _ _ c.in_err-inner.ensures.reads (λ left stops.
    operand_stops _ _ _ left (sym c.if-not-begins_with.ensures) c.in_ok-place.ensures stops))

pub operand-returns-clause-reads : goal.operand-returns-clause-reads
operand-returns-clause-reads t c =
    operand_reads _ _ _ _ _ (sym c.if-not-begins_with.ensures) c.in_ok-place.ensures c.in_ok-inner.ensures.reads _ c.in_ok-new.ensures

pub operand-returns-clause-shorter : goal.operand-returns-clause-shorter
operand-returns-clause-shorter t c =
    let fewer = one_takes (is_symbol symbol.Bang) _ _ _ c.in_ok-place.ensures in
    omega (arith, c.in_ok-inner.ensures.shorter)

-- ---- parenthesized

pub parenthesized-returns-clause-shorter : goal.parenthesized-returns-clause-shorter
parenthesized-returns-clause-shorter t c =
    let fewer = one_takes (is_symbol symbol.RightParen) _ _ _ c.in_ok-rest.ensures in
    omega (arith, c.in_ok-inner.ensures.shorter)

-- ---- primary

pub primary-returns-in_default-clause-reads : goal.primary-returns-in_default-clause-reads
primary-returns-in_default-clause-reads t c = primary_of_nothing _ c.in_default.ensures.cases

pub primary-returns-in-Parenthesis-clause-reads : goal.primary-returns-in-Parenthesis-clause-reads
primary-returns-in-Parenthesis-clause-reads t c =
    rw (primary_by _ _ _ _ c.in-Some.ensures.cases.0 c.in-Parenthesis.ensures) c.parenthesized.ensures.reads

pub primary-returns-in-Minus-clause-reads : goal.primary-returns-in-Minus-clause-reads
primary-returns-in-Minus-clause-reads t c = rw (primary_by _ _ _ _ c.in-Some.ensures.cases.0 c.in-Minus.ensures) c.negative.ensures

pub primary-returns-in-Minus-clause-shorter : goal.primary-returns-in-Minus-clause-shorter
primary-returns-in-Minus-clause-shorter t c =
    leaves _ _ _ c.negative.ensures (λ v rest e. let fewer = negative_shorter _ _ v rest e in omega (arith, c.in-Some.ensures.cases.1))

pub primary-returns-in-Sum-clause-reads : goal.primary-returns-in-Sum-clause-reads
primary-returns-in-Sum-clause-reads t c = rw (primary_by _ _ _ _ c.in-Some.ensures.cases.0 c.in-Sum.ensures) c.total.ensures

pub primary-returns-in-Sum-clause-shorter : goal.primary-returns-in-Sum-clause-shorter
primary-returns-in-Sum-clause-shorter t c =
    leaves _ _ _ c.total.ensures (λ v rest e. let fewer = total_shorter _ _ v rest e in omega (arith, c.in-Some.ensures.cases.1))

pub primary-returns-in_ok-literal-in-Number-clause-reads : goal.primary-returns-in_ok-literal-in-Number-clause-reads
primary-returns-in_ok-literal-in-Number-clause-reads t c =
    primary_is_literal _ _ _ _ c.in-Some.ensures.cases.0 c.in-Number.ensures _ c.in_ok-literal-in-Number.ensures

pub primary-returns-in-Other-clause-reads : goal.primary-returns-in-Other-clause-reads
primary-returns-in-Other-clause-reads t c =
    rw (primary_by _ _ _ _ c.in-Some.ensures.cases.0 c.in-Other.ensures) (rw (← c.in-Some.ensures.cases.0) c.named.ensures)

pub primary-returns-in-Other-clause-shorter : goal.primary-returns-in-Other-clause-shorter
primary-returns-in-Other-clause-shorter t c = leaves _ _ _ c.named.ensures (named_shorter _)
