-- Each call reads fewer tokens, or the same ones further down the precedences.
use Rattle.std.proofs.Common.{length, ◌+◌, ◌-◌, ◌*◌}
use Rattle.uvl_parser.proofs.Expressions.Ranks.{part_rank}
use Rattle.uvl_parser.proofs.Expressions.Tails.{Goes}
use Rattle.uvl_parser.proofs.expression.+expression.Given as goal

abbrev pub decreases-comparison : goal.decreases-comparison
decreases-comparison l = 16 * length l.tokens.now + 5

abbrev pub decreases-grouped : goal.decreases-grouped
decreases-grouped l = 16 * length l.tokens.now + part_rank l.least + 1

abbrev pub decreases-operand : goal.decreases-operand
decreases-operand l = 16 * length l.tokens.now + 6

abbrev pub decreases-parenthesized : goal.decreases-parenthesized
decreases-parenthesized l = 16 * length l.tokens.now + 15

abbrev pub decreases-part : goal.decreases-part
decreases-part l = 16 * length l.tokens.now + part_rank l.precedence

abbrev pub decreases-primary : goal.decreases-primary
decreases-primary l = 16 * length l.tokens.now

abbrev pub invariant-grouped-loop-turn : goal.invariant-grouped-loop-turn
invariant-grouped-loop-turn l = Goes l.least l.most l.fn.tokens l.left (l._turn-end - l._turn) l.rest
