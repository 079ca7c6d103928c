use Rattle.std.proofs.Common.{arith, rules}
use Rattle.uvl_grammar.specs.steps.Features.{group_with, feature_at}
use Rattle.uvl_grammar.proofs.Parts.Features.{feature_above}
use Rattle.uvl_parser.proofs.features.+features.Goals as goal

pub groups-returns : goal.groups-returns
groups-returns t c = c.body.ensures (group_with (feature_at c.args.depth)) (λ alloc ts r answered. search rules)

pub members-returns : goal.members-returns
members-returns t c = c.one_or_more.ensures (feature_at c.args.depth) (λ alloc ts r answered. search rules)

pub feature_at-returns : goal.feature_at-returns
feature_at-returns t c = rw (feature_above c.args.depth c.args.tokens.now (omega arith)) c.feature.ensures
