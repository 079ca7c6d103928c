-- The first of the cases that holds.
use Rattle.std.proofs.Common.{true, false, sym, ◌∙◌}
use Rattle.uvl_session.proofs.Checking.{is_session, is_closed, is_decided, is_last}
use Rattle.uvl_session.proofs.desk.Desk.check_at.Goals as goal

pub returns-then-is_on : goal.returns-then-is_on
returns-then-is_on c =
    is_closed c.args.self.now c.args.place c.at-found.result.now c.at-found.ensures c.requires.sound c.requires.there c.args.decision
    c.products_are_sets.ensures c.features.ensures.sound c.requires.feature c.closed.result.now c.is_on.result c.is_on.ensures c.closed.ensures c.if-is_on.true

pub returns-then-is_on-2 : goal.returns-then-is_on-2
returns-then-is_on-2 c =
    is_decided c.args.self.now c.args.place c.at-found.result.now c.at-found.ensures c.requires.sound c.requires.there c.args.decision
    c.products_are_sets.ensures c.features.ensures.sound c.requires.feature c.closed.result.now c.is_on.result c.is_on.ensures c.closed.ensures c.if-is_on.false
    c.standing.result.now c.is_on-2.result c.is_on-2.ensures c.standing.ensures c.if-is_on-2.true

pub may_have-requires-clause-decided : goal.may_have-requires-clause-decided
may_have-requires-clause-decided c = is_session c.args.self.now c.args.place c.at-found.result.now c.at-found.ensures c.requires.sound c.requires.there

pub returns-then-not-branch : goal.returns-then-not-branch
returns-then-not-branch c =
    is_last c.args.self.now c.args.place c.at-found.result.now c.at-found.ensures c.requires.sound c.requires.there c.args.decision
    c.products_are_sets.ensures c.features.ensures.sound c.requires.feature c.closed.result.now c.is_on.result c.is_on.ensures c.closed.ensures c.if-is_on.false
    c.standing.result.now c.is_on-2.result c.is_on-2.ensures c.standing.ensures c.decisions_tell_sets.ensures.opposite c.an_explanation_is_least.ensures.there
    c.if-is_on-2.false false (sym c.if-not-branch.true ∙ c.in_ok-may_have.ensures)

pub returns : goal.returns
returns c =
    is_last c.args.self.now c.args.place c.at-found.result.now c.at-found.ensures c.requires.sound c.requires.there c.args.decision
    c.products_are_sets.ensures c.features.ensures.sound c.requires.feature c.closed.result.now c.is_on.result c.is_on.ensures c.closed.ensures c.if-is_on.false
    c.standing.result.now c.is_on-2.result c.is_on-2.ensures c.standing.ensures c.decisions_tell_sets.ensures.opposite c.an_explanation_is_least.ensures.there
    c.if-is_on-2.false true (sym c.if-not-branch.false ∙ c.in_ok-may_have.ensures)
