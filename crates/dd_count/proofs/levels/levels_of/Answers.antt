-- The levels of the members, sorted.
use Rattle.std.proofs.Common.{ap, ◌∙◌}
use Rattle.std.proofs.lemmas.List.{take_all}
use Rattle.std.proofs.lemmas.List.Elements.{All-get_or}
use Rattle.dd_store.specs.declared.row.Var.{Var}
use Rattle.dd_store.specs.Table.{IsVariable}
use Rattle.dd_count.proofs.LevelsLemmas.{levels_in, levels-push, sorted-levels}
use Rattle.dd_count.proofs.levels.levels_of.Goals as goal

pub level-requires : goal.level-requires
level-requires c =
    All-get_or (λ (v : Var). IsVariable c.args.kernel.now v.0) c.args.members.now c.loop-member.member-index (record { 0 = 0 }) c.loop-member-test.true c.requires.there

pub loop-member-preserved : goal.loop-member-preserved
loop-member-preserved c =
    levels-push c.args.kernel.now.order c.args.members.now c.loop-member.member-index (record { 0 = 0 }) c.loop-member.levels.items c.push.new.self.items c.level.result c.loop-member-test.true
    c.in_ok-push.ensures.items c.loop-member.invariant c.level.ensures

pub returns : goal.returns
returns c =
    sorted-levels c.args.kernel.now.order c.args.members.now c.loop-member.levels.items c.sort.new.self.items c.requires.there c.requires.distinct
    (c.loop-member.invariant ∙ ap (levels_in c.args.kernel.now.order) (take_all c.loop-member.member-index c.args.members.now c.loop-member-test.false))
    c.in_ok-sort.ensures.permutation c.in_ok-sort.ensures.sorted
