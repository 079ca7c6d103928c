-- All chains were moved.
use Rattle.std.proofs.Common.{rules, ◌≡◌, length, take, drop, ◌++◌, sym, subst}
use Rattle.std.proofs.lemmas.List.{take_at}
use Rattle.dd_store.specs.Chains.{AreChained}
use Rattle.dd_store.specs.Linked.{row_in, next_in}
use Rattle.dd_store.proofs.GrowLemmas.{moved-all}
use Rattle.dd_store.proofs.slots.chains.spread.Goals as goal

pub returns-in-Ok-clause-chained : goal.returns-in-Ok-clause-chained
returns-in-Ok-clause-chained c =
    let size : length c.move_chains.new.new ≡ c.in-Ok.heads.len = search rules in
    let all : take c.in-Ok.heads.len (c.move_chains.new.new ++ drop (length c.move_chains.new.new) c.in-Ok.heads.items) ≡ c.move_chains.new.new = take_at c.move_chains.new.new _ _ size in
    subst (λ heads. AreChained (next_in c.move_chains.new.slots) (row_in c.move_chains.new.slots) c.args.var.0 heads) (sym all)
    (moved-all _ _ _ c.args.old.now c.move_chains.new.new c.requires.some c.move_chains.ensures.moved)
