-- The last state is live, and the others stay.
use Rattle.dd_count.proofs.StatesLemmas.{dropped-goes-on, last-live}
use Rattle.dd_count.proofs.states.release_last.Goals as goal

pub release-requires : goal.release-requires
release-requires c = last-live c.args.kernel.now c.args.states.now.items c.pop.new.self.items c.in-Some.last c.in-Some.ensures.items c.requires.held

pub returns-in-Some-clause-goes_on : goal.returns-in-Some-clause-goes_on
returns-in-Some-clause-goes_on c =
    dropped-goes-on c.args.kernel.now c.release.new.self c.args.states.now.items c.pop.new.self.items c.in-Some.last c.in-Some.ensures.items c.release.ensures.lost c.release.ensures.grows
