-- What a full table refuses, over several calls.
use Rattle.dd_store.proofs.StayLemmas.{refusals-compose, refusals-stay, refusals-loosen}
use Rattle.dd_store.proofs.laws.refusals_compose.Goals as goal

pub returns-clause-compose : goal.returns-clause-compose
returns-clause-compose c = refusals-compose

pub returns-clause-stay : goal.returns-clause-stay
returns-clause-stay c = refusals-stay

pub returns-clause-loosen : goal.returns-clause-loosen
returns-clause-loosen c = refusals-loosen
