-- The session that was put last.
use Rattle.std.proofs.Common.{rules}
use Rattle.uvl_session.proofs.sessions.Sessions.add.Goals as goal

pub returns-clause-added : goal.returns-clause-added
returns-clause-added c = record {
  it = record { name = c.in_ok-name.name; stages = c.new.result; agreeing = c.in_ok-agreeing.agreeing };
  list = search rules;
  name_is = search rules;
  stages_is = c.new.ensures;
  agreeing_is = c.in_ok-agreeing.ensures.place;
}
