-- The session at the place that the search finds.
use Rattle.std.proofs.Common.{Some, ap, sym, ◌∙◌}
use Rattle.uvl_session.proofs.Found.{found_at, found_nowhere}
use Rattle.uvl_session.proofs.sessions.found_in.Goals as goal

pub returns-in-Some : goal.returns-in-Some
returns-in-Some c =
    sym (found_at c.args.list.now c.args.name.now c.in-Some.place c.index-list-place.result (sym c.place_in.ensures ∙ c.in-Some.is) ∙ ap Some (sym c.index-list-place.is))

pub returns-in-None : goal.returns-in-None
returns-in-None c = sym (found_nowhere c.args.list.now c.args.name.now (sym c.place_in.ensures ∙ c.in-None.is))
