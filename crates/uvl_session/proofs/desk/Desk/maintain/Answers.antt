-- A collection keeps what is live.
use Rattle.std.proofs.Common.{List, length, sym, ap, ◌∙◌}
use Rattle.dd_store.specs.declared.row.Var.{Var}
use Rattle.uvl_session.proofs.Adding.{kept_same}
use Rattle.uvl_session.proofs.desk.Desk.maintain.Goals as goal

pub returns-in-Collect-clause-sound : goal.returns-in-Collect-clause-sound
returns-in-Collect-clause-sound c =
    let desk = c.args.self.now in
    record {
      kept = kept_same desk.main.model desk.kernel c.collect.new.self desk.main.map desk.main.products desk.sessions c.collect.ensures.keeps
          c.collect.ensures.handles c.requires.kept;
      as_many = c.requires.as_many ∙ sym (ap (λ (vs : List Var). length vs) c.collect.ensures.keeps.order);
      named = c.requires.named;
    }
