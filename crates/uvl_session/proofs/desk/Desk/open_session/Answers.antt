-- A session more, or the desk as before.
use Rattle.std.proofs.Common.{◌≡◌, List, length, is_some, Some, None, Option, false, sym, ap, ◌∙◌, subst}
use Rattle.uvl_session.specs.declared.sessions.OpenSession.{OpenSession}
use Rattle.dd_store.specs.declared.row.Var.{Var}
use Rattle.uvl_session.specs.Desk.{IsKept}
use Rattle.uvl_session.specs.Sessions.{find_session}
use Rattle.uvl_session.proofs.Adding.{added_kept, added_opened, added_others, kept_same}
use Rattle.uvl_session.proofs.desk.Desk.open_session.Goals as goal

-- no session has the name
nothing : (o : Option OpenSession) → is_some o ≡ false → o ≡ None
nothing None e = λ i. None
nothing (Some it) e = absurd (cc)

none : (c : goal.In_ok-add) → find_session c.args.self.now.sessions c.args.session.now ≡ None
none c = nothing _ (sym c.has.ensures ∙ c.if-has.false)

pub returns-in_err-add-clause-sound : goal.returns-in_err-add-clause-sound
returns-in_err-add-clause-sound c =
    let desk = c.args.self.now in
    record {
      kept = subst (λ (xs : List OpenSession). IsKept desk.main.model c.add.new.kernel desk.main.map desk.main.products xs) (sym c.in_err-add.ensures.refused)
          (kept_same desk.main.model desk.kernel c.add.new.kernel desk.main.map desk.main.products desk.sessions c.add.ensures.keeps c.in_err-add.ensures.handles c.requires.kept);
      as_many = c.requires.as_many ∙ sym (ap (λ (vs : List Var). length vs) c.add.ensures.keeps.order);
      named = c.requires.named;
    }

pub returns-clause-sound : goal.returns-clause-sound
returns-clause-sound c =
    let desk = c.args.self.now in
    record {
      kept = added_kept desk.main.model desk.sessions c.args.session.now (none c) desk.kernel c.add.new.kernel desk.main.map desk.main.products c.add.new.self
          c.in_ok-add.ensures.added c.products_are_sets.ensures c.sessions_keep_a_set.ensures (sym c.void.ensures ∙ c.if-void.false)
          (sym c.is_full.ensures ∙ c.if-is_full.false) c.add.ensures.keeps c.in_ok-add.ensures.gained c.requires.kept;
      as_many = c.requires.as_many ∙ sym (ap (λ (vs : List Var). length vs) c.add.ensures.keeps.order);
      named = c.requires.named;
    }

pub returns-clause-opened : goal.returns-clause-opened
returns-clause-opened c = added_opened c.args.self.now.main.model c.args.self.now.sessions c.args.session.now (none c) c.add.new.self c.args.self.now.main.products c.in_ok-add.ensures.added

pub returns-clause-others : goal.returns-clause-others
returns-clause-others c = added_others c.args.self.now.main.model c.args.self.now.sessions c.args.session.now (none c) c.add.new.self c.args.self.now.main.products c.in_ok-add.ensures.added
