-- The session at the place has one decision more, with the handle that was made for it.
use Rattle.std.proofs.Common.{◌≡◌, ℕ, [], ◌∷◌, List, get_or, length, IfErr, refl, sym, ap, ◌∙◌, subst}
use Rattle.std.proofs.lemmas.Result.{err_from_is_err_and}
use Rattle.dd_store.specs.declared.row.Var.{Var}
use Rattle.dd_store.specs.Exhausted.{value_at}
use Rattle.dd_store.specs.Handles.{LosesHandle}
use Rattle.dd_store.specs.Size.{Function}
use Rattle.dd_store.specs.Table.{IsLive}
use Rattle.dd_store.proofs.CountLemmas.{live_gained}
use Rattle.uvl_functions.specs.Cause.{IsShortFor}
use Rattle.uvl_session.specs.declared.sessions.OpenSession.{OpenSession}
use Rattle.uvl_session.specs.Deciding.{IsTablesFor, decided_session, with_one_more}
use Rattle.uvl_session.specs.Desk.{IsKept, IsSession}
use Rattle.uvl_session.specs.Numbered.{decision_of, session_of}
use Rattle.uvl_session.proofs.Adding.{kept_same}
use Rattle.uvl_session.proofs.Checking.{is_session}
use Rattle.uvl_session.proofs.OneMore.{allowed, back_kept, changed_kept, more_decided, more_is, told_tables}
use Rattle.uvl_session.proofs.desk.Desk.decide_at.Goals as goal

pub returns-in_err-agreeing-clause-sound : goal.returns-in_err-agreeing-clause-sound
returns-in_err-agreeing-clause-sound c =
    let desk = c.args.self.now in
    record {
      kept = kept_same desk.main.model desk.kernel c.narrowed.new.kernel desk.main.map desk.main.products desk.sessions c.narrowed.ensures.keeps
          c.in_err-agreeing.ensures.refused c.requires.sound.kept;
      as_many = c.requires.sound.as_many ∙ sym (ap (λ (vs : List Var). length vs) c.narrowed.ensures.keeps.order);
      named = c.requires.sound.named;
    }

pub returns-in_err-agreeing-clause-cause : goal.returns-in_err-agreeing-clause-cause
returns-in_err-agreeing-clause-cause c d =
    let desk = c.args.self.now in
    let rows = desk.main.model in
    let vars : List Var = desk.main.map in
    let it = c.at.result.now in
    let p = err_from_is_err_and c.from_residual.result c.from_residual.ensures.1 in
    let more = more_is rows desk.kernel vars desk.main.products it c.args.decision c.requires.sound.kept.main c.products_are_sets.ensures c.features.ensures.sound
    (is_session desk c.args.place it c.at.ensures c.requires.sound c.requires.there) c.requires.feature c.of-var.result c.of-var.ensures in
    subst (λ (x : OpenSession). IfErr c.from_residual.result (IsTablesFor desk.kernel
    ((with_one_more vars rows (session_of rows x.stages) (decision_of rows c.args.decision) ∷ []) ∷ []))) (c.at.ensures d)
    (told_tables desk.kernel ((with_one_more vars rows (session_of rows it.stages) (decision_of rows c.args.decision) ∷ []) ∷ []) c.from_residual.result
    c.in_err-agreeing.field-0.0 p.0 p.1 p.2
    (subst (λ (f : Function). IsShortFor desk.kernel ((f ∷ []) ∷ []) c.in_err-agreeing.field-0.0) more c.in_err-agreeing.ensures.cause))

pub release-requires : goal.release-requires
release-requires c =
    let it = c.at.result.now in
    let desk = c.args.self.now in
    subst (λ (h : ℕ). IsLive c.narrowed.new.kernel h) (sym (c.in-Ok.ensures.handle it ∙ ap (λ (s : OpenSession). s.agreeing) (sym (c.at.ensures it))))
    (live_gained c.in_ok-agreeing.ensures.gained it.agreeing (is_session desk c.args.place it c.at.ensures c.requires.sound c.requires.there).live)

pub returns-in-Ok-clause-sound : goal.returns-in-Ok-clause-sound
returns-in-Ok-clause-sound c =
    let desk = c.args.self.now in
    let rows = desk.main.model in
    let vars : List Var = desk.main.map in
    let u = c.narrowed.new.kernel in
    let w = c.release.new.self in
    let list = desk.sessions in
    let it = get_or list c.args.place c.at.result.now in
    let here = c.at.ensures c.at.result.now in
    let is : IsSession rows desk.kernel vars it = subst (λ (x : OpenSession). IsSession rows desk.kernel vars x) here
    (is_session desk c.args.place c.at.result.now c.at.ensures c.requires.sound c.requires.there) in
    let h = c.in_ok-agreeing.agreeing in
    let new = more_decided rows desk.kernel vars desk.main.products it c.args.decision c.requires.sound.kept.main c.products_are_sets.ensures c.features.ensures.sound is
    c.requires.feature c.sessions_keep_a_set.ensures (allowed rows (session_of rows it.stages) (decision_of rows c.args.decision) (c.requires.may c.at.result.now))
    u h c.in_ok-agreeing.ensures.gained
    (subst (λ (x : OpenSession). value_at u h ≡ with_one_more vars rows (session_of rows x.stages) (decision_of rows c.args.decision)) here
    (c.in_ok-agreeing.ensures.value
    ∙ more_is rows desk.kernel vars desk.main.products c.at.result.now c.args.decision c.requires.sound.kept.main c.products_are_sets.ensures c.features.ensures.sound
    (is_session desk c.args.place c.at.result.now c.at.ensures c.requires.sound c.requires.there) c.requires.feature c.of-var.result c.of-var.ensures)) in
    record {
      kept = subst (λ (xs : List OpenSession). IsKept rows w vars desk.main.products xs) (sym (c.in-Ok.ensures.list c.at.result.now))
          (changed_kept rows desk.kernel u w vars desk.main.products list c.args.place c.at.result.now (decided_session it c.args.decision h) c.requires.there refl
          c.narrowed.ensures.keeps c.in_ok-agreeing.ensures.gained c.release.ensures.grows.keeps
          (subst (λ (x : ℕ). LosesHandle u w x) (c.in-Ok.ensures.handle c.at.result.now) c.release.ensures.lost) new c.requires.sound.kept);
      as_many = c.requires.sound.as_many ∙ sym (ap (λ (vs : List Var). length vs) (c.release.ensures.grows.keeps.order ∙ c.narrowed.ensures.keeps.order));
      named = c.requires.sound.named;
    }

pub returns-in-Err-clause-sound : goal.returns-in-Err-clause-sound
returns-in-Err-clause-sound c =
    let desk = c.args.self.now in
    let rows = desk.main.model in
    let vars : List Var = desk.main.map in
    let u = c.narrowed.new.kernel in
    let w = c.release-in-Err.new.self in
    record {
      kept = subst (λ (xs : List OpenSession). IsKept rows w vars desk.main.products xs) (sym c.in-Err.ensures.refused)
          (back_kept rows desk.kernel u w vars desk.main.products c.in_ok-agreeing.agreeing desk.sessions c.narrowed.ensures.keeps c.in_ok-agreeing.ensures.gained
          c.release-in-Err.ensures.grows.keeps (subst (λ (x : ℕ). LosesHandle u w x) c.in-Err.ensures.back c.release-in-Err.ensures.lost) c.requires.sound.kept);
      as_many = c.requires.sound.as_many ∙ sym (ap (λ (vs : List Var). length vs) (c.release-in-Err.ensures.grows.keeps.order ∙ c.narrowed.ensures.keeps.order));
      named = c.requires.sound.named;
    }
