-- The session that the search finds decides on the feature that is found, or the first of the answers whose case holds is told.
use Rattle.std.proofs.Common.{◌≡◌, List, [], ◌∷◌, Err, Some, is_some, inl, refl, sym, ap, ◌∙◌}
use Rattle.std.specs.List.{position}
use Rattle.std.proofs.lemmas.Result.{err_from_is_err_and}
use Rattle.dd_store.specs.declared.row.Var.{Var}
use Rattle.uvl_decisions.specs.Deciding.{decide_answer}
use Rattle.uvl_decisions.specs.Decisions.{Decision as Named}
use Rattle.uvl_decisions.specs.Session.{Session}
use Rattle.uvl_model.specs.Products.{Products}
use Rattle.uvl_session.specs.declared.refusal.DeskRefusal.TheVariants.{UnknownFeature}
use Rattle.uvl_session.specs.Deciding.{IsTablesFor, IsToldUnless, asked_for, told_deciding, with_one_more}
use Rattle.uvl_session.specs.Sessions.{is_named}
use Rattle.uvl_session.proofs.Found.{first_of, found_nowhere}
use Rattle.uvl_session.proofs.Chosen.{answered, for_it, on_ok_decided, others_stay, told_ok, told_or_not, told_unknown, told_unless}
use Rattle.uvl_session.proofs.desk.Desk.decide.Goals as goal

pub returns-in_default-clause-answer : goal.returns-in_default-clause-answer
returns-in_default-clause-answer c =
    let none = found_nowhere c.args.self.now.sessions c.args.session.now (sym c.place_of.ensures ∙ c.in_default.is) in
    rw none refl

pub returns-in_default-find-clause-answer : goal.returns-in_default-find-clause-answer
returns-in_default-find-clause-answer c =
    let desk = c.args.self.now in
    let vars : List Var = desk.main.map in
    let at : position (is_named c.args.session.now) desk.sessions ≡ Some c.in-Some.place = sym c.place_of.ensures ∙ c.in-Some.is in
    for_it desk c.args.session.now c.in-Some.place at _
    (λ (before : Session). IsToldUnless (Err UnknownFeature) (told_deciding (decide_answer (Products desk.main.model) before (asked_for c.args.feature.now c.args.value)))
    (IsTablesFor desk.kernel ((with_one_more vars desk.main.model before (asked_for c.args.feature.now c.args.value) ∷ []) ∷ [])))
    (inl (sym (told_unknown desk.main.model _ (asked_for c.args.feature.now c.args.value) (sym c.find.ensures.feature ∙ ap is_some c.in_default-find.is))))

pub returns-in_err-check_at-clause-answer : goal.returns-in_err-check_at-clause-answer
returns-in_err-check_at-clause-answer c =
    let desk = c.args.self.now in
    let vars : List Var = desk.main.map in
    let at : position (is_named c.args.session.now) desk.sessions ≡ Some c.in-Some.place = sym c.place_of.ensures ∙ c.in-Some.is in
    let one = first_of desk.sessions c.args.session.now c.in-Some.place at in
    let p = err_from_is_err_and c.from_residual.result c.from_residual.ensures.1 in
    answered desk c.args.session.now c.in-Some.place at c.args.feature.now c.in-Some-find.feature c.args.value ((c.find.ensures.exact c.in-Some-find.feature.0).0 c.in-Some-find.is) _
    (λ (before : Session) (asked : Named). IsToldUnless c.from_residual.result (told_deciding (decide_answer (Products desk.main.model) before asked))
    (IsTablesFor desk.kernel ((with_one_more vars desk.main.model before asked ∷ []) ∷ [])))
    (told_or_not c.from_residual.result _ _ (rw (p.1, p.2) (c.in_err-check_at.ensures one)))

pub returns-clause-answer : goal.returns-clause-answer
returns-clause-answer c =
    let desk = c.args.self.now in
    let vars : List Var = desk.main.map in
    let at : position (is_named c.args.session.now) desk.sessions ≡ Some c.in-Some.place = sym c.place_of.ensures ∙ c.in-Some.is in
    let one = first_of desk.sessions c.args.session.now c.in-Some.place at in
    answered desk c.args.session.now c.in-Some.place at c.args.feature.now c.in-Some-find.feature c.args.value ((c.find.ensures.exact c.in-Some-find.feature.0).0 c.in-Some-find.is) _
    (λ (before : Session) (asked : Named). IsToldUnless c.decide_at.result (told_deciding (decide_answer (Products desk.main.model) before asked))
    (IsTablesFor desk.kernel ((with_one_more vars desk.main.model before asked ∷ []) ∷ [])))
    (told_unless c.decide_at.result _ _ (told_ok _ (c.in_ok-check_at.ensures one)) (c.decide_at.ensures.cause one))

pub returns-clause-decided : goal.returns-clause-decided
returns-clause-decided c =
    let desk = c.args.self.now in
    let at : position (is_named c.args.session.now) desk.sessions ≡ Some c.in-Some.place = sym c.place_of.ensures ∙ c.in-Some.is in
    let one = first_of desk.sessions c.args.session.now c.in-Some.place at in
    on_ok_decided desk c.args.session.now c.in-Some.place at c.args.feature.now c.in-Some-find.feature c.args.value ((c.find.ensures.exact c.in-Some-find.feature.0).0 c.in-Some-find.is)
    c.decide_at.new.self.sessions c.decide_at.result (told_ok _ (c.in_ok-check_at.ensures one)) (c.decide_at.ensures.decided one)

pub returns-clause-others : goal.returns-clause-others
returns-clause-others c =
    let desk = c.args.self.now in
    let at : position (is_named c.args.session.now) desk.sessions ≡ Some c.in-Some.place = sym c.place_of.ensures ∙ c.in-Some.is in
    let one = first_of desk.sessions c.args.session.now c.in-Some.place at in
    others_stay desk c.args.session.now c.in-Some.place at c.args.feature.now c.in-Some-find.feature c.args.value ((c.find.ensures.exact c.in-Some-find.feature.0).0 c.in-Some-find.is)
    c.decide_at.new.self.sessions c.decide_at.result (c.decide_at.ensures.decided one) c.decide_at.ensures.refused
