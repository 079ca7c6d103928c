-- The session at the place that the search finds is taken out, and its handle given back.
use Rattle.std.proofs.Common.{◌≡◌, ℕ, List, length, Some, refl, sym, ap, ◌∙◌, subst}
use Rattle.std.specs.List.{position}
use Rattle.std.proofs.lemmas.List.Elements.{All-get_or}
use Rattle.std.proofs.lemmas.List.Quantifiers.{position-Some}
use Rattle.dd_store.specs.declared.row.Var.{Var}
use Rattle.dd_store.specs.Handles.{LosesHandle}
use Rattle.dd_store.specs.Table.{IsLive}
use Rattle.uvl_session.specs.declared.sessions.OpenSession.{OpenSession}
use Rattle.uvl_session.specs.Desk.{IsKept, IsSession}
use Rattle.uvl_session.specs.Sessions.{is_named, session_at, OthersStay}
use Rattle.uvl_session.proofs.Found.{first_of, found_at, found_nowhere}
use Rattle.uvl_session.proofs.Removing.{removed_at, removed_kept, removed_rest}
use Rattle.uvl_session.proofs.desk.Desk.end_session.Goals as goal

pub release-requires : goal.release-requires
release-requires c =
    let at : position (is_named c.args.session.now) c.args.self.now.sessions ≡ Some c.in-Some.place = sym c.place_of.ensures ∙ c.in-Some.is in
    let one = first_of c.args.self.now.sessions c.args.session.now c.in-Some.place at in
    let desk = c.args.self.now in
    let found = position-Some (is_named c.args.session.now) desk.sessions c.in-Some.place one at in
    subst (λ (h : ℕ). IsLive desk.kernel h) (sym (c.remove_at-agreeing.ensures.handle one))
    (All-get_or (IsSession desk.main.model desk.kernel desk.main.map) desk.sessions c.in-Some.place one found.0 c.requires.kept.sessions.each).live

pub returns-in-Some-clause-sound : goal.returns-in-Some-clause-sound
returns-in-Some-clause-sound c =
    let at : position (is_named c.args.session.now) c.args.self.now.sessions ≡ Some c.in-Some.place = sym c.place_of.ensures ∙ c.in-Some.is in
    let one = first_of c.args.self.now.sessions c.args.session.now c.in-Some.place at in
    let desk = c.args.self.now in
    let found = position-Some (is_named c.args.session.now) desk.sessions c.in-Some.place one at in
    record {
      kept = subst (λ (xs : List OpenSession). IsKept desk.main.model c.release.new.self desk.main.map desk.main.products xs) (sym c.remove_at-agreeing.ensures.list)
          (removed_kept desk.main.model desk.kernel c.release.new.self desk.main.map desk.main.products desk.sessions c.in-Some.place one found.0
          c.release.ensures.grows.keeps
          (subst (λ (h : ℕ). LosesHandle desk.kernel c.release.new.self h) (c.remove_at-agreeing.ensures.handle one) c.release.ensures.lost) c.requires.kept);
      as_many = c.requires.as_many ∙ sym (ap (λ (vs : List Var). length vs) c.release.ensures.grows.keeps.order);
      named = c.requires.named;
    }

pub returns-in-Some-clause-answer : goal.returns-in-Some-clause-answer
returns-in-Some-clause-answer c =
    let at : position (is_named c.args.session.now) c.args.self.now.sessions ≡ Some c.in-Some.place = sym c.place_of.ensures ∙ c.in-Some.is in
    let one = first_of c.args.self.now.sessions c.args.session.now c.in-Some.place at in
    rw (found_at c.args.self.now.sessions c.args.session.now c.in-Some.place one at) refl

pub returns-in-Some-clause-ended : goal.returns-in-Some-clause-ended
returns-in-Some-clause-ended c =
    let at : position (is_named c.args.session.now) c.args.self.now.sessions ≡ Some c.in-Some.place = sym c.place_of.ensures ∙ c.in-Some.is in
    let one = first_of c.args.self.now.sessions c.args.session.now c.in-Some.place at in
    let desk = c.args.self.now in
    let name = c.args.session.now in
    let found = position-Some (is_named name) desk.sessions c.in-Some.place one at in
    ap (λ (xs : List OpenSession). session_at desk.main.model xs name) c.remove_at-agreeing.ensures.list
    ∙ removed_at desk.main.model desk.sessions name c.in-Some.place one found.0 c.requires.kept.sessions.apart found.1 found.2

pub returns-in-Some-clause-others : goal.returns-in-Some-clause-others
returns-in-Some-clause-others c =
    let at : position (is_named c.args.session.now) c.args.self.now.sessions ≡ Some c.in-Some.place = sym c.place_of.ensures ∙ c.in-Some.is in
    let one = first_of c.args.self.now.sessions c.args.session.now c.in-Some.place at in
    let desk = c.args.self.now in
    let name = c.args.session.now in
    let found = position-Some (is_named name) desk.sessions c.in-Some.place one at in
    subst (λ (xs : List OpenSession). OthersStay desk.main.model desk.sessions xs name) (sym c.remove_at-agreeing.ensures.list)
    (removed_rest desk.main.model desk.sessions name c.in-Some.place one found.0 found.1)

pub returns-in-None-clause-answer : goal.returns-in-None-clause-answer
returns-in-None-clause-answer c =
    let none = found_nowhere c.args.self.now.sessions c.args.session.now (sym c.place_of.ensures ∙ c.in-None.is) in
    rw none refl

pub returns-in-None-clause-ended : goal.returns-in-None-clause-ended
returns-in-None-clause-ended c =
    let none = found_nowhere c.args.self.now.sessions c.args.session.now (sym c.place_of.ensures ∙ c.in-None.is) in
    rw none refl
