-- The session at the place that the search finds is closed.
use Rattle.std.proofs.Common.{◌≡◌, List, Some, refl, sym, ap, ◌∙◌, subst}
use Rattle.std.specs.List.{position}
use Rattle.std.proofs.lemmas.List.Quantifiers.{position-Some}
use Rattle.uvl_session.specs.declared.sessions.OpenSession.{OpenSession}
use Rattle.uvl_session.specs.Desk.{IsKept}
use Rattle.uvl_session.specs.Sessions.{is_named, session_at, OthersStay}
use Rattle.uvl_session.proofs.Found.{first_of, found_at, found_nowhere}
use Rattle.uvl_session.proofs.Changes.{closed_at, closed_kept, closed_others}
use Rattle.uvl_session.proofs.desk.Desk.close_stage.Goals as goal

-- what was found
at : (c : goal.After-close_at) → position (is_named c.args.session.now) c.args.self.now.sessions ≡ Some c.in-Some.place
at c = sym c.place_of.ensures ∙ c.in-Some.is

one : (c : goal.After-close_at) → OpenSession
one c = first_of c.args.self.now.sessions c.args.session.now c.in-Some.place (at c)

pub returns-in-Some-clause-sound : goal.returns-in-Some-clause-sound
returns-in-Some-clause-sound c =
    let desk = c.args.self.now in
    let found = position-Some (is_named c.args.session.now) desk.sessions c.in-Some.place (one c) (at c) in
    record {
      kept = subst (λ (xs : List OpenSession). IsKept desk.main.model desk.kernel desk.main.map desk.main.products xs) (sym (c.close_at.ensures (one c)))
          (closed_kept desk.main.model desk.kernel desk.main.map desk.main.products desk.sessions c.in-Some.place (one c) found.0 c.requires.kept);
      as_many = c.requires.as_many;
      named = c.requires.named;
    }

pub returns-in-Some-clause-answer : goal.returns-in-Some-clause-answer
returns-in-Some-clause-answer c =
    let desk = c.args.self.now in
    let name = c.args.session.now in
    let found = position-Some (is_named name) desk.sessions c.in-Some.place (one c) (at c) in
    rw (found_at desk.sessions name c.in-Some.place (one c) (at c)) (
      refl,
      ap (λ (xs : List OpenSession). session_at desk.main.model xs name) (c.close_at.ensures (one c))
          ∙ closed_at desk.main.model desk.sessions name c.in-Some.place (one c) found.0 found.1 found.2,
    )

pub returns-in-Some-clause-others : goal.returns-in-Some-clause-others
returns-in-Some-clause-others c =
    let desk = c.args.self.now in
    let name = c.args.session.now in
    let found = position-Some (is_named name) desk.sessions c.in-Some.place (one c) (at c) in
    subst (λ (xs : List OpenSession). OthersStay desk.main.model desk.sessions xs name) (sym (c.close_at.ensures (one c)))
    (closed_others desk.main.model desk.sessions name c.in-Some.place (one c) found.0 found.1)

pub returns-in-None-clause-answer : goal.returns-in-None-clause-answer
returns-in-None-clause-answer c =
    let none = found_nowhere c.args.self.now.sessions c.args.session.now (sym c.place_of.ensures ∙ c.in-None.is) in
    rw none refl
