-- What is answered and changed where a session decides on a feature that was found by its name.
use Rattle.std.proofs.Common.{◌≡◌, ℕ, Bool, false, List, [], get_or, set, Result, Ok, Err, Option, Some, IfErr, OnOk, OnErr, MatchOption, option_map, inl, inr, refl, sym, ap, ◌∙◌, subst}
use Rattle.std.specs.Prelude.{slice_get, unwrap_or}
use Rattle.std.specs.List.{position}
use Rattle.std.specs.Str.{chars}
use Rattle.std.proofs.lemmas.List.{map_push}
use Rattle.std.proofs.lemmas.List.Quantifiers.{position-Some}
use Rattle.uvl_decisions.specs.Deciding.{decide_answer, decided}
use Rattle.uvl_decisions.specs.Decisions.{Decision as Named}
use Rattle.uvl_decisions.specs.Session.{Session}
use Rattle.uvl_model.specs.declared.rows.FeatureNo.{FeatureNo}
use Rattle.uvl_model.specs.Names.{feature_names}
use Rattle.uvl_model.specs.Products.{Products}
use Rattle.uvl_model.specs.Rows.{Rows}
use Rattle.uvl_semantics.specs.Product.{has}
use Rattle.uvl_session.specs.declared.decision.Decision.{Decision}
use Rattle.uvl_session.specs.declared.desk.Desk.{Desk}
use Rattle.uvl_session.specs.declared.refusal.DeskRefusal.{DeskRefusal}
use Rattle.uvl_session.specs.declared.refusal.DeskRefusal.TheVariants.{UnknownFeature}
use Rattle.uvl_session.specs.declared.sessions.OpenSession.{OpenSession}
use Rattle.uvl_session.specs.Answers.{IsToldAs}
use Rattle.uvl_session.specs.Deciding.{asked_for, told_deciding, decided_session, IsToldUnless, HasDecided}
use Rattle.uvl_session.specs.Numbered.{decision_of, session_of}
use Rattle.uvl_session.specs.Sessions.{is_named, session_at, OthersStay}
use Rattle.uvl_session.proofs.Changes.{found_changed, found_others, named_otherwise}
use Rattle.uvl_session.proofs.Found.{first_of, found_at}
use Rattle.uvl_session.proofs.OneMore.{allowed}

-- an answer that is told, or want of memory
pub told_or_not : (result told : Result (Unit {0}) DeskRefusal) (refuses : DeskRefusal → Type 0) → IsToldAs result told → IsToldUnless result told refuses
told_or_not result told refuses (inl is) = inl is
told_or_not result told refuses (inr wanting) = inr (inl wanting)

-- what the answer has to be where it is all right
pub told_ok : (told : Result (Unit {0}) DeskRefusal) → IsToldAs (Ok tt) told → told ≡ Ok tt
told_ok told (inl is) = sym is
told_ok told (inr wanting) = absurd (cc)

-- so it is, or the table refuses
pub told_unless : (result told : Result (Unit {0}) DeskRefusal) (refuses : DeskRefusal → Type 0) → told ≡ Ok tt → IfErr result refuses → IsToldUnless result told refuses
told_unless (Ok x) told refuses is cause = inl (sym is)
told_unless (Err r) told refuses is cause = inr (inr (is, (r, refl, cause)))

-- a name that is none of the model's
pub told_unknown : (rows : Rows) (session : Session) (asked : Named) → has (feature_names rows) asked.feature ≡ false → told_deciding (decide_answer (Products rows) session asked) ≡ Err UnknownFeature
told_unknown rows session asked none = rw none refl

on_ok : {A B : Type 0} (result : Result (Unit {0}) DeskRefusal) → OnOk result A → (A → B) → OnOk result B
on_ok (Ok x) a f = f a
on_ok (Err r) a f = tt

module _ (desk : Desk) (name : List ℕ) (place : ℕ) (at : position (is_named name) desk.sessions ≡ Some place) where
  abbrev one : OpenSession
  one = first_of desk.sessions name place at

  abbrev it : OpenSession
  it = get_or desk.sessions place one

  -- it is the session with the name
  pub session_there : session_at desk.main.model desk.sessions name ≡ Some (session_of desk.main.model it.stages)
  session_there = ap (option_map (λ (s : OpenSession). session_of desk.main.model s.stages)) (found_at desk.sessions name place one at)

  -- what holds of it holds of what the name gives
  pub for_it : (A : Type 0) (P : Session → Type 0) → P (session_of desk.main.model it.stages) → MatchOption (session_at desk.main.model desk.sessions name) A P
  for_it A P holds = rw session_there holds

  module _ (text : List ℕ) (feature : FeatureNo) (value : Bool) (found : slice_get (feature_names desk.main.model) feature.0 ≡ Some (chars text)) where
    abbrev decision : Decision
    decision = record { feature = feature; value = value }

    asked_is : decision_of desk.main.model decision ≡ asked_for text value
    asked_is = ap named (ap (λ (o : Option (List ℕ)). unwrap_or o []) found)
      where
        named : List ℕ → Named
        named n = record { feature = n; value = value }

    -- what holds of it and of the decision by their numbers
    pub answered : (A : Type 0) (P : Session → Named → Type 0) → P (session_of desk.main.model it.stages) (decision_of desk.main.model decision)
        → MatchOption (session_at desk.main.model desk.sessions name) A (λ before. P before (asked_for text value))
    answered A P holds = rw session_there (subst (λ (d : Named). P (session_of desk.main.model it.stages) d) asked_is holds)

    -- it is one decision longer
    has_decided : (after : List OpenSession) (h : ℕ) → told_deciding (decide_answer (Products desk.main.model) (session_of desk.main.model it.stages) (decision_of desk.main.model decision)) ≡ Ok tt
        → after ≡ set desk.sessions place (decided_session it decision h) → HasDecided desk.main.model desk.sessions after name (asked_for text value)
    has_decided after h may is =
        let rows = desk.main.model in
        let p = position-Some (is_named name) desk.sessions place one at in
        let now : session_at rows after name ≡ Some (session_of rows (decided_session it decision h).stages) =
        ap (λ (xs : List OpenSession). session_at rows xs name) is
        ∙ ap (option_map (λ (s : OpenSession). session_of rows s.stages)) (found_changed desk.sessions name place one (decided_session it decision h) p.0 p.1 p.2) in
        subst (λ (d : Named). HasDecided rows desk.sessions after name d) asked_is
        (ap (option_map (λ (s : Session). decide_answer (Products rows) s (decision_of rows decision))) session_there
        ∙ ap Some ((allowed rows (session_of rows it.stages) (decision_of rows decision) may).answer
        ∙ ap (λ (ds : List Named). decided (record { closed = (session_of rows it.stages).closed; standing = ds })) (sym (map_push (decision_of rows) it.stages.standing decision)))
        ∙ sym (ap (option_map decided) now))

    pub on_ok_decided : (after : List OpenSession) (result : Result (Unit {0}) DeskRefusal)
        → told_deciding (decide_answer (Products desk.main.model) (session_of desk.main.model it.stages) (decision_of desk.main.model decision)) ≡ Ok tt
        → OnOk result ((h : ℕ) × (after ≡ set desk.sessions place (decided_session it decision h)))
        → OnOk result (HasDecided desk.main.model desk.sessions after name (asked_for text value))
    on_ok_decided after result may changed = on_ok result changed (λ (h, is). has_decided after h may is)

    -- and the others are as before
    pub others_stay : (after : List OpenSession) (result : Result (Unit {0}) DeskRefusal) → OnOk result ((h : ℕ) × (after ≡ set desk.sessions place (decided_session it decision h)))
        → OnErr result (after ≡ desk.sessions) → OthersStay desk.main.model desk.sessions after name
    others_stay after (Ok x) (h, is) same other differ =
        let p = position-Some (is_named name) desk.sessions place one at in
        let out = named_otherwise it name other p.1 differ in
        ap (λ (xs : List OpenSession). session_at desk.main.model xs other) is
        ∙ ap (option_map (λ (s : OpenSession). session_of desk.main.model s.stages)) (found_others desk.sessions other place one (decided_session it decision h) p.0 out out)
    others_stay after (Err r) changed same other differ = ap (λ (xs : List OpenSession). session_at desk.main.model xs other) same
