-- The first of the cases of a decision that holds, by what is known of the session at a place.
use Rattle.std.proofs.Common.{◌≡◌, ◌<◌, ◌==◌, if◌then◌else◌, ℕ, Bool, true, false, List, length, get_or, Result, Ok, Err, inl, sym, ap, ◌∙◌, subst}
use Rattle.std.specs.List.{list_any}
use Rattle.std.proofs.lemmas.List.{map-append}
use Rattle.std.proofs.lemmas.List.Elements.{All-get_or}
use Rattle.uvl_decisions.specs.Deciding.{decide_answer}
use Rattle.uvl_decisions.specs.Decisions.{Decision as Named, is_offered}
use Rattle.uvl_decisions.specs.Laws.{ForcedIsNotOfferedOtherwise, NoneIsForWhatIsNotForced}
use Rattle.uvl_decisions.specs.Session.{Session, decides}
use Rattle.uvl_model.specs.Laws.{ProductsAreSets}
use Rattle.uvl_model.specs.Names.{feature_names}
use Rattle.uvl_model.specs.Products.{Products}
use Rattle.uvl_model.specs.Sound.{IsSound as IsSoundModel}
use Rattle.uvl_model.proofs.Everywhere.{all_front, all_rest}
use Rattle.uvl_semantics.specs.Product.{has}
use Rattle.uvl_session.specs.declared.decision.Decision.{Decision}
use Rattle.uvl_session.specs.declared.desk.Desk.{Desk}
use Rattle.uvl_session.specs.declared.refusal.DeskRefusal.{DeskRefusal}
use Rattle.uvl_session.specs.declared.refusal.DeskRefusal.TheVariants.{Closed, Decided, Conflict}
use Rattle.uvl_session.specs.declared.sessions.OpenSession.{OpenSession}
use Rattle.uvl_session.specs.Answers.{IsToldAs}
use Rattle.uvl_session.specs.Deciding.{told_deciding}
use Rattle.uvl_session.specs.Desk.{IsSession, IsSound}
use Rattle.uvl_session.specs.Numbered.{all_of, decision_of, decisions_in, session_of}
use Rattle.uvl_session.proofs.Allowed.{decides-number, known, told-closed, told-decided, told-last, told-offered}

module _ (desk : Desk) (place : ℕ) (it : OpenSession) (at : (d : OpenSession) → it ≡ get_or desk.sessions place d) (sound : IsSound desk) (there : place < length desk.sessions) where
  pub is_session : IsSession desk.main.model desk.kernel desk.main.map it
  is_session =
      subst (λ (x : OpenSession). IsSession desk.main.model desk.kernel desk.main.map x) (sym (at it))
      (All-get_or (IsSession desk.main.model desk.kernel desk.main.map) desk.sessions place it there sound.kept.sessions.each)

  module _ (decision : Decision) (sets : ProductsAreSets) (model : IsSoundModel desk.main.model) (inside : decision.feature.0 < length desk.main.model.features) where
    abbrev session : Session
    session = session_of desk.main.model it.stages

    abbrev asked : Named
    asked = decision_of desk.main.model decision

    is_known : has (feature_names desk.main.model) asked.feature ≡ true
    is_known = known desk.main.model model decision.feature inside

    -- one of a part of the decisions is on the feature
    closed-is : (part : List Decision) (found : Bool) → found ≡ list_any (λ (one : Decision). one.feature.0 == decision.feature.0) part → part ≡ it.stages.closed
        → found ≡ decides session.closed asked.feature
    closed-is part found is same =
        is ∙ ap (λ (ds : List Decision). list_any (λ (one : Decision). one.feature.0 == decision.feature.0) ds) same
        ∙ decides-number desk.main.model model it.stages.closed decision.feature
        (all_front (λ (one : Decision). one.feature.0 < length desk.main.model.features) it.stages.closed it.stages.standing is_session.features) inside

    standing-is : (part : List Decision) (found : Bool) → found ≡ list_any (λ (one : Decision). one.feature.0 == decision.feature.0) part → part ≡ it.stages.standing
        → found ≡ decides session.standing asked.feature
    standing-is part found is same =
        is ∙ ap (λ (ds : List Decision). list_any (λ (one : Decision). one.feature.0 == decision.feature.0) ds) same
        ∙ decides-number desk.main.model model it.stages.standing decision.feature
        (all_rest (λ (one : Decision). one.feature.0 < length desk.main.model.features) it.stages.closed it.stages.standing is_session.features) inside

    -- what is told of the session is told of that at the place
    placed : (result : Result (Unit {0}) DeskRefusal) → told_deciding (decide_answer (Products desk.main.model) session asked) ≡ result
        → (d : OpenSession) → IsToldAs result (told_deciding (decide_answer (Products desk.main.model)
        (session_of desk.main.model (get_or desk.sessions place d).stages) asked))
    placed result told d =
        subst (λ (x : OpenSession). IsToldAs result (told_deciding (decide_answer (Products desk.main.model) (session_of desk.main.model x.stages) asked)))
        (at d) (inl (sym told))

    module _ (part : List Decision) (first : Bool) (first-is : first ≡ list_any (λ (one : Decision). one.feature.0 == decision.feature.0) part) (closed : part ≡ it.stages.closed) where
      pub is_closed : first ≡ true → (d : OpenSession) → IsToldAs (Err Closed) (told_deciding (decide_answer (Products desk.main.model)
          (session_of desk.main.model (get_or desk.sessions place d).stages) asked))
      is_closed hit = placed (Err Closed) (told-closed desk.main.model sets session asked is_known (sym (closed-is part first first-is closed) ∙ hit))

      module _ (no : first ≡ false) (part' : List Decision) (second : Bool) (second-is : second ≡ list_any (λ (one : Decision). one.feature.0 == decision.feature.0) part')
          (standing : part' ≡ it.stages.standing) where
        pub is_decided : second ≡ true → (d : OpenSession) → IsToldAs (Err Decided) (told_deciding (decide_answer (Products desk.main.model)
            (session_of desk.main.model (get_or desk.sessions place d).stages) asked))
        is_decided hit =
            placed (Err Decided) (told-decided desk.main.model sets session asked is_known (sym (closed-is part first first-is closed) ∙ no)
            (sym (standing-is part' second second-is standing) ∙ hit))

        -- and then whether it is offered
        pub is_last : ForcedIsNotOfferedOtherwise → NoneIsForWhatIsNotForced → second ≡ false → (offered : Bool)
            → offered ≡ is_offered (Products desk.main.model) (decisions_in desk.main.model (all_of it.stages)) asked
            → (d : OpenSession) → IsToldAs (if offered then Ok tt else Err Conflict) (told_deciding (decide_answer (Products desk.main.model)
            (session_of desk.main.model (get_or desk.sessions place d).stages) asked))
        is_last opposites explained none offered is =
            let rows = desk.main.model in
            let parts = map-append (decision_of rows) it.stages.closed it.stages.standing in
            placed (if offered then Ok tt else Err Conflict)
            (told-offered rows sets session asked offered
            (sym (is ∙ ap (λ (ds : List Named). is_offered (Products rows) ds asked) parts))
            (told-last rows sets session asked opposites explained is_known
            (sym (closed-is part first first-is closed) ∙ no) (sym (standing-is part' second second-is standing) ∙ none)))
