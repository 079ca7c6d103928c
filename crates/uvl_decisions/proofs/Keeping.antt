-- Each step of a session leaves a set that agrees with its decisions.
use Rattle.std.proofs.Common.{◌≡◌, ℕ, Bool, true, false, List, [], ◌∷◌, ◌++◌, Option, Some, None, is_some, refl, sym, ap, subst, ◌∙◌, if◌then◌else◌}
use Rattle.std.specs.Bool.{beq}
use Rattle.std.specs.List.{filter}
use Rattle.std.specs.Prelude.{not, nat_le}
use Rattle.std.proofs.lemmas.Bool.{and_from, and_parts, false_from_ne_true, false≢true}
use Rattle.std.proofs.lemmas.List.{append-nil, append_assoc}
use Rattle.std.proofs.lemmas.Option.{none-some}
use Rattle.uvl_semantics.specs.Family.{Family, IsOfSets, is_void}
use Rattle.uvl_semantics.specs.Laws.{VoidFamiliesHaveNoSet}
use Rattle.uvl_semantics.specs.Product.{has}
use Rattle.uvl_decisions.specs.Deciding.{Decided, unknown_feature, is_closed, is_decided, decided, unless_forced, decide_answer}
use Rattle.uvl_decisions.specs.Decisions.{Decision, opposite, agrees_with, agrees, agreeing, is_forced}
use Rattle.uvl_decisions.specs.Explanation.{explanation}
use Rattle.uvl_decisions.specs.Laws.{ForcedIsInEachSet, NoneIsForWhatIsNotForced, HasASet, SessionsKeepASet}
use Rattle.uvl_decisions.specs.Opening.{Opened, session_there, too_many_sessions, void_model, opened, most_sessions, open_answer}
use Rattle.uvl_decisions.specs.Retracting.{Retracted, retracted, not_decided, without, retract_answer}
use Rattle.uvl_decisions.specs.Session.{Session, fresh, decisions_of, decides}
use Rattle.uvl_decisions.proofs.Agreeing.{agreeing-IsOfSets}
use Rattle.uvl_decisions.proofs.Least.{same-some}

-- what all of two lists have
all-front : (set : List (List ℕ)) (xs ys : List Decision) → agrees set (xs ++ ys) ≡ true → agrees set xs ≡ true
all-front set [] ys h = refl
all-front set (x ∷ xs) ys h =
    let parts = and_parts (agrees_with set x) (agrees set (xs ++ ys)) h in
    and_from _ _ parts.0 (all-front set xs ys parts.1)

all-back : (set : List (List ℕ)) (xs ys : List Decision) → agrees set (xs ++ ys) ≡ true → agrees set ys ≡ true
all-back set [] ys h = h
all-back set (x ∷ xs) ys h = all-back set xs ys (and_parts (agrees_with set x) (agrees set (xs ++ ys)) h).1

all-both : (set : List (List ℕ)) (xs ys : List Decision) → agrees set xs ≡ true → agrees set ys ≡ true → agrees set (xs ++ ys) ≡ true
all-both set [] ys front back = back
all-both set (x ∷ xs) ys front back =
    let parts = and_parts (agrees_with set x) (agrees set xs) front in
    and_from _ _ parts.0 (all-both set xs ys parts.1 back)

all-filtered : (set : List (List ℕ)) (test : Decision → Bool) (xs : List Decision) → agrees set xs ≡ true → agrees set (filter test xs) ≡ true
all-filtered set test [] h = refl
all-filtered set test (x ∷ xs) h =
    let parts = and_parts (agrees_with set x) (agrees set xs) h in
    by (test x) parts.0 (all-filtered set test xs parts.1)
  where
    by : (b : Bool) → agrees_with set x ≡ true → agrees set (filter test xs) ≡ true → agrees set (if b then x ∷ filter test xs else filter test xs) ≡ true
    by true first later = and_from _ _ first later
    by false first later = later

module _ (void : VoidFamiliesHaveNoSet) where
  -- where each set of one family is one of another, this one has a set too
  still : (family other : Family) → IsOfSets family → IsOfSets other → is_void family ≡ false
      → ((set : List (List ℕ)) → family.contains set ≡ true → other.contains set ≡ true) → is_void other ≡ false
  still family other sets other_sets some each = false_from_ne_true _ (λ none.
      let no_set = (void other other_sets).0 none in
      let none_before = (void family sets).1 (λ set. false_from_ne_true _ (λ here. false≢true (sym (no_set set) ∙ each set here))) in
      false≢true (sym some ∙ none_before))

  module _ (family : Family) (sets : IsOfSets family) where
    -- where each set that agrees with some decisions agrees with others, these have a set too
    still_agree : (before after : List Decision) → is_void (agreeing family before) ≡ false
        → ((set : List (List ℕ)) → agrees set before ≡ true → agrees set after ≡ true) → is_void (agreeing family after) ≡ false
    still_agree before after some each =
        still (agreeing family before) (agreeing family after) (agreeing-IsOfSets family before sets) (agreeing-IsOfSets family after sets) some
        (λ set here. let parts = and_parts (family.contains set) (agrees set before) here in and_from _ _ parts.0 (each set parts.1))

    -- where the other value isn't forced, a set has this one
    offered : ForcedIsInEachSet → (decisions : List Decision) (asked : Decision) → is_forced family decisions (opposite asked) ≡ false
        → is_void (agreeing family (decisions ++ asked ∷ [])) ≡ false
    offered tells decisions asked free = false_from_ne_true _ (λ none.
        let no_set = (void (agreeing family (decisions ++ asked ∷ [])) (agreeing-IsOfSets family (decisions ++ asked ∷ []) sets)).0 none in
        let forced = (tells family decisions (opposite asked) sets).1 (λ set here agreed.
        otherwise (has set asked.feature) asked.value (false_from_ne_true _ (λ with_it.
        false≢true (sym (no_set set) ∙ and_from _ _ here (all-both set decisions (asked ∷ []) agreed (and_from _ _ with_it refl)))))) in
        false≢true (sym free ∙ forced))
      where
        otherwise : (b v : Bool) → beq b v ≡ false → beq b (not v) ≡ true
        otherwise true true h = absurd (false≢true (sym h))
        otherwise true false h = refl
        otherwise false true h = refl
        otherwise false false h = absurd (false≢true (sym h))

    -- opening
    abbrev opened_after : Opened → Option Session
    opened_after (opened after) = Some after
    opened_after _ = None

    opens : (is_there : Bool) (count : ℕ) (after : Session) → open_answer family is_there count ≡ opened after → HasASet family after
    opens is_there count after h = by is_there (nat_le most_sessions count) (is_void family) refl (ap opened_after h)
      where
        by : (a b c : Bool) → is_void family ≡ c
            → opened_after (if a then session_there else if b then too_many_sessions else if c then void_model else opened fresh) ≡ Some after
            → HasASet family after
        by true b c is h = absurd (none-some after h)
        by false true c is h = absurd (none-some after h)
        by false false true is h = absurd (none-some after h)
        by false false false is h =
            subst (λ (s : Session). HasASet family s) (same-some fresh after h)
            (still family (agreeing family []) sets (agreeing-IsOfSets family [] sets) is (λ set here. and_from _ _ here refl))

    -- deciding
    abbrev decided_after : Decided → Option Session
    decided_after (decided after) = Some after
    decided_after _ = None

    decides_so : ForcedIsInEachSet → NoneIsForWhatIsNotForced → (session after : Session) (asked : Decision)
        → decide_answer family session asked ≡ decided after → HasASet family after
    decides_so tells there session after asked h =
        by (has family.names asked.feature) (decides session.closed asked.feature) (decides session.standing asked.feature)
        (explanation family (decisions_of session) (opposite asked)) refl (ap decided_after h)
      where
        by : (a b c : Bool) (o : Option (List Decision)) → explanation family (decisions_of session) (opposite asked) ≡ o
            → decided_after (if not a then unknown_feature else if b then is_closed else if c then is_decided else unless_forced session asked o) ≡ Some after
            → HasASet family after
        by false b c o is h = absurd (none-some after h)
        by true true c o is h = absurd (none-some after h)
        by true false true o is h = absurd (none-some after h)
        by true false false (Some because) is h = absurd (none-some after h)
        by true false false None is h =
            subst (λ (s : Session). HasASet family s)
            (same-some (record { closed = session.closed; standing = session.standing ++ asked ∷ [] }) after h)
            (subst (λ (ds : List Decision). is_void (agreeing family ds) ≡ false) (append_assoc session.closed session.standing (asked ∷ []))
            (offered tells (decisions_of session) asked
            (sym (there family (decisions_of session) (opposite asked) sets) ∙ ap is_some is)))

    -- retracting
    abbrev retracted_after : Retracted → Option Session
    retracted_after (retracted after) = Some after
    retracted_after _ = None

    retracts : (session after : Session) (feature : List ℕ) → HasASet family session → retract_answer family session feature ≡ retracted after → HasASet family after
    retracts session after feature some h =
        by (has family.names feature) (decides session.closed feature) (decides session.standing feature) (ap retracted_after h)
      where
        left : Session
        left = record { closed = session.closed; standing = without session.standing feature }

        by : (a b c : Bool)
            → retracted_after (if not a then Retracted.unknown_feature else if b then Retracted.is_closed else if c then retracted left else not_decided) ≡ Some after
            → HasASet family after
        by false b c h = absurd (none-some after h)
        by true true c h = absurd (none-some after h)
        by true false false h = absurd (none-some after h)
        by true false true h =
            subst (λ (s : Session). HasASet family s) (same-some left after h)
            (still_agree (decisions_of session) (decisions_of left) some (λ set agreed.
            all-both set session.closed (without session.standing feature) (all-front set session.closed session.standing agreed)
            (all-filtered set _ session.standing (all-back set session.closed session.standing agreed))))

pub sessions_keep_a_set : VoidFamiliesHaveNoSet → ForcedIsInEachSet → NoneIsForWhatIsNotForced → SessionsKeepASet
sessions_keep_a_set void tells there = record {
  opening = λ family is_there count after sets h. opens void family sets is_there count after h;
  deciding = λ family session after asked sets some h. decides_so void family sets tells there session after asked h;
  retracting = λ family session after feature sets some h. retracts void family sets session after feature some h;
  closing = λ family session some. subst (λ (ds : List Decision). is_void (agreeing family ds) ≡ false) (sym (append-nil (decisions_of session))) some;
}
