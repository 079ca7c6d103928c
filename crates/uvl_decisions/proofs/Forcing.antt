-- What is forced and what is offered, told by the sets of the family.
use Rattle.std.proofs.Common.{◌≡◌, ℕ, Bool, true, false, ◌&&◌, List, refl, sym, ap, ◌∙◌}
use Rattle.std.specs.Bool.{beq}
use Rattle.std.specs.Prelude.{not}
use Rattle.std.proofs.lemmas.Bool.{and_parts, false_from_ne_true, false≢true, not-true}
use Rattle.std.proofs.Math.Path.{fun_ext}
use Rattle.uvl_semantics.specs.Family.{some_set}
use Rattle.uvl_semantics.specs.Laws.{SublistsTellSets, VoidFamiliesHaveNoSet}
use Rattle.uvl_semantics.specs.Product.{has}
use Rattle.uvl_decisions.specs.Decisions.{opposite, agrees_with, agrees, agreeing, is_forced}
use Rattle.uvl_decisions.specs.Laws.{ForcedIsInEachSet, OfferedIsInSomeSet, ForcedIsNotOfferedOtherwise, NeverBothAreForced}
use Rattle.uvl_decisions.proofs.Agreeing.{agrees_with-IsTestOfSets, disagrees-IsTestOfSets, agreeing-IsOfSets}

not-false : (b : Bool) → not b ≡ false → b ≡ true
not-false true h = refl
not-false false h = absurd (false≢true (sym h))

pub forced_is_in_each_set : SublistsTellSets → ForcedIsInEachSet
forced_is_in_each_set law family decisions asked sets =
    let exact = law (agreeing family decisions) (λ set. not (agrees_with set asked)) (agreeing-IsOfSets family decisions sets) (disagrees-IsTestOfSets asked) in (
      λ forced set here agreed.
          let none = exact.0 (not-true _ forced) set in
          not-false (agrees_with set asked) (only (family.contains set) (agrees set decisions) (not (agrees_with set asked)) here agreed none),
      λ each. ap not (exact.1 (λ set. false_from_ne_true _ (λ both.
          let parts = and_parts (family.contains set && agrees set decisions) (not (agrees_with set asked)) both in
          let here = and_parts (family.contains set) (agrees set decisions) parts.0 in
          false≢true (sym (ap not (each set here.0 here.1)) ∙ parts.1)))),
    )
  where
    only : (a b c : Bool) → a ≡ true → b ≡ true → ((a && b) && c) ≡ false → c ≡ false
    only a b c ha hb none = sym (rw (ha, hb) refl) ∙ none

pub offered_is_in_some_set : SublistsTellSets → OfferedIsInSomeSet
offered_is_in_some_set law family decisions asked sets =
    let exact = law (agreeing family decisions) (λ set. agrees_with set asked) (agreeing-IsOfSets family decisions sets) (agrees_with-IsTestOfSets asked) in (
      λ none set here agreed. only (family.contains set) (agrees set decisions) (agrees_with set asked) here agreed (exact.0 none set),
      λ each. exact.1 (λ set. false_from_ne_true _ (λ both.
          let parts = and_parts (family.contains set && agrees set decisions) (agrees_with set asked) both in
          let here = and_parts (family.contains set) (agrees set decisions) parts.0 in
          false≢true (sym (each set here.0 here.1) ∙ parts.1))),
    )
  where
    only : (a b c : Bool) → a ≡ true → b ≡ true → ((a && b) && c) ≡ false → c ≡ false
    only a b c ha hb none = sym (rw (ha, hb) refl) ∙ none

beq-not : (b v : Bool) → not (beq b v) ≡ beq b (not v)
beq-not true true = refl
beq-not true false = refl
beq-not false true = refl
beq-not false false = refl

pub forced_is_not_offered_otherwise : ForcedIsNotOfferedOtherwise
forced_is_not_offered_otherwise family decisions asked =
    ap (λ (test : List (List ℕ) → Bool). not (some_set (agreeing family decisions) test)) (fun_ext (λ set. beq-not (has set asked.feature) asked.value))

pub never_both_are_forced : SublistsTellSets → VoidFamiliesHaveNoSet → NeverBothAreForced
never_both_are_forced law void family decisions asked sets some = false_from_ne_true _ (λ both.
    let parts = and_parts (is_forced family decisions asked) (is_forced family decisions (opposite asked)) both in
    let first = (forced_is_in_each_set law family decisions asked sets).0 parts.0 in
    let second = (forced_is_in_each_set law family decisions (opposite asked) sets).0 parts.1 in
    let none = (void (agreeing family decisions) (agreeing-IsOfSets family decisions sets)).1 (λ set. false_from_ne_true _ (λ here.
    let there = and_parts (family.contains set) (agrees set decisions) here in
    let yes = first set there.0 there.1 in
    false≢true (sym (ap not yes) ∙ beq-not (has set asked.feature) asked.value ∙ second set there.0 there.1))) in
    false≢true (sym some ∙ none))
