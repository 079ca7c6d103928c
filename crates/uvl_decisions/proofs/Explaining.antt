-- An explanation is there exactly where the value is forced, and it is least.
use Rattle.std.proofs.Common.{◌≡◌, List, Option, Some, None, is_some, refl, sym}
use Rattle.uvl_decisions.specs.Decisions.{Decision, agrees_with, is_forced}
use Rattle.uvl_decisions.specs.Explanation.{parts_of, explanation}
use Rattle.uvl_decisions.specs.Laws.{ForcedIsInEachSet, ExplanationsForce, NoneIsForWhatIsNotForced, ExplanationsAreLeast}
use Rattle.uvl_decisions.proofs.Least.{found-passes, least, whole-fails, part-all}

pub explanations_force : ExplanationsForce
explanations_force family decisions because asked h = found-passes (λ part. is_forced family part asked) (parts_of decisions) because h

pub explanations_are_least : ExplanationsAreLeast
explanations_are_least family decisions because asked h = least (λ part. is_forced family part asked) decisions because h

pub none_is_for_what_is_not_forced : ForcedIsInEachSet → NoneIsForWhatIsNotForced
none_is_for_what_is_not_forced tells family decisions asked sets = by (explanation family decisions asked) refl
  where
    by : (o : Option (List Decision)) → explanation family decisions asked ≡ o → is_some o ≡ is_forced family decisions asked
    by None is = sym (whole-fails (λ part. is_forced family part asked) decisions is)
    by (Some because) is =
        sym ((tells family decisions asked sets).1 (λ set here agreed.
        (tells family because asked sets).0 (explanations_force family decisions because asked is) set here
        (part-all (agrees_with set) (λ part. is_forced family part asked) decisions because is agreed)))
