-- A set of files has one answer.
use Rattle.std.proofs.Common.{◌≡◌, List, Bool, true, false, Option, Some, None, refl, sym, ◌∙◌, inl, inr}
use Rattle.std.specs.Prelude.{◌⊎◌}
use Rattle.std.proofs.lemmas.Bool.{false≢true}
use Rattle.uvl_base.specs.declared.fault.ModelFault.{ModelFault}
use Rattle.uvl_imports.specs.declared.file_set.Loaded.{Loaded}
use Rattle.uvl_scope.specs.Faults.{first_fault, have_numbers}
use Rattle.uvl_scope.specs.Law.{HasOneFault, IsFine, IsOpen, EachSetHasOneAnswer}

by_numbers : (files : List Loaded) (numbers : Bool) → have_numbers files ≡ numbers → first_fault files ≡ None → HasOneFault files ⊎ IsFine files ⊎ IsOpen files
by_numbers files false has none = inr (inl (record {
  accepted = record { no_fault = none; no_numbers = has };
  no_fault = λ fault is. (cc (none, is));
  built = λ not_built. false≢true (sym has ∙ not_built.numbers);
}))
by_numbers files true has none = inr (inr (record {
  not_built = record { no_fault = none; numbers = has };
  no_fault = λ fault is. (cc (none, is));
  not_accepted = λ accepted. false≢true (sym accepted.no_numbers ∙ has);
}))

by_fault : (files : List Loaded) (found : Option ModelFault) → first_fault files ≡ found → HasOneFault files ⊎ IsFine files ⊎ IsOpen files
by_fault files None is = by_numbers files (have_numbers files) refl is
by_fault files (Some fault) is = inl (record {
  fault = fault;
  first = is;
  one = λ other also. (cc (is, also));
  not_accepted = λ accepted. (cc (is, accepted.no_fault));
  built = λ not_built. (cc (is, not_built.no_fault));
})

pub one_answer : EachSetHasOneAnswer
one_answer files = by_fault files (first_fault files) refl
