-- Whatever is at the paths of files, a main file is that of one set in which nothing is wrong, or has one fault: this
-- follows from the laws of the layers.
use Rattle.std.proofs.Common.{◌≡◌, ◌⊎◌, ℕ, List, inl, inr, refl, subst}
use Rattle.uvl_outside.specs.Files.{Contents}
use Rattle.uvl_base.specs.declared.fault.FaultKind.TheVariants.{NotBuilt}
use Rattle.uvl_base.specs.declared.fault.ModelFault.{ModelFault}
use Rattle.uvl_imports.specs.declared.file_set.Loaded.{Loaded}
use Rattle.uvl_imports.specs.Law.{HasSet, AllFilesLoadOrHaveAFault}
use Rattle.uvl_imports.specs.Law as loading
use Rattle.uvl_imports.specs.Loading.{Loads}
use Rattle.uvl_imports.specs.Reading.{first_place, fault_in}
use Rattle.uvl_scope.specs.Faults.{IsAccepted, IsNotBuilt}
use Rattle.uvl_scope.specs.Faults as scope
use Rattle.uvl_scope.specs.Law.{HasOneFault, IsFine, IsOpen, EachSetHasOneAnswer}
use Rattle.uvl_run.specs.Laws.{IsOneSet, EachMainFileIsLoadedOnce}
use Rattle.uvl_run.specs.Laws as law
use Rattle.uvl_run.specs.Loading.{HasFault, in_loading, in_set, not_built}

-- a fault in the loading
unloaded : (contents : Contents) (main : List ℕ) → loading.HasFault contents main → law.HasOneFault contents main
unloaded contents main found = record {
  fault = found.fault;
  has = in_loading found.first;
  one = alone;
  no_set = λ files set. found.no_set files set.loads;
}
  where
    alone : (other : ModelFault) → HasFault contents main other → other ≡ found.fault
    alone other (in_loading first) = found.one other first
    alone other (in_set files loads first) = absurd (found.no_set files loads)
    alone other (not_built files loads unready is) = absurd (found.no_set files loads)

module _ (contents : Contents) (main : List ℕ) (set : HasSet contents main) where
  -- what holds of a set that loads holds of the one set
  of_set : (P : List Loaded → Type 0) (files : List Loaded) → Loads contents main files → P files → P set.files
  of_set P files loads holds = subst P (set.one files loads) holds

  -- a fault in the set
  faulty : HasOneFault set.files → law.HasOneFault contents main
  faulty found = record {
    fault = found.fault;
    has = in_set set.files set.loads found.first;
    one = alone;
    no_set = λ files is. found.not_accepted (of_set IsAccepted files is.loads is.accepted);
  }
    where
      alone : (other : ModelFault) → HasFault contents main other → other ≡ found.fault
      alone other (in_loading first) = absurd (set.no_fault other first)
      alone other (in_set files loads first) = found.one other (of_set (λ fs. scope.HasFirstFault fs other) files loads first)
      alone other (not_built files loads unready is) = absurd (found.built (of_set IsNotBuilt files loads unready))

  -- nothing is wrong in the set
  fine : IsFine set.files → IsOneSet contents main
  fine found = record {
    files = set.files;
    is = record { loads = set.loads; accepted = found.accepted };
    one = λ others is. set.one others is.loads;
    no_fault = none;
  }
    where
      none : (fault : ModelFault) → HasFault contents main fault → ⊥
      none fault (in_loading first) = set.no_fault fault first
      none fault (in_set files loads first) = found.no_fault fault (of_set (λ fs. scope.HasFirstFault fs fault) files loads first)
      none fault (not_built files loads unready is) = found.built (of_set IsNotBuilt files loads unready)

  -- a rule of the set speaks of numbers
  unbuilt : IsOpen set.files → law.HasOneFault contents main
  unbuilt found = record {
    fault = fault_in main first_place NotBuilt;
    has = not_built set.files set.loads found.not_built refl;
    one = alone;
    no_set = λ files is. found.not_accepted (of_set IsAccepted files is.loads is.accepted);
  }
    where
      alone : (other : ModelFault) → HasFault contents main other → other ≡ fault_in main first_place NotBuilt
      alone other (in_loading first) = absurd (set.no_fault other first)
      alone other (in_set files loads first) = absurd (found.no_fault other (of_set (λ fs. scope.HasFirstFault fs other) files loads first))
      alone other (not_built files loads unready is) = is

  of_answer : EachSetHasOneAnswer → IsOneSet contents main ⊎ law.HasOneFault contents main
  of_answer answers = elim (answers set.files) [
    | inl found ↦ inr (faulty found)
    | inr rest ↦ elim rest [ inl found ↦ inl (fine found) | inr found ↦ inr (unbuilt found) ]
  ]

pub loaded_once : AllFilesLoadOrHaveAFault → EachSetHasOneAnswer → EachMainFileIsLoadedOnce
loaded_once loads answers contents main =
    elim (loads contents main) [ inl set ↦ of_answer contents main set answers | inr found ↦ inr (unloaded contents main found) ]
