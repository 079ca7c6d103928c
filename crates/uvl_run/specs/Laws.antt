-- What holds of all files.
use Rattle.std.specs.Prelude.{◌≡◌, ℕ, ◌≤◌, ◌⊎◌, List, Some, length}
use Rattle.uvl_outside.specs.Files.{Contents}
use Rattle.uvl_base.specs.declared.fault.ModelFault.{ModelFault}
use Rattle.uvl_imports.specs.declared.file_set.Loaded.{Loaded}
use Rattle.uvl_semantics.specs.Family.{Family}
use Rattle.uvl_words.specs.Budgets.{default_budget}
use Rattle.uvl_run.specs.Budget.{IsShortFor}
use Rattle.uvl_run.specs.Loading.{IsSetOf, HasFault}
use Rattle.uvl_run.specs.Models.{products_of}

-- a main file is one set of files, and has no fault
pub record IsOneSet (contents : Contents) (main : List ℕ) : Type 0 where
  pub files : List Loaded
  pub is : IsSetOf contents main files
  pub one : (others : List Loaded) → IsSetOf contents main others → others ≡ files
  pub no_fault : (fault : ModelFault) → HasFault contents main fault → ⊥

-- a main file has one fault, and is no set of files
pub record HasOneFault (contents : Contents) (main : List ℕ) : Type 0 where
  pub fault : ModelFault
  pub has : HasFault contents main fault
  pub one : (other : ModelFault) → HasFault contents main other → other ≡ fault
  pub no_set : (files : List Loaded) → IsSetOf contents main files → ⊥

-- whatever is at the paths, exactly one of the two holds
abbrev pub EachMainFileIsLoadedOnce : Type 0
EachMainFileIsLoadedOnce = (contents : Contents) (main : List ℕ) → IsOneSet contents main ⊎ HasOneFault contents main

-- the budget where none is given is enough for the products of up to nine features
abbrev pub NineFeaturesAreNeverTooMany : Type 0
NineFeaturesAreNeverTooMany =
    (files : List Loaded) (family : Family) (budget : ℕ) → products_of files ≡ Some family → length family.names ≤ 9
    → default_budget ≤ budget → IsShortFor files budget → ⊥
