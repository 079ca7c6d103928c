-- What the answers of the loading and of the resolution say of a main file.
use Rattle.std.proofs.Common.{◌≡◌, ℕ, false, List, Option, Some, None, Err, refl, sym, ap, subst}
use Rattle.uvl_outside.specs.Files.{Contents}
use Rattle.uvl_base.specs.declared.fault.ModelFault.{ModelFault}
use Rattle.uvl_imports.specs.declared.fault.LoadFault.{LoadFault}
use Rattle.uvl_imports.specs.declared.fault.LoadFault.TheVariants.{Model, ReadFault, OutOfMemory}
use Rattle.uvl_imports.specs.declared.file_set.Loaded.{Loaded}
use Rattle.uvl_imports.specs.Loading.{LoadsAs, load_failed}
use Rattle.uvl_imports.specs.Loading as loading
use Rattle.uvl_model.specs.Rows.{Rows}
use Rattle.uvl_resolve.specs.Faults as resolution
use Rattle.uvl_resolve.specs.declared.fault.ResolveFault.{ResolveFault}
use Rattle.uvl_resolve.specs.declared.fault.ResolveFault.TheVariants as resolving
use Rattle.uvl_run.specs.Loading.{in_loading, in_set, not_built}
use Rattle.uvl_run.specs.steps.Loads.{IsCauseOf, IsNotBuiltIn, IsFaultOf}

-- what is wrong in the loading is wrong with the main file
pub cause_of_loading : (told : Option Contents) (path : List ℕ) (fault : LoadFault) → loading.IsCauseOf told path fault → IsCauseOf told path fault
cause_of_loading None path (Model fault) cause = tt
cause_of_loading (Some contents) path (Model fault) cause = in_loading cause
cause_of_loading told path ReadFault cause = tt
cause_of_loading told path OutOfMemory cause = tt

-- so is what is wrong in the set that is loaded
in_resolution : (told : Option Contents) (path : List ℕ) (files : List Loaded) (fault : ModelFault) → LoadsAs told path files → resolution.IsCauseOf files (resolving.Model fault) → IsCauseOf told path (Model fault)
in_resolution None path files fault loads first = tt
in_resolution (Some contents) path files fault loads first = in_set files loads first

-- and what isn't built yet
unbuilt : (told : Option Contents) (path : List ℕ) (files : List Loaded) (met : LoadFault) → LoadsAs told path files → resolution.IsCauseOf files resolving.NotBuilt → IsNotBuiltIn path met → IsCauseOf told path met
unbuilt None path files (Model fault) loads unready is = tt
unbuilt (Some contents) path files (Model fault) loads unready is = not_built files loads unready is
unbuilt told path files ReadFault loads unready is = absurd is
unbuilt told path files OutOfMemory loads unready is = tt

pub cause_of_resolution : (told : Option Contents) (path : List ℕ) (files : List Loaded) (fault : ResolveFault) (met : LoadFault) → LoadsAs told path files → resolution.IsCauseOf files fault
    → IsFaultOf path fault met → IsCauseOf told path met
cause_of_resolution told path files (resolving.Model fault) met loads cause is =
    subst (λ (f : LoadFault). IsCauseOf told path f) (sym is) (in_resolution told path files fault loads cause)
cause_of_resolution told path files resolving.NotBuilt met loads cause is = unbuilt told path files met loads cause is
cause_of_resolution told path files resolving.OutOfMemory met loads cause is = subst (λ (f : LoadFault). IsCauseOf told path f) (sym is) tt

unbuilt_is_counted : (path : List ℕ) (met : LoadFault) → IsNotBuiltIn path met → load_failed {T = Rows} (Err met) ≡ false
unbuilt_is_counted path (Model fault) is = refl
unbuilt_is_counted path ReadFault is = absurd is
unbuilt_is_counted path OutOfMemory is = refl

-- no fault of the resolution is one of the host
pub not_of_host : (path : List ℕ) (fault : ResolveFault) (met : LoadFault) → IsFaultOf path fault met → load_failed {T = Rows} (Err met) ≡ false
not_of_host path (resolving.Model fault) met is = ap (λ (f : LoadFault). load_failed {T = Rows} (Err f)) is
not_of_host path resolving.NotBuilt met is = unbuilt_is_counted path met is
not_of_host path resolving.OutOfMemory met is = ap (λ (f : LoadFault). load_failed {T = Rows} (Err f)) is
