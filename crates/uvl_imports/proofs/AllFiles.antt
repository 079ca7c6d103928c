-- Every main file loads as one set, or has one first fault.
use Rattle.std.proofs.Common.{◌≡◌, ◌⊎◌, inl, inr, ℕ, List, [], Ok, Err, refl, sym, ap, ◌∙◌, Bool, true, false}
use Rattle.std.proofs.Math.Path.{fun_ext}
use Rattle.std.proofs.lemmas.Bool.{true≢false, false≢true}
use Rattle.uvl_outside.specs.Files.{Contents}
use Rattle.uvl_base.specs.declared.fault.ModelFault.{ModelFault}
use Rattle.uvl_imports.specs.declared.file_set.Loaded.{Loaded}
use Rattle.uvl_imports.specs.Law.{AllBytesAreReadOnce, AllFilesLoadOrHaveAFault, HasSet, HasFault}
use Rattle.uvl_imports.specs.Loading.{from_main}
use Rattle.uvl_imports.specs.Reading.{Reading, ReadsEach}
use Rattle.uvl_imports.specs.Walking.{Outcome}
use Rattle.uvl_imports.proofs.ReadOnce.{reads_as}

module _ (law : AllBytesAreReadOnce) where
  -- the one way of reading
  abbrev pub read_of : List ℕ → Reading
  read_of bytes = (law bytes).reading

  pub reads_of : ReadsEach read_of
  reads_of bytes = (law bytes).reads

  -- every way of reading that is right is that one
  module _ (contents : Contents) (main : List ℕ) where
    abbrev outcome : Outcome ℕ
    outcome = from_main contents read_of main

    same_outcome : (read : List ℕ → Reading) → ReadsEach read → from_main contents read main ≡ outcome
    same_outcome read each = ap (λ r. from_main contents r main) (fun_ext (λ bytes. reads_as law read each bytes (read_of bytes) (reads_of bytes)))

    abbrev files_of : Outcome ℕ → List Loaded
    files_of (Ok pair) = pair.0.loaded
    files_of (Err fault) = []

    abbrev is_ok_of : Outcome ℕ → Bool
    is_ok_of (Ok pair) = true
    is_ok_of (Err fault) = false

    abbrev fault_of : ModelFault → Outcome ℕ → ModelFault
    fault_of other (Ok pair) = other
    fault_of other (Err fault) = fault

    one_of : (o : Outcome ℕ) → outcome ≡ o → HasSet contents main ⊎ HasFault contents main
    one_of (Ok pair) e =
        inl (record {
          files = pair.0.loaded;
          loads = record { read = read_of; reads = reads_of; met = pair.0; position = pair.1; ends = e; loaded = refl };
          one = λ others l. l.loaded ∙ ap files_of (sym l.ends ∙ same_outcome l.read l.reads ∙ e);
          no_fault = λ fault f. true≢false (ap is_ok_of (sym e ∙ sym (same_outcome f.read f.reads) ∙ f.ends));
        })
    one_of (Err fault) e =
        inr (record {
          fault = fault;
          first = record { read = read_of; reads = reads_of; ends = e };
          one = λ other f. ap (fault_of fault) (sym f.ends ∙ same_outcome f.read f.reads ∙ e);
          no_set = λ files l. false≢true (ap is_ok_of (sym e ∙ sym (same_outcome l.read l.reads) ∙ l.ends));
        })

  pub all_files : AllFilesLoadOrHaveAFault
  all_files contents main = one_of contents main (outcome contents main) refl
