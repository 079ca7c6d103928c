-- What is answered of the main file is what the whole set is.
use Rattle.std.proofs.Common.{◌≡◌, ℕ, List, Option, Some, None, Result, Ok, Err, sym, ap, ◌∙◌}
use Rattle.uvl_outside.specs.Files.{Contents}
use Rattle.uvl_imports.specs.declared.fault.LoadFault.{LoadFault}
use Rattle.uvl_imports.specs.declared.fault.LoadFault.TheVariants.{Model, ReadFault, OutOfMemory}
use Rattle.uvl_imports.specs.declared.file_set.Loaded.{Loaded}
use Rattle.uvl_imports.specs.declared.set_builder.SetBuilder.{SetBuilder}
use Rattle.uvl_imports.specs.Law.{AllBytesAreReadOnce}
use Rattle.uvl_imports.specs.Limits.{most_import_depth}
use Rattle.uvl_imports.specs.Loading.{Loads, LoadsAs, IsCauseOf, from_main}
use Rattle.uvl_imports.specs.Walking.{Met, nothing, read_file}
use Rattle.uvl_imports.specs.steps.Answers.{Answers}
use Rattle.uvl_imports.specs.steps.Growing.{met_of}
use Rattle.uvl_imports.proofs.AllFiles.{read_of, reads_of}

module _ (law : AllBytesAreReadOnce) (contents : Contents) (main text : List ℕ) (same : text ≡ main) (before : Met) (none : before ≡ nothing) where
  start : read_file contents (read_of law) most_import_depth text before ≡ from_main contents (read_of law) main
  start = ap (λ (t : List ℕ). read_file contents (read_of law) most_import_depth t before) same ∙ ap (λ (m : Met). read_file contents (read_of law) most_import_depth main m) none

  loads : (set : SetBuilder) (position : ℕ) (files : List Loaded) → read_file contents (read_of law) most_import_depth text before ≡ Ok (met_of set, position) → files ≡ set.files → Loads contents main files
  loads set position files e is = record { read = read_of law; reads = reads_of law; met = met_of set; position = position; ends = sym start ∙ e; loaded = is }

abbrev pub FromMain : Option Contents → List ℕ → SetBuilder → SetBuilder → Result ℕ LoadFault → Type 0
FromMain told text before set result = Answers told (λ contents read. read_file contents read most_import_depth text (met_of before)) (met_of set) result

pub loads_told : AllBytesAreReadOnce → (told : Option Contents) (main text : List ℕ) (before set : SetBuilder) (position : ℕ) (files : List Loaded) → text ≡ main → met_of before ≡ nothing
    → FromMain told text before set (Ok position) → files ≡ set.files → LoadsAs told main files
loads_told law None main text before set position files same none is e = tt
loads_told law (Some contents) main text before set position files same none is e = loads law contents main text same (met_of before) none set position files (is (read_of law) (reads_of law)) e

pub fault_told : AllBytesAreReadOnce → (told : Option Contents) (main text : List ℕ) (before set : SetBuilder) (fault : LoadFault) → text ≡ main → met_of before ≡ nothing
    → FromMain told text before set (Err fault) → IsCauseOf told main fault
fault_told law None main text before set (Model fault) same none is = tt
fault_told law (Some contents) main text before set (Model fault) same none is =
    record { read = read_of law; reads = reads_of law; ends = sym (start law contents main text same (met_of before) none) ∙ is (read_of law) (reads_of law) }
fault_told law told main text before set ReadFault same none is = tt
fault_told law told main text before set OutOfMemory same none is = tt
