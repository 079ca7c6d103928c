-- What is read of one import line, case by case, and of lines one after the other.
use Rattle.std.proofs.Common.{◌≡◌, ℕ, zero, suc, ◌+◌, ◌-◌, ◌<◌, Bool, true, false, List, length, ltb, Option, Some, None, Result, Ok, Err, refl, sym, ap, ◌∙◌, subst, arith, not, if◌then◌else◌}
use Rattle.uvl_outside.specs.Files.{Contents}
use Rattle.uvl_base.specs.declared.fault.FaultKind.{FaultKind}
use Rattle.uvl_base.specs.declared.fault.FaultKind.TheVariants.{ImportCycle, TooManyFiles, BadImportName}
use Rattle.uvl_base.specs.declared.place.Place.{Place}
use Rattle.uvl_ast.specs.declared.file.Import.{Import}
use Rattle.uvl_imports.specs.declared.fault.LoadFault.{LoadFault}
use Rattle.uvl_imports.specs.declared.fault.LoadFault.TheVariants.{Model, ReadFault, OutOfMemory}
use Rattle.uvl_imports.specs.Limits.{most_files}
use Rattle.uvl_imports.specs.Paths.{target_of, has_bad_name}
use Rattle.uvl_imports.specs.Reading.{Reading, fault_in}
use Rattle.uvl_imports.specs.Texts.{has, place_of}
use Rattle.uvl_imports.specs.Walking.{Met, Outcome, ReadsFile, deeper, read_file, find_or_read, at_depth, read_line, paths_of}
use Rattle.uvl_imports.specs.steps.Answers.{Answers, IsAnswer, IsRefusal}

-- the fault at which reading ends is what is answered
refused : {A : Type 0} → (outcome : Outcome A) (met : Met) (path : List ℕ) (place : Place) (kind : FaultKind) (fault : LoadFault) → outcome ≡ Err (fault_in path place kind)
    → IsRefusal path place kind fault → IsAnswer outcome met (Err fault)
refused outcome met path place kind (Model fault) e is = e ∙ ap (λ f. Err f) (sym is)
refused outcome met path place kind ReadFault e is = absurd is
refused outcome met path place kind OutOfMemory e is = tt

pub refused_told : {A : Type 0} → (told : Option Contents) (outcome : Contents → (List ℕ → Reading) → Outcome A) (met : Met) (path : List ℕ) (place : Place) (kind : FaultKind) (fault : LoadFault)
    → ((contents : Contents) (read : List ℕ → Reading) → outcome contents read ≡ Err (fault_in path place kind)) → IsRefusal path place kind fault → Answers told outcome met (Err fault)
refused_told None outcome met path place kind fault e is = tt
refused_told (Some contents) outcome met path place kind fault e is = λ read each. refused (outcome contents read) met path place kind fault (e contents read) is

-- a value is what is answered
pub found_told : {A : Type 0} → (told : Option Contents) (outcome : Contents → (List ℕ → Reading) → Outcome A) (met : Met) (value : A)
    → ((contents : Contents) (read : List ℕ → Reading) → outcome contents read ≡ Ok (met, value)) → Answers told outcome met (Ok value)
found_told None outcome met value e = tt
found_told (Some contents) outcome met value e = λ read each. e contents read

-- nothing is said of want of memory
pub wanting : {A : Type 0} → (told : Option Contents) (outcome : Contents → (List ℕ → Reading) → Outcome A) (met : Met) → Answers told outcome met (Err OutOfMemory)
wanting None outcome met = tt
wanting (Some contents) outcome met = λ read each. tt

-- what is answered for an outcome is answered for the same outcome
pub same_told : {A : Type 0} → (told : Option Contents) (outcome other : Contents → (List ℕ → Reading) → Outcome A) (met : Met) (result : Result A LoadFault)
    → ((contents : Contents) (read : List ℕ → Reading) → outcome contents read ≡ other contents read) → Answers told outcome met result → Answers told other met result
same_told None outcome other met result e is = tt
same_told (Some contents) outcome other met result e is = λ read each. subst (λ o. IsAnswer o met result) (e contents read) (is read each)

-- below a depth that is left, a file is read one deeper
pub deeper_below : (contents : Contents) (read : List ℕ → Reading) (depth : ℕ) → 0 < depth → deeper contents read depth ≡ Some (read_file contents read (depth - 1))
unfolding deeper
deeper_below contents read zero some = absurd (omega (arith, some))
deeper_below contents read (suc depth) some = let e : suc depth - 1 ≡ depth = omega arith in ap (λ d. Some (read_file contents read d)) (sym e)

pub deeper_none : (contents : Contents) (read : List ℕ → Reading) → deeper contents read 0 ≡ None
unfolding deeper
deeper_none contents read = refl

module _ (below : Option ReadsFile) (path : List ℕ) (earlier : List (List ℕ)) (line : Import) (met : Met) where
  pub line_bad : has_bad_name earlier line ≡ true → read_line below path earlier line met ≡ Err (fault_in path line.place BadImportName)
  line_bad e = rw e refl

  pub line_cycle : has_bad_name earlier line ≡ false → has met.way (target_of path line) ≡ true → read_line below path earlier line met ≡ Err (fault_in path line.place ImportCycle)
  line_cycle e f = rw (e, f) refl

  pub line_goes : has_bad_name earlier line ≡ false → has met.way (target_of path line) ≡ false → read_line below path earlier line met ≡ at_depth below path line.place (target_of path line) met
  line_goes e f = rw (e, f) refl

-- a loaded file, one too many, and one that is read
module _ (go : ReadsFile) (path : List ℕ) (place : Place) (target : List ℕ) (met : Met) where
  pub target_known : (position : ℕ) → place_of target (paths_of met.loaded) ≡ Some position → at_depth (Some go) path place target met ≡ Ok (met, position)
  target_known position e = ap (find_or_read go path place target met) e

  pub target_full : place_of target (paths_of met.loaded) ≡ None → ltb (length met.loaded + length met.way) most_files ≡ false → at_depth (Some go) path place target met ≡ Err (fault_in path place TooManyFiles)
  target_full e f = ap (find_or_read go path place target met) e ∙ ap (λ b. if b then go target met else Err (fault_in path place TooManyFiles)) f

  pub target_new : place_of target (paths_of met.loaded) ≡ None → ltb (length met.loaded + length met.way) most_files ≡ true → at_depth (Some go) path place target met ≡ go target met
  target_new e f = ap (find_or_read go path place target met) e ∙ ap (λ b. if b then go target met else Err (fault_in path place TooManyFiles)) f

pub not_true : (b : Bool) → not b ≡ true → b ≡ false
not_true true e = sym e
not_true false e = refl

pub not_false : (b : Bool) → not b ≡ false → b ≡ true
not_false true e = refl
not_false false e = sym e
