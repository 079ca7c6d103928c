-- Each file of a set is what the bytes at its path say, and the last is the main file.
use Rattle.std.proofs.Common.{◌≡◌, inl, inr, ◌+◌, ℕ, zero, suc, Bool, true, false, List, [], ◌∷◌, ◌++◌, slice_get, length, ltb, Option, Some, None, Ok, Err, refl, sym, ◌∙◌, subst, if◌then◌else◌}
use Rattle.std.specs.Prelude.{⊤}
use Rattle.std.proofs.lemmas.Option.{none-some}
use Rattle.uvl_outside.specs.Files.{Contents}
use Rattle.uvl_base.specs.declared.place.Place.{Place}
use Rattle.uvl_ast.specs.declared.file.File.{File}
use Rattle.uvl_ast.specs.declared.file.Import.{Import}
use Rattle.uvl_imports.specs.declared.file_set.Loaded.{Loaded}
use Rattle.uvl_imports.specs.Law.{AreSaid, IsSaid, EachSetIsSaid}
use Rattle.uvl_imports.specs.Limits.{most_files, most_import_depth}
use Rattle.uvl_imports.specs.Loading.{from_main}
use Rattle.uvl_imports.specs.Paths.{target_of, qualifier_of, has_bad_name}
use Rattle.uvl_imports.specs.Reading.{Reading, says, wrong, Reads, ReadsEach}
use Rattle.uvl_imports.specs.Texts.{has, place_of}
use Rattle.uvl_imports.specs.Walking.{Met, Outcome, ReadsFile, after, at_depth, begun, bytes_left, deeper, ended, find_or_read, loaded_file, nothing, paths_of, read_content, read_line, read_lines, read_text}
use Rattle.uvl_imports.proofs.Growing.{get-push}

module _ (contents : Contents) where
  -- what is met at the end of an outcome without fault is said
  abbrev IsGood : {A : Type 0} → Outcome A → Type 0
  IsGood (Ok pair) = AreSaid contents pair.0.loaded
  IsGood (Err fault) = ⊤

  abbrev KeepsGood : Option ReadsFile → Type 0
  KeepsGood None = ⊤
  KeepsGood (Some go) = (path : List ℕ) (met : Met) → AreSaid contents met.loaded → IsGood (go path met)

  after_good : {A B : Type 0} → (o : Outcome A) (next : Met → A → Outcome B) → IsGood o → ((met : Met) (a : A) → AreSaid contents met.loaded → IsGood (next met a)) → IsGood (after o next)
  after_good (Ok pair) next good keeps = keeps pair.0 pair.1 good
  after_good (Err fault) next good keeps = tt

  if_good : {A : Type 0} → (b : Bool) (x y : Outcome A) → IsGood x → IsGood y → IsGood (if b then x else y)
  if_good true x y good other = good
  if_good false x y good other = other

  found_good : (go : ReadsFile) (path : List ℕ) (place : Place) (target : List ℕ) (met : Met) (position : Option ℕ) → KeepsGood (Some go) → AreSaid contents met.loaded → IsGood (find_or_read go path place target met position)
  found_good go path place target met (Some position) keeps said = said
  found_good go path place target met None keeps said = if_good (ltb (length met.loaded + length met.way) most_files) (go target met) _ (keeps target met said) tt

  depth_good : (below : Option ReadsFile) (path : List ℕ) (place : Place) (target : List ℕ) (met : Met) → KeepsGood below → AreSaid contents met.loaded → IsGood (at_depth below path place target met)
  depth_good None path place target met keeps said = tt
  depth_good (Some go) path place target met keeps said = found_good go path place target met (place_of target (paths_of met.loaded)) keeps said

  line_good : (below : Option ReadsFile) (path : List ℕ) (earlier : List (List ℕ)) (line : Import) (met : Met) → KeepsGood below → AreSaid contents met.loaded → IsGood (read_line below path earlier line met)
  line_good below path earlier line met keeps said =
      if_good (has_bad_name earlier line) _ _ tt (if_good (has met.way (target_of path line)) _ _ tt (depth_good below path line.place (target_of path line) met keeps said))

  lines_good : (below : Option ReadsFile) (path : List ℕ) (earlier : List (List ℕ)) (lines : List Import) (targets : List ℕ) (met : Met) → KeepsGood below → AreSaid contents met.loaded
      → IsGood (read_lines below path earlier lines targets met)
  lines_good below path earlier [] targets met keeps said = said
  lines_good below path earlier (line ∷ lines) targets met keeps said =
      after_good (read_line below path earlier line met) (λ then_met target. read_lines below path (earlier ++ qualifier_of line ∷ []) lines (targets ++ target ∷ []) then_met)
      (line_good below path earlier line met keeps said)
      (λ then_met target then_said. lines_good below path (earlier ++ qualifier_of line ∷ []) lines (targets ++ target ∷ []) then_met keeps then_said)

  module _ (read : List ℕ → Reading) (each : ReadsEach read) where
    module _ (below : Option ReadsFile) (keeps : KeepsGood below) (path : List ℕ) (met : Met) (said : AreSaid contents met.loaded) where
      text_good : (bytes : List ℕ) (reading : Reading) → contents path ≡ Some bytes → Reads bytes reading → IsGood (read_text below path (length bytes) met reading)
      text_good bytes (wrong place kind) there is = tt
      text_good bytes (says file) there is =
          after_good (read_lines below path [] file.imports [] (begun path (length bytes) met)) (ended met.way path file)
          (lines_good below path [] file.imports [] (begun path (length bytes) met) keeps said)
          (λ then_met targets then_said n loaded at. elim (get-push then_met.loaded (loaded_file path file targets) loaded n at) [
            | inl old ↦ then_said n loaded old
            | inr last ↦ let P : Loaded → Type 0 = λ l. IsSaid contents l in subst P (sym last.1) (record { path = path; named = refl; bytes = bytes; there = there; says = is })
          ])

      content_good : (content : Option (List ℕ)) → contents path ≡ content → IsGood (read_content read below path met content)
      content_good None there = tt
      content_good (Some bytes) there = if_good (ltb (bytes_left met) (length bytes)) _ _ tt (text_good bytes (read bytes) there (each bytes))

    deeper_good : (depth : ℕ) → KeepsGood (deeper contents read depth)
    unfolding deeper
    deeper_good zero = tt
    deeper_good (suc depth) = λ path met said. content_good (deeper contents read depth) (deeper_good depth) path met said (contents path) refl

    main_good : (main : List ℕ) → IsGood (from_main contents read main)
    main_good main = content_good (deeper contents read most_import_depth) (deeper_good most_import_depth) main nothing (λ n loaded at. absurd (none_there n loaded at)) (contents main) refl
      where
        none_there : (n : ℕ) (loaded : Loaded) → slice_get [] n ≡ Some loaded → ⊥
        none_there n loaded at = none-some loaded at

  -- what is met at the end of an outcome without fault ends with the file at the path
  abbrev EndsWith : List ℕ → Outcome ℕ → Type 0
  EndsWith path (Ok pair) = (front : List Loaded) × (file : File) × (targets : List ℕ) × (pair.0.loaded ≡ front ++ loaded_file path file targets ∷ [])
  EndsWith path (Err fault) = ⊤

  after_end : {A : Type 0} → (path : List ℕ) (o : Outcome A) (next : Met → A → Outcome ℕ) → ((met : Met) (a : A) → EndsWith path (next met a)) → EndsWith path (after o next)
  after_end path (Ok pair) next ends = ends pair.0 pair.1
  after_end path (Err fault) next ends = tt

  if_end : (path : List ℕ) (b : Bool) (x y : Outcome ℕ) → EndsWith path x → EndsWith path y → EndsWith path (if b then x else y)
  if_end path true x y end other = end
  if_end path false x y end other = other

  text_end : (below : Option ReadsFile) (path : List ℕ) (count : ℕ) (met : Met) (reading : Reading) → EndsWith path (read_text below path count met reading)
  text_end below path count met (wrong place kind) = tt
  text_end below path count met (says file) =
      after_end path (read_lines below path [] file.imports [] (begun path count met)) (ended met.way path file) (λ then_met targets. (then_met.loaded, file, targets, refl))

  content_end : (read : List ℕ → Reading) (below : Option ReadsFile) (path : List ℕ) (met : Met) (content : Option (List ℕ)) → EndsWith path (read_content read below path met content)
  content_end read below path met None = tt
  content_end read below path met (Some bytes) = if_end path (ltb (bytes_left met) (length bytes)) _ _ tt (text_end below path (length bytes) met (read bytes))

pub each_set : EachSetIsSaid
each_set contents main files loads =
    let Good : Outcome ℕ → Type 0 = λ o. IsGood contents o in
    let Ends : Outcome ℕ → Type 0 = λ o. EndsWith contents main o in
    let P : List Loaded → Type 0 = λ l. AreSaid contents l in
    let end = subst Ends loads.ends (content_end contents loads.read (deeper contents loads.read most_import_depth) main nothing (contents main)) in
    record {
      said = subst P (sym loads.loaded) (subst Good loads.ends (main_good contents loads.read loads.reads main));
      front = end.0;
      file = end.1;
      targets = end.2;
      last = loads.loaded ∙ end.3;
    }
