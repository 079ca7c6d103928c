-- A file that is begun, or that has a fault of its own.
use Rattle.std.proofs.Common.{◌≡◌, ℕ, Bool, true, false, ltb, List, [], length, MatchBool, Option, Some, None, Ok, Err, IfSome, sym, ap, ◌∙◌, subst, if◌then◌else◌}
use Rattle.uvl_outside.specs.Files.{Contents}
use Rattle.uvl_base.specs.declared.fault.FaultKind.{FaultKind}
use Rattle.uvl_base.specs.declared.fault.FaultKind.TheVariants.{TooLong}
use Rattle.uvl_base.specs.declared.place.Place.{Place}
use Rattle.uvl_ast.specs.declared.file.File.{File}
use Rattle.uvl_imports.specs.declared.fault.LoadFault.{LoadFault}
use Rattle.uvl_imports.specs.declared.fault.LoadFault.TheVariants.{Model, ReadFault, OutOfMemory}
use Rattle.uvl_imports.specs.declared.fault.ReadingFault.{ReadingFault}
use Rattle.uvl_imports.specs.declared.fault.ReadingFault.TheVariants as reading
use Rattle.uvl_imports.specs.Reading.{Reading, wrong, ReadsEach, first_place, fault_in}
use Rattle.uvl_imports.specs.Walking.{Met, ReadsFile, after, begun, bytes_left, ended, read_content, read_lines, read_text}
use Rattle.uvl_imports.specs.steps.Answers.{IsBegun, IsContentRead, IsFaultOf, IsFaultOfContent}

-- what is told of a content
abbrev pub IsTold : Option Contents → (Contents → (List ℕ → Reading) → Type 0) → Type 0
IsTold told P = IfSome told (λ contents. (read : List ℕ → Reading) → ReadsEach read → P contents read)

module _ (read : List ℕ → Reading) (path : List ℕ) (before : Met) where
  begins : (content : Option (List ℕ)) (file : File) (count : ℕ) (met : Met) → IsContentRead read (bytes_left before) content (Ok (file, count)) → met ≡ begun path count before → IsBegun read path before content met (Ok file)
  begins content file count met is e = λ deeper.
      ap (read_content read deeper path before) is.1
      ∙ ap (λ b. if b then Err (fault_in path first_place TooLong) else read_text deeper path (length is.0) before (read is.0)) is.2
      ∙ ap (read_text deeper path (length is.0) before) is.3
      ∙ ap (λ (n : ℕ). after (read_lines deeper path [] file.imports [] (begun path n before)) (ended before.way path file)) (sym is.4)
      ∙ ap (λ (m : Met). after (read_lines deeper path [] file.imports [] m) (ended before.way path file)) (sym e)

  same_fault : (p q : Place) (j k : FaultKind) → p ≡ q → j ≡ k → fault_in path p j ≡ fault_in path q k
  same_fault p q j k e f = ap (λ (x : Place). fault_in path x j) e ∙ ap (λ (x : FaultKind). fault_in path q x) f

  by_length : (deeper : Option ReadsFile) (bytes : List ℕ) (place : Place) (kind : FaultKind) (b : Bool) → MatchBool b ((place ≡ first_place) × (kind ≡ TooLong)) (read bytes ≡ wrong place kind)
      → (if b then Err (fault_in path first_place TooLong) else read_text deeper path (length bytes) before (read bytes)) ≡ Err (fault_in path place kind)
  by_length deeper bytes place kind true is = ap (λ f. Err f) (sym (same_fault _ _ _ _ is.0 is.1))
  by_length deeper bytes place kind false is = ap (read_text deeper path (length bytes) before) is

  own_fault : (deeper : Option ReadsFile) (place : Place) (kind : FaultKind) (content : Option (List ℕ)) → IsFaultOfContent read (bytes_left before) place kind content
      → read_content read deeper path before content ≡ Err (fault_in path place kind)
  own_fault deeper place kind None is = ap (λ f. Err f) (sym (same_fault _ _ _ _ is.0 is.1))
  own_fault deeper place kind (Some bytes) is = by_length deeper bytes place kind (ltb (bytes_left before) (length bytes)) is

  refuses : (content : Option (List ℕ)) (met : Met) (fault : ReadingFault) (result : LoadFault) → IsContentRead read (bytes_left before) content (Err fault) → IsFaultOf path fault result → IsBegun read path before content met (Err result)
  refuses content met (reading.At place kind) (Model fault) is of = λ deeper. own_fault deeper place kind content is ∙ ap (λ f. Err f) (sym of)
  refuses content met (reading.At place kind) ReadFault is of = absurd of
  refuses content met (reading.At place kind) OutOfMemory is of = tt
  refuses content met reading.Host (Model fault) is of = absurd of
  refuses content met reading.Host ReadFault is of = tt
  refuses content met reading.Host OutOfMemory is of = tt
  refuses content met reading.OutOfMemory (Model fault) is of = absurd of
  refuses content met reading.OutOfMemory ReadFault is of = tt
  refuses content met reading.OutOfMemory OutOfMemory is of = tt

-- of what is told
pub begins_told : (told : Option Contents) (path text : List ℕ) (before met : Met) (limit : ℕ) (file : File) (count : ℕ) → text ≡ path → limit ≡ bytes_left before
    → IsTold told (λ contents read. IsContentRead read limit (contents text) (Ok (file, count))) → met ≡ begun path count before
    → IsTold told (λ contents read. IsBegun read path before (contents path) met (Ok file))
begins_told None path text before met limit file count same left is e = tt
begins_told (Some contents) path text before met limit file count same left is e = λ read each.
    let P : List ℕ → Type 0 = λ t. IsContentRead read limit (contents t) (Ok (file, count)) in
    let Q : ℕ → Type 0 = λ n. IsContentRead read n (contents path) (Ok (file, count)) in
    begins read path before (contents path) file count met (subst Q left (subst P same (is read each))) e

pub refuses_told : (told : Option Contents) (path text : List ℕ) (before met : Met) (limit : ℕ) (fault : ReadingFault) (result : LoadFault) → text ≡ path → limit ≡ bytes_left before
    → IsTold told (λ contents read. IsContentRead read limit (contents text) (Err fault)) → IsFaultOf path fault result
    → IsTold told (λ contents read. IsBegun read path before (contents path) met (Err result))
refuses_told None path text before met limit fault result same left is of = tt
refuses_told (Some contents) path text before met limit fault result same left is of = λ read each.
    let P : List ℕ → Type 0 = λ t. IsContentRead read limit (contents t) (Err fault) in
    let Q : ℕ → Type 0 = λ n. IsContentRead read n (contents path) (Err fault) in
    refuses read path before (contents path) met fault result (subst Q left (subst P same (is read each))) of
