-- What a fetched file says of the content at its path.
use Rattle.std.proofs.Common.{◌≡◌, ℕ, ◌<◌, ◌≤◌, Bool, true, false, ltb, List, length, Option, Some, None, Result, Ok, Err, MatchBool, IfOk, IfErr, IfSome, IsSomeAnd, refl, sym, subst, arith}
use Rattle.std.proofs.lemmas.Bool.Decides.{nat_tests}
use Rattle.uvl_outside.specs.Files.{Contents, IsWhole, IsAbsent, IsTooLong}
use Rattle.uvl_base.specs.declared.fault.FaultKind.TheVariants.{Absent, TooLong}
use Rattle.uvl_ast.specs.declared.file.File.{File}
use Rattle.uvl_imports.specs.declared.fault.ReadingFault.{ReadingFault}
use Rattle.uvl_imports.specs.declared.fault.ReadingFault.TheVariants.{At, Host, OutOfMemory}
use Rattle.uvl_imports.specs.Law.{AllBytesAreReadOnce}
use Rattle.uvl_imports.specs.Reading.{Reading, says, wrong, ReadsEach, IsFileOf, first_place}
use Rattle.uvl_imports.specs.steps.Answers.{IsContentRead, IsFaultOfContent, IsFaultIn}
use Rattle.uvl_imports.proofs.ReadOnce.{reads_as}

pub within : (limit n : ℕ) → n ≤ limit → ltb limit n ≡ false
within limit n le = grind (arith, nat_tests)

pub beyond : (limit n : ℕ) → limit < n → ltb limit n ≡ true
beyond limit n lt = grind (arith, nat_tests)

-- what is said of a content where it is told
abbrev IsToldRead : Option Contents → List ℕ → ℕ → Result (File × ℕ) ReadingFault → Type 0
IsToldRead told path limit result = IfSome told (λ contents. (read : List ℕ → Reading) → ReadsEach read → IsContentRead read limit (contents path) result)

module _ (law : AllBytesAreReadOnce) (limit : ℕ) (into : List ℕ) (small : length into ≤ limit) (read : List ℕ → Reading) (each : ReadsEach read) where
  whole : (result : Result (File × ℕ) ReadingFault) → IfOk result (λ pair. IsFileOf into pair.0) → IfOk result (λ pair. pair.1 ≡ length into) → IfErr result (IsFaultIn into)
      → IsContentRead read limit (Some into) result
  whole (Ok pair) file size fault = (into, refl, within limit (length into) small, reads_as law read each into (says pair.0) file, size)
  whole (Err (At place kind)) file size fault =
      let P : Bool → Type 0 = λ b. MatchBool b ((place ≡ first_place) × (kind ≡ TooLong)) (read into ≡ wrong place kind) in
      subst P (sym (within limit (length into) small)) (reads_as law read each into (wrong place kind) fault)
  whole (Err Host) file size fault = tt
  whole (Err OutOfMemory) file size fault = tt

pub content_of_whole : AllBytesAreReadOnce → (told : Option Contents) (path : List ℕ) (limit : ℕ) (into : List ℕ) → IsWhole told path limit into
    → (result : Result (File × ℕ) ReadingFault) → IfOk result (λ pair. IsFileOf into pair.0) → IfOk result (λ pair. pair.1 ≡ length into) → IfErr result (IsFaultIn into)
    → IsToldRead told path limit result
content_of_whole law None path limit into is result file size fault = tt
content_of_whole law (Some contents) path limit into is result file size fault = λ read each.
    let P : Option (List ℕ) → Type 0 = λ content. IsContentRead read limit content result in
    subst P (sym is.exact) (whole law limit into is.within read each result file size fault)

pub content_of_absent : (told : Option Contents) (path : List ℕ) (limit : ℕ) (into : List ℕ) → IsAbsent told path into → IsToldRead told path limit (Err (At first_place Absent))
content_of_absent None path limit into is = tt
content_of_absent (Some contents) path limit into is = λ read each.
    let P : Option (List ℕ) → Type 0 = λ content. IsFaultOfContent read limit first_place Absent content in
    subst P (sym is.exact) (refl, refl)

too_long : (limit : ℕ) (read : List ℕ → Reading) (content : Option (List ℕ)) → IsSomeAnd content (λ bytes. limit < length bytes) → IsFaultOfContent read limit first_place TooLong content
too_long limit read None is = absurd is
too_long limit read (Some bytes) is =
    let P : Bool → Type 0 = λ b. MatchBool b ((first_place ≡ first_place) × (TooLong ≡ TooLong)) (read bytes ≡ wrong first_place TooLong) in
    subst P (sym (beyond limit (length bytes) is)) (refl, refl)

pub content_of_too_long : (told : Option Contents) (path : List ℕ) (limit : ℕ) (into : List ℕ) → IsTooLong told path limit into → IsToldRead told path limit (Err (At first_place TooLong))
content_of_too_long None path limit into is = tt
content_of_too_long (Some contents) path limit into is = λ read each. too_long limit read (contents path) is.exact

-- nothing is said of a failure
pub content_of_failure : (told : Option Contents) (path : List ℕ) (limit : ℕ) → IsToldRead told path limit (Err Host)
content_of_failure None path limit = tt
content_of_failure (Some contents) path limit = λ read each. tt

pub content_of_want : (told : Option Contents) (path : List ℕ) (limit : ℕ) → IsToldRead told path limit (Err OutOfMemory)
content_of_want None path limit = tt
content_of_want (Some contents) path limit = λ read each. tt
