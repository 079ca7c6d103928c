-- In the middle of the lines of a file, and at the end of a file.
use Rattle.std.proofs.Common.{◌≡◌, false, ℕ, zero, suc, ◌+◌, ◌-◌, ◌<◌, ◌≤◌, List, [], ◌∷◌, ◌++◌, All, length, get_or, drop, take, map, Option, Some, None, Result, Ok, Err, IfSome, refl, sym, ap, ◌∙◌, subst, arith, length-append}
use Rattle.std.proofs.lemmas.List.{drop_all, drop_more, take_all, take_more, map-append}
use Rattle.std.proofs.lemmas.List.Elements.{All-append}
use Rattle.uvl_outside.specs.Files.{Contents}
use Rattle.uvl_ast.specs.declared.file.File.{File}
use Rattle.uvl_ast.specs.declared.file.Import.{Import}
use Rattle.uvl_imports.specs.declared.fault.LoadFault.{LoadFault}
use Rattle.uvl_imports.specs.declared.fault.LoadFault.TheVariants.{Model, ReadFault, OutOfMemory}
use Rattle.uvl_imports.specs.declared.set_builder.SetBuilder.{SetBuilder}
use Rattle.uvl_imports.specs.Paths.{qualifier_of}
use Rattle.uvl_imports.specs.Reading.{Reading, ReadsEach}
use Rattle.uvl_imports.specs.Texts.{has, AreDistinct}
use Rattle.std.proofs.Math.Seq.{take-append_seam}
use Rattle.uvl_imports.specs.declared.file_set.Loaded.{Loaded}
use Rattle.uvl_imports.specs.Walking.{Outcome, after, ended, loaded_file, deeper, read_file, read_line, read_lines}
use Rattle.uvl_imports.specs.steps.Answers.{Answers, IsBegun}
use Rattle.uvl_imports.specs.steps.Growing.{IsSound, met_of}
use Rattle.uvl_imports.proofs.Distinct.{AreDistinct-push}

-- What is read of all lines is what is read of those that are left, with what those in front of them gave.
abbrev pub GoesOn : Option Contents → List ℕ → List Import → ℕ → SetBuilder → List Import → SetBuilder → List (List ℕ) → List ℕ → Type 0
GoesOn told path lines depth old left set qualifiers targets = IfSome told (λ contents. (read : List ℕ → Reading) → ReadsEach read →
    read_lines (deeper contents read depth) path [] lines [] (met_of old) ≡ read_lines (deeper contents read depth) path qualifiers left targets (met_of set))

pub record LinesSoFar (told : Option Contents) (path : List ℕ) (lines : List Import) (depth : ℕ) (old : SetBuilder) (index : ℕ) (set : SetBuilder) (qualifiers : List (List ℕ)) (targets : List ℕ) : Type 0 where
  pub sound : IsSound set
  pub goes : GoesOn told path lines depth old (drop index lines) set qualifiers targets
  pub each : length targets ≡ index
  pub in_front : All (λ target. target < length set.files) targets
  pub named : qualifiers ≡ map qualifier_of (take index lines)
  pub distinct : AreDistinct qualifiers
  pub grown : length old.files ≤ length set.files
  pub way : set.way ≡ old.way

abbrev pub ReadsLine : Option Contents → ℕ → List ℕ → List (List ℕ) → Import → SetBuilder → SetBuilder → Result ℕ LoadFault → Type 0
ReadsLine told depth path qualifiers line set next result = Answers told (λ contents read. read_line (deeper contents read depth) path qualifiers line (met_of set)) (met_of next) result

abbrev pub ReadsLines : Option Contents → ℕ → List ℕ → List Import → SetBuilder → SetBuilder → Result (List ℕ) LoadFault → Type 0
ReadsLines told depth path lines old set result = Answers told (λ contents read. read_lines (deeper contents read depth) path [] lines [] (met_of old)) (met_of set) result

-- one line more
pub goes_step : (told : Option Contents) (path : List ℕ) (lines : List Import) (depth : ℕ) (old : SetBuilder) (line : Import) (left : List Import) (set next : SetBuilder) (qualifiers : List (List ℕ)) (targets : List ℕ) (target : ℕ)
    → GoesOn told path lines depth old (line ∷ left) set qualifiers targets → ReadsLine told depth path qualifiers line set next (Ok target)
    → GoesOn told path lines depth old left next (qualifiers ++ qualifier_of line ∷ []) (targets ++ target ∷ [])
goes_step None path lines depth old line left set next qualifiers targets target goes is = tt
goes_step (Some contents) path lines depth old line left set next qualifiers targets target goes is = λ read each.
    goes read each ∙ ap (λ (o : Outcome ℕ). after o (λ met t. read_lines (deeper contents read depth) path (qualifiers ++ qualifier_of line ∷ []) left (targets ++ t ∷ []) met)) (is read each)

-- a line with a fault ends it
pub goes_stop : (told : Option Contents) (path : List ℕ) (lines : List Import) (depth : ℕ) (old : SetBuilder) (line : Import) (left : List Import) (set next : SetBuilder) (qualifiers : List (List ℕ)) (targets : List ℕ) (fault : LoadFault)
    → GoesOn told path lines depth old (line ∷ left) set qualifiers targets → ReadsLine told depth path qualifiers line set next (Err fault) → ReadsLines told depth path lines old next (Err fault)
goes_stop None path lines depth old line left set next qualifiers targets fault goes is = tt
goes_stop (Some contents) path lines depth old line left set next qualifiers targets (Model fault) goes is = λ read each.
    goes read each ∙ ap (λ (o : Outcome ℕ). after o (λ met t. read_lines (deeper contents read depth) path (qualifiers ++ qualifier_of line ∷ []) left (targets ++ t ∷ []) met)) (is read each)
goes_stop (Some contents) path lines depth old line left set next qualifiers targets ReadFault goes is = λ read each. tt
goes_stop (Some contents) path lines depth old line left set next qualifiers targets OutOfMemory goes is = λ read each. tt

-- no line is left
pub goes_end : (told : Option Contents) (path : List ℕ) (lines : List Import) (depth : ℕ) (old set : SetBuilder) (qualifiers : List (List ℕ)) (targets : List ℕ)
    → GoesOn told path lines depth old [] set qualifiers targets → ReadsLines told depth path lines old set (Ok targets)
goes_end None path lines depth old set qualifiers targets goes = tt
goes_end (Some contents) path lines depth old set qualifiers targets goes = goes

pub goes_start : (told : Option Contents) (path : List ℕ) (lines : List Import) (depth : ℕ) (old : SetBuilder) → GoesOn told path lines depth old lines old [] []
goes_start None path lines depth old = tt
goes_start (Some contents) path lines depth old = λ read each. refl

-- a file whose lines are read
abbrev pub Begins : Option Contents → List ℕ → SetBuilder → SetBuilder → Result File LoadFault → Type 0
Begins told path old set result = IfSome told (λ contents. (read : List ℕ → Reading) → ReadsEach read → IsBegun read path (met_of old) (contents path) (met_of set) result)

abbrev pub ReadsFileAt : Option Contents → ℕ → List ℕ → SetBuilder → SetBuilder → Result ℕ LoadFault → Type 0
ReadsFileAt told depth path old set result = Answers told (λ contents read. read_file contents read depth path (met_of old)) (met_of set) result

-- a file that is not begun
pub not_begun : (told : Option Contents) (depth : ℕ) (path : List ℕ) (old set : SetBuilder) (fault : LoadFault) → Begins told path old set (Err fault) → ReadsFileAt told depth path old set (Err fault)
not_begun None depth path old set fault is = tt
not_begun (Some contents) depth path old set (Model fault) is = λ read each. is read each (deeper contents read depth)
not_begun (Some contents) depth path old set ReadFault is = λ read each. tt
not_begun (Some contents) depth path old set OutOfMemory is = λ read each. tt

-- a file with a line that has a fault
pub not_ended : (told : Option Contents) (depth : ℕ) (path : List ℕ) (old begun set : SetBuilder) (file : File) (fault : LoadFault)
    → Begins told path old begun (Ok file) → ReadsLines told depth path file.imports begun set (Err fault) → ReadsFileAt told depth path old set (Err fault)
not_ended None depth path old begun set file fault is lines = tt
not_ended (Some contents) depth path old begun set file (Model fault) is lines = λ read each.
    is read each (deeper contents read depth) ∙ ap (λ (o : Outcome (List ℕ)). after o (ended old.way path file)) (lines read each)
not_ended (Some contents) depth path old begun set file ReadFault is lines = λ read each. tt
not_ended (Some contents) depth path old begun set file OutOfMemory is lines = λ read each. tt

-- a file that has ended
pub has_ended : (told : Option Contents) (depth : ℕ) (path : List ℕ) (old begun set new : SetBuilder) (file : File) (targets : List ℕ) (position : ℕ)
    → Begins told path old begun (Ok file) → ReadsLines told depth path file.imports begun set (Ok targets) → ended old.way path file (met_of set) targets ≡ Ok (met_of new, position)
    → ReadsFileAt told depth path old new (Ok position)
has_ended None depth path old begun set new file targets position is lines e = tt
has_ended (Some contents) depth path old begun set new file targets position is lines e = λ read each.
    is read each (deeper contents read depth) ∙ ap (λ (o : Outcome (List ℕ)). after o (ended old.way path file)) (lines read each) ∙ e

in_front_more : (targets : List ℕ) (m n : ℕ) → m ≤ n → All (λ target. target < m) targets → All (λ target. target < n) targets
in_front_more targets m n le all = λ k d inside. omega (arith, le, all k d inside)

all_none : (n : ℕ) → All (λ target. target < n) []
all_none n = λ k d inside. absurd (omega (arith, inside))

all_one : (target n : ℕ) → target < n → All (λ t. t < n) (target ∷ [])
all_one target n less = at
  where
    at : (k d : ℕ) → k < 1 → get_or (target ∷ []) k d < n
    at zero d inside = less
    at (suc k) d inside = absurd (omega (arith, inside))

next_line : (lines : List Import) (index : ℕ) (line : Import) → index < length lines → line ≡ get_or lines index line → drop index lines ≡ line ∷ drop (index + 1) lines
next_line lines index line h is = drop_more lines index line h ∙ ap (λ (x : Import). x ∷ drop (index + 1) lines) (sym is)

pub so_far_start : (told : Option Contents) (path : List ℕ) (lines : List Import) (depth : ℕ) (set : SetBuilder) (qualifiers : List (List ℕ)) (targets : List ℕ) → IsSound set → qualifiers ≡ [] → targets ≡ []
    → LinesSoFar told path lines depth set 0 set qualifiers targets
so_far_start told path lines depth set qualifiers targets sound e f =
    let P : List (List ℕ) → Type 0 = λ qs. LinesSoFar told path lines depth set 0 set qs targets in
    let Q : List ℕ → Type 0 = λ ts. LinesSoFar told path lines depth set 0 set [] ts in
    subst P (sym e) (subst Q (sym f) (record {
      sound = sound;
      goes = goes_start told path lines depth set;
      each = refl;
      in_front = all_none (length set.files);
      named = refl;
      distinct = tt;
      grown = omega arith;
      way = refl;
    }))

module _ (told : Option Contents) (path : List ℕ) (lines : List Import) (depth : ℕ) (old : SetBuilder) (index : ℕ) (set : SetBuilder) (qualifiers : List (List ℕ)) (targets : List ℕ) (far : LinesSoFar told path lines depth old index set qualifiers targets) where
  module _ (line : Import) (inside : index < length lines) (is : line ≡ get_or lines index line) (next : SetBuilder) where
    here : GoesOn told path lines depth old (line ∷ drop (index + 1) lines) set qualifiers targets
    here = let P : List Import → Type 0 = λ left. GoesOn told path lines depth old left set qualifiers targets in subst P (next_line lines index line inside is) far.goes

    pub so_far_stop : (fault : LoadFault) → ReadsLine told depth path qualifiers line set next (Err fault) → ReadsLines told depth path lines old next (Err fault)
    so_far_stop fault reads = goes_stop told path lines depth old line (drop (index + 1) lines) set next qualifiers targets fault here reads

    pub so_far_step : (target : ℕ) (new : List (List ℕ)) (more : List ℕ) → ReadsLine told depth path qualifiers line set next (Ok target) → IsSound next → has qualifiers (qualifier_of line) ≡ false
        → new ≡ qualifiers ++ qualifier_of line ∷ [] → length set.files ≤ length next.files → target < length next.files → next.way ≡ set.way → more ≡ targets ++ target ∷ []
        → LinesSoFar told path lines depth old (index + 1) next new more
    so_far_step target new more reads sound other e grown front way f =
        let P : List (List ℕ) → Type 0 = λ qs. LinesSoFar told path lines depth old (index + 1) next qs more in
        let Q : List ℕ → Type 0 = λ ts. LinesSoFar told path lines depth old (index + 1) next (qualifiers ++ qualifier_of line ∷ []) ts in
        let more_lines : take (index + 1) lines ≡ take index lines ++ line ∷ [] = take_more lines index line inside ∙ ap (λ (x : Import). take index lines ++ x ∷ []) (sym is) in
        subst P (sym e) (subst Q (sym f) (record {
          sound = sound;
          goes = goes_step told path lines depth old line (drop (index + 1) lines) set next qualifiers targets target here reads;
          each = length-append targets (target ∷ []) ∙ ap (λ n. n + 1) far.each;
          in_front = All-append (λ t. t < length next.files) targets (target ∷ []) (in_front_more targets (length set.files) (length next.files) grown far.in_front) (all_one target (length next.files) front);
          named = ap (λ qs. qs ++ qualifier_of line ∷ []) far.named ∙ sym (map-append qualifier_of (take index lines) (line ∷ [])) ∙ ap (map qualifier_of) (sym more_lines);
          distinct = AreDistinct-push qualifiers (qualifier_of line) far.distinct other;
          grown = omega (arith, grown, far.grown);
          way = way ∙ far.way;
        }))

  module _ (outside : length lines ≤ index) where
    pub so_far_end : ReadsLines told depth path lines old set (Ok targets)
    so_far_end =
        let P : List Import → Type 0 = λ left. GoesOn told path lines depth old left set qualifiers targets in
        goes_end told path lines depth old set qualifiers targets (subst P (drop_all index lines outside) far.goes)

    pub so_far_distinct : AreDistinct (map qualifier_of lines)
    so_far_distinct = subst AreDistinct (far.named ∙ ap (map qualifier_of) (take_all index lines outside)) far.distinct

-- the same lines of the same file
pub lines_as : (told told-here : Option Contents) (depth : ℕ) (path text : List ℕ) (lines ls : List Import) (old set : SetBuilder) (result : Result (List ℕ) LoadFault)
    → told-here ≡ told → text ≡ path → ls ≡ lines → ReadsLines told-here depth text ls old set result → ReadsLines told depth path lines old set result
lines_as told told-here depth path text lines ls old set result e f g reads =
    let P : Option Contents → Type 0 = λ t. ReadsLines t depth path lines old set result in
    let Q : List ℕ → Type 0 = λ p. ReadsLines told-here depth p lines old set result in
    let R : List Import → Type 0 = λ l. ReadsLines told-here depth text l old set result in
    subst P e (subst Q f (subst R g reads))

pub line_as : (told told-here : Option Contents) (depth : ℕ) (path : List ℕ) (qualifiers : List (List ℕ)) (line : Import) (set next : SetBuilder) (result : Result ℕ LoadFault)
    → told-here ≡ told → ReadsLine told-here depth path qualifiers line set next result → ReadsLine told depth path qualifiers line set next result
line_as told told-here depth path qualifiers line set next result e reads =
    let P : Option Contents → Type 0 = λ t. ReadsLine t depth path qualifiers line set next result in subst P e reads

-- what is met when a file has ended
last_off : {A : Type 0} → (xs : List A) (x : A) → take (length (xs ++ x ∷ []) - 1) (xs ++ x ∷ []) ≡ xs
last_off {A} xs x =
    let count : length (xs ++ x ∷ []) - 1 ≡ length xs = omega (arith, length-append xs (x ∷ [])) in
    ap (λ n. take n (xs ++ x ∷ [])) count ∙ take-append_seam xs (x ∷ [])

pub same_way : (xs ys : List (List ℕ)) (x : List ℕ) → xs ++ x ∷ [] ≡ ys ++ x ∷ [] → xs ≡ ys
same_way xs ys x e = sym (last_off xs x) ∙ ap (λ (zs : List (List ℕ)). take (length zs - 1) zs) e ∙ last_off ys x

pub ended_as : (way : List (List ℕ)) (path : List ℕ) (file : File) (targets : List ℕ) (set new : SetBuilder) (position : ℕ)
    → new.files ≡ set.files ++ loaded_file path file targets ∷ [] → new.way ≡ way → new.bytes ≡ set.bytes → position ≡ length set.files
    → ended way path file (met_of set) targets ≡ Ok (met_of new, position)
ended_as way path file targets set new position e f g h =
    let M : List Loaded → List (List ℕ) → ℕ → ℕ → Outcome ℕ = λ l w b p. Ok (record { loaded = l; way = w; bytes = b }, p) in
    ap (λ l. M l way set.bytes (length set.files)) (sym e) ∙ ap (λ w. M new.files w set.bytes (length set.files)) (sym f) ∙ ap (λ b. M new.files new.way b (length set.files)) (sym g)
    ∙ ap (λ p. M new.files new.way new.bytes p) (sym h)
