-- What is at the places of lists, and the targets of lines, in a set that grows.
use Rattle.std.proofs.Common.{◌≡◌, ◌⊎◌, inl, inr, ℕ, zero, suc, ◌+◌, ◌<◌, ◌≤◌, All, Bool, true, false, ltb, List, [], ◌∷◌, ◌++◌, length, get_or, map, cond, position, Option, Some, None, slice_get, refl, sym, ap, ◌∙◌, subst, arith}
use Rattle.std.specs.List.{list_any, position_or_len}
use Rattle.std.specs.Str.{IsUtf8, bytes_eq}
use Rattle.std.proofs.lemmas.Bool.{false_from_ne_true, true≢false}
use Rattle.std.proofs.lemmas.Bool.Decides.{nat_tests}
use Rattle.std.proofs.lemmas.List.{length-map, map-append}
use Rattle.std.proofs.lemmas.List.Folds.{Any-from_list_any}
use Rattle.std.proofs.lemmas.List.Quantifiers.{position-Some}
use Rattle.std.proofs.lemmas.List.Sums.{fails_before_first}
use Rattle.std.proofs.lemmas.Option.{none-some}
use Rattle.uvl_ast.specs.declared.file.File.{File}
use Rattle.uvl_ast.specs.declared.file.Import.{Import}
use Rattle.uvl_imports.specs.declared.file_set.Loaded.{Loaded}
use Rattle.uvl_imports.specs.ImportSets.{path_at, AreTargets, IsImported}
use Rattle.uvl_imports.specs.Paths.{target_of}
use Rattle.uvl_imports.specs.Texts.{has, place_of}
use Rattle.uvl_imports.specs.Walking.{path_of, paths_of, loaded_file}
use Rattle.uvl_imports.proofs.Distinct.{equal}
use Rattle.uvl_imports.proofs.Growing.{paths-push}

-- numbers
pub less : (a b : ℕ) → ltb a b ≡ true → a < b
less a b e = grind (arith, nat_tests)

pub at_most : (a b : ℕ) → ltb a b ≡ false → b ≤ a
at_most a b e = grind (arith, nat_tests)

pub below_or_from : (n m : ℕ) → (n < m) ⊎ (m ≤ n)
below_or_from n m = by (ltb n m) refl
  where
    by : (b : Bool) → ltb n m ≡ b → (n < m) ⊎ (m ≤ n)
    by true e = inl (less n m e)
    by false e = inr (at_most n m e)

-- places
pub get-front : {A : Type 0} → (xs ys : List A) (y : A) (n : ℕ) → slice_get xs n ≡ Some y → slice_get (xs ++ ys) n ≡ Some y
get-front [] ys y n e = absurd (none-some y e)
get-front (x ∷ xs) ys y zero e = e
get-front (x ∷ xs) ys y (suc n) e = get-front xs ys y n e

pub get-last : {A : Type 0} → (xs : List A) (x : A) → slice_get (xs ++ x ∷ []) (length xs) ≡ Some x
get-last [] x = refl
get-last (y ∷ xs) x = get-last xs x

get-inside : {A : Type 0} → (xs : List A) (y : A) (n : ℕ) → slice_get xs n ≡ Some y → n < length xs
get-inside [] y n e = absurd (none-some y e)
get-inside (x ∷ xs) y zero e = omega arith
get-inside (x ∷ xs) y (suc n) e = let l = get-inside xs y n e in omega (arith, l)

get-get_or : {A : Type 0} → (xs : List A) (n : ℕ) (d : A) → n < length xs → slice_get xs n ≡ Some (get_or xs n d)
get-get_or [] n d l = absurd (omega (arith, l))
get-get_or (x ∷ xs) zero d l = refl
get-get_or (x ∷ xs) (suc n) d l = get-get_or xs n d (omega (arith, l))

-- a text is found at its place, or is not there
pub place-there : (texts : List (List ℕ)) (text : List ℕ) (n : ℕ) → place_of text texts ≡ Some n → slice_get texts n ≡ Some text
place-there texts text n e =
    let at = position-Some (bytes_eq text) texts n text e in
    get-get_or texts n text at.0 ∙ ap (λ (t : List ℕ). Some t) (sym (equal text (get_or texts n text) at.1))

past_all : (m n : ℕ) (b : Bool) → ltb m n ≡ b → cond b (Some m) None ≡ None → n ≤ m
past_all m n true e none = absurd (none-some m (sym none))
past_all m n false e none = at_most m n e

pub place-none : (texts : List (List ℕ)) (text : List ℕ) → place_of text texts ≡ None → has texts text ≡ false
place-none texts text e = false_from_ne_true _ (λ there.
    let at = Any-from_list_any (bytes_eq text) texts there in
    let past = past_all (position_or_len (bytes_eq text) texts) (length texts) (ltb (position_or_len (bytes_eq text) texts) (length texts)) refl e in
    let fails = fails_before_first (bytes_eq text) texts at.0 at.1 (omega (arith, past, at.2)) in
    true≢false (sym at.4 ∙ ap (bytes_eq text) (sym at.3) ∙ fails))

-- paths
pub path-front : (files more : List Loaded) (path : List ℕ) (n : ℕ) → path_at files n ≡ Some path → path_at (files ++ more) n ≡ Some path
path-front files more path n e = ap (λ (ps : List (List ℕ)). slice_get ps n) (map-append path_of files more) ∙ get-front (paths_of files) (paths_of more) path n e

pub path-last : (files : List Loaded) (path : List ℕ) (file : File) (targets : List ℕ) → IsUtf8 path → path_at (files ++ loaded_file path file targets ∷ []) (length files) ≡ Some path
path-last files path file targets utf8 =
    ap (λ (ps : List (List ℕ)). slice_get ps (length files)) (paths-push files path file targets utf8)
    ∙ ap (λ n. slice_get (paths_of files ++ path ∷ []) n) (sym (length-map files path_of))
    ∙ get-last (paths_of files) path

pub path-inside : (files : List Loaded) (path : List ℕ) (n : ℕ) → path_at files n ≡ Some path → n < length files
path-inside files path n e = let l = get-inside (paths_of files) path n e in omega (arith, l, length-map files path_of)

-- targets
pub targets-front : (files more : List Loaded) (path : List ℕ) (lines : List Import) (targets : List ℕ) → AreTargets files path lines targets → AreTargets (files ++ more) path lines targets
targets-front files more path [] [] are = tt
targets-front files more path [] (t ∷ ts) are = absurd are
targets-front files more path (l ∷ ls) [] are = absurd are
targets-front files more path (l ∷ ls) (t ∷ ts) are = (path-front files more (target_of path l) t are.0, targets-front files more path ls ts are.1)

pub targets-push : (files : List Loaded) (path : List ℕ) (lines : List Import) (targets : List ℕ) (line : Import) (target : ℕ) → AreTargets files path lines targets
    → path_at files target ≡ Some (target_of path line) → AreTargets files path (lines ++ line ∷ []) (targets ++ target ∷ [])
targets-push files path [] [] line target are at = (at, tt)
targets-push files path [] (t ∷ ts) line target are at = absurd are
targets-push files path (l ∷ ls) [] line target are at = absurd are
targets-push files path (l ∷ ls) (t ∷ ts) line target are at = (are.0, targets-push files path ls ts line target are.1 at)

pub targets-count : (files : List Loaded) (path : List ℕ) (lines : List Import) (targets : List ℕ) → AreTargets files path lines targets → length targets ≡ length lines
targets-count files path [] [] are = refl
targets-count files path [] (t ∷ ts) are = absurd are
targets-count files path (l ∷ ls) [] are = absurd are
targets-count files path (l ∷ ls) (t ∷ ts) are = ap suc (targets-count files path ls ts are.1)

all_cons : (t : ℕ) (ts : List ℕ) (n : ℕ) → t < n → All (λ u. u < n) ts → All (λ u. u < n) (t ∷ ts)
all_cons t ts n head all = at
  where
    at : (k d : ℕ) → k < length (t ∷ ts) → get_or (t ∷ ts) k d < n
    at zero d inside = head
    at (suc k) d inside = all k d (omega (arith, inside))

pub targets-inside : (files : List Loaded) (path : List ℕ) (lines : List Import) (targets : List ℕ) → AreTargets files path lines targets → All (λ t. t < length files) targets
targets-inside files path [] [] are = λ k d inside. absurd (omega (arith, inside))
targets-inside files path [] (t ∷ ts) are = absurd are
targets-inside files path (l ∷ ls) [] are = absurd are
targets-inside files path (l ∷ ls) (t ∷ ts) are = all_cons t ts (length files) (path-inside files (target_of path l) t are.0) (targets-inside files path ls ts are.1)

pub imported-front : (files more : List Loaded) (n : ℕ) → IsImported files n → IsImported (files ++ more) n
imported-front files more n is = record {
  importer = is.importer;
  behind = is.behind;
  loaded = is.loaded;
  at = get-front files more is.loaded is.importer is.at;
  line = is.line;
  imports = is.imports;
}
