-- A set of files stays sound while it grows.
use Rattle.std.proofs.Common.{◌≡◌, ◌⊎◌, inl, inr, ℕ, zero, suc, ◌+◌, ◌-◌, ◌<◌, ◌≤◌, take, Bool, true, false, List, [], ◌∷◌, ◌++◌, length, slice_get, Some, refl, sym, ap, ◌∙◌, subst, arith, length-append, not, if◌then◌else◌}
use Rattle.std.specs.Str.{IsUtf8}
use Rattle.std.proofs.lemmas.Str.{encodes-chars}
use Rattle.std.proofs.lemmas.List.{map-append}
use Rattle.std.proofs.Math.Seq.{take-append_seam}
use Rattle.std.proofs.lemmas.Option.{none-some, same_Some}
use Rattle.uvl_ast.specs.declared.file.File.{File}
use Rattle.uvl_imports.specs.declared.file_set.Loaded.{Loaded}
use Rattle.uvl_imports.specs.declared.set_builder.SetBuilder.{SetBuilder}
use Rattle.uvl_imports.specs.Limits.{most_files}
use Rattle.uvl_imports.specs.Sets.{IsWholeFile}
use Rattle.uvl_imports.specs.Texts.{has, AreDistinct}
use Rattle.uvl_imports.specs.Walking.{paths_of, path_of, loaded_file, bytes_left}
use Rattle.uvl_imports.specs.steps.Growing.{IsSound, met_of}
use Rattle.uvl_imports.proofs.Distinct.{has-last, has-front, has-push, has-neither, other_text, equal, AreDistinct-push, AreDistinct-front, AreDistinct-last}
use Rattle.std.proofs.lemmas.Bool.{or_cases}
use Rattle.std.specs.Str.{bytes_eq}

-- a file is begun whose path is neither among those that are being loaded nor among those that are loaded
pub begun_sound : (set : SetBuilder) (path : List ℕ) (way : List (List ℕ)) (count bytes : ℕ) → IsSound set → length set.files + length set.way < most_files → count ≤ bytes_left (met_of set)
    → has set.way path ≡ false → has (paths_of set.files) path ≡ false → way ≡ set.way ++ path ∷ [] → bytes ≡ set.bytes + count
    → IsSound (record { index = set.index; files = set.files; way = way; bytes = bytes })
begun_sound set path way count bytes sound room light apart new is sum = record {
  indexed = sound.indexed;
  few = omega (arith, room, ap length is, length-append set.way (path ∷ []));
  light = omega (arith, light, sum, sound.light);
  apart = λ q there. elim (or_cases (has set.way q) (bytes_eq q path) (sym (has-push set.way path q) ∙ sym (ap (λ w. has w q) is) ∙ there)) [
    | inl old ↦ sound.apart q old
    | inr same ↦ ap (has (paths_of set.files)) (equal q path same) ∙ new
  ];
  way_distinct = subst AreDistinct (sym is) (AreDistinct-push set.way path sound.way_distinct apart);
  files_distinct = sound.files_distinct;
  whole = sound.whole;
}

-- what is at each place of a list with one more item
pub get-push : {A : Type 0} → (xs : List A) (x y : A) (n : ℕ) → slice_get (xs ++ x ∷ []) n ≡ Some y → (slice_get xs n ≡ Some y) ⊎ ((n ≡ length xs) × (y ≡ x))
get-push [] x y zero e = inr (refl, sym (same_Some x y e))
get-push [] x y (suc n) e = absurd (none-some y e)
get-push (z ∷ zs) x y zero e = inl e
get-push (z ∷ zs) x y (suc n) e = elim (get-push zs x y n e) [ inl there ↦ inl there | inr here ↦ inr (ap suc here.0, here.1) ]

pub paths-push : (files : List Loaded) (path : List ℕ) (file : File) (targets : List ℕ) → IsUtf8 path → paths_of (files ++ loaded_file path file targets ∷ []) ≡ paths_of files ++ path ∷ []
paths-push files path file targets utf8 = map-append path_of files (loaded_file path file targets ∷ []) ∙ ap (λ p. paths_of files ++ p ∷ []) (encodes-chars path utf8)

-- the file that was begun last has ended
module _ (set : SetBuilder) (path : List ℕ) (utf8 : IsUtf8 path) (file : File) (targets : List ℕ) (way : List (List ℕ)) (sound : IsSound set) (inner : set.way ≡ way ++ path ∷ []) where
  abbrev pub ended_files : List Loaded
  ended_files = set.files ++ loaded_file path file targets ∷ []

  both : AreDistinct (way ++ path ∷ [])
  both = subst AreDistinct inner sound.way_distinct

  pub not_loaded : has (paths_of set.files) path ≡ false
  not_loaded = sound.apart path (ap (λ w. has w path) inner ∙ has-last way path)

  paths_after : paths_of ended_files ≡ paths_of set.files ++ path ∷ []
  paths_after = paths-push set.files path file targets utf8

  pub ended_sound : (index : List (List ℕ)) (new : Bool) → new ≡ not (has set.index path) → index ≡ (if new then set.index ++ path ∷ [] else set.index) → IsWholeFile (length set.files) (loaded_file path file targets)
      → IsSound (record { index = index; files = ended_files; way = way; bytes = set.bytes })
  ended_sound index new known added whole = record {
    indexed =
        let is_new : new ≡ true = known ∙ ap not (ap (λ i. has i path) sound.indexed ∙ not_loaded) in
        added ∙ ap (λ b. if b then set.index ++ path ∷ [] else set.index) is_new ∙ ap (λ i. i ++ path ∷ []) sound.indexed ∙ sym paths_after;
    few = omega (arith, sound.few, ap length inner, length-append way (path ∷ []), length-append set.files (loaded_file path file targets ∷ []));
    light = sound.light;
    apart = λ q there.
        ap (λ ps. has ps q) paths_after
        ∙ has-neither (paths_of set.files) path q (sound.apart q (ap (λ w. has w q) inner ∙ has-front way path q there)) (other_text way path q (AreDistinct-last way path both) there);
    way_distinct = AreDistinct-front way path both;
    files_distinct = subst AreDistinct (sym paths_after) (AreDistinct-push (paths_of set.files) path sound.files_distinct not_loaded);
    whole = λ n loaded there. elim (get-push set.files (loaded_file path file targets) loaded n there) [
      | inl old ↦ sound.whole n loaded old
      | inr last ↦ subst (λ (m : ℕ). IsWholeFile m loaded) (sym last.0) (subst (λ (l : Loaded). IsWholeFile (length set.files) l) (sym last.1) whole)
    ];
  }

-- what is left of the way when the last path is taken away
pub way_left : (way outer new : List (List ℕ)) (path : List ℕ) → way ≡ outer ++ path ∷ [] → new ≡ take (length way - 1) way → way ≡ new ++ path ∷ []
way_left way outer new path e f =
    let count : length (outer ++ path ∷ []) - 1 ≡ length outer = omega (arith, length-append outer (path ∷ [])) in
    let left : new ≡ outer = f ∙ ap (λ (w : List (List ℕ)). take (length w - 1) w) e ∙ ap (λ n. take n (outer ++ path ∷ [])) count ∙ take-append_seam outer (path ∷ []) in
    e ∙ ap (λ w. w ++ path ∷ []) (sym left)
