-- The main file stands behind all others.
use Rattle.std.proofs.Common.{◌≡◌, ℕ, ◌-◌, List, [], ◌∷◌, ◌++◌, length, take, Some, refl, sym, ap, ◌∙◌, arith}
use Rattle.std.specs.Prelude.{slice_get}
use Rattle.std.specs.Option.{option_map}
use Rattle.std.proofs.lemmas.List.{length-append}
use Rattle.uvl_imports.specs.declared.file_set.Loaded.{Loaded}
use Rattle.uvl_placing.specs.Files.{main_tree, placed, tree_of_file}
use Rattle.uvl_placing.specs.Laws.{FilesAreReadInFront}
use Rattle.uvl_placing.specs.Options.{known}
use Rattle.uvl_resolve.specs.Under.{tree_under}
use Rattle.uvl_resolve.specs.steps.Walk.{said_by_file}
use Rattle.uvl_resolve.proofs.UnderTexts.{under_nothing}
use Rattle.uvl_semantics.specs.Tree.{Tree}

-- the last of a list
last_there : {A : Type 0} (front : List A) (x : A) → slice_get (front ++ x ∷ []) (length front) ≡ Some x
last_there [] x = refl
last_there (y ∷ front) x = last_there front x

-- what stands in front of it
front_there : {A : Type 0} (front rest : List A) → take (length front) (front ++ rest) ≡ front
front_there [] rest = refl
front_there (y ∷ front) rest = ap (λ xs. y ∷ xs) (front_there front rest)

-- the main file says the main tree
pub main_says : FilesAreReadInFront → (files front : List Loaded) (loaded : Loaded) (tree : Tree) → files ≡ front ++ loaded ∷ []
    → main_tree files ≡ Some tree → said_by_file front loaded [] ≡ Some tree
main_says law files front loaded tree split says =
    let all : List Loaded = front ++ loaded ∷ [] in
    let last : length all - 1 ≡ length front = omega (arith, length-append front (loaded ∷ [])) in
    let read = (law all (length front) loaded (last_there front loaded)).tree in
    let there : tree_of_file (placed front) loaded ≡ Some tree =
    ap (λ (fs : List Loaded). tree_of_file (placed fs) loaded) (sym (front_there front (loaded ∷ [])))
    ∙ sym (ap known read) ∙ ap (λ (n : ℕ). known (slice_get (placed all) n)) (sym last) ∙ ap main_tree (sym split) ∙ says in
    ap (option_map (tree_under [])) there ∙ ap Some (under_nothing tree)

-- no files have no main tree
pub none_says : {P : Type 0} (files : List Loaded) (tree : Tree) → length files ≡ 0 → main_tree files ≡ Some tree → P
none_says [] tree none says = cc
none_says (loaded ∷ files) tree none says = absurd (omega (arith, none))
