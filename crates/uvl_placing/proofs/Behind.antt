-- The files of a set, each behind those in front of it.
use Rattle.std.proofs.Common.{◌≡◌, ℕ, zero, suc, ◌+◌, ◌<◌, ◌≤◌, List, [], ◌∷◌, ◌++◌, take, length, Option, Some, refl, sym, ap, ◌∙◌, subst, arith}
use Rattle.std.specs.Prelude.{slice_get}
use Rattle.std.specs.List.{All}
use Rattle.std.proofs.lemmas.List.{append_assoc, append-nil, length-append}
use Rattle.std.proofs.lemmas.Option.{slice_get_within}
use Rattle.uvl_imports.specs.declared.file_set.Loaded.{Loaded}
use Rattle.uvl_imports.specs.Sets.{IsWhole}
use Rattle.uvl_semantics.specs.Constraint.{Constraint}
use Rattle.uvl_semantics.specs.Tree.{Tree}
use Rattle.uvl_placing.specs.Files.{tree_of_file, trees_behind, placed, constraints_of_file, constraints_behind, said}
use Rattle.uvl_placing.specs.Laws.{IsReadInFront, IsReadAmong}
use Rattle.uvl_placing.proofs.InFront.{get_front, get_next, tree_same, constraints_same}

abbrev Trees : Type 0
Trees = List (Option Tree)

abbrev Rules : Type 0
Rules = List (Option (List Constraint))

-- what is made of files stands behind what is known
pub trees_after : (trees : Trees) (files : List Loaded) → (more : Trees) × (trees_behind trees files ≡ trees ++ more)
trees_after trees [] = ([], sym (append-nil trees))
trees_after trees (loaded ∷ files) =
    let rest = trees_after (trees ++ tree_of_file trees loaded ∷ []) files in
    (tree_of_file trees loaded ∷ rest.0, rest.1 ∙ append_assoc trees (tree_of_file trees loaded ∷ []) rest.0)

pub rules_after : (trees : Trees) (rules : Rules) (files : List Loaded) → (more : Rules) × (constraints_behind trees rules files ≡ rules ++ more)
rules_after trees rules [] = ([], sym (append-nil rules))
rules_after trees rules (loaded ∷ files) =
    let made = constraints_of_file trees rules loaded in
    let rest = rules_after (trees ++ tree_of_file trees loaded ∷ []) (rules ++ made ∷ []) files in
    (made ∷ rest.0, rest.1 ∙ append_assoc rules (made ∷ []) rest.0)

-- as many as there are files
trees_count : (trees : Trees) (files : List Loaded) → length (trees_behind trees files) ≡ length trees + length files
trees_count trees [] = omega arith
trees_count trees (loaded ∷ files) =
    trees_count (trees ++ tree_of_file trees loaded ∷ []) files ∙ omega (arith, length-append trees (tree_of_file trees loaded ∷ []))

rules_count : (trees : Trees) (rules : Rules) (files : List Loaded) → length (constraints_behind trees rules files) ≡ length rules + length files
rules_count trees rules [] = omega arith
rules_count trees rules (loaded ∷ files) =
    let made = constraints_of_file trees rules loaded in
    rules_count (trees ++ tree_of_file trees loaded ∷ []) (rules ++ made ∷ []) files ∙ omega (arith, length-append rules (made ∷ []))

-- the tree of a file is made with those in front
tree_made : (trees : Trees) (files : List Loaded) (position : ℕ) (loaded : Loaded) → slice_get files position ≡ Some loaded
    → slice_get (trees_behind trees files) (length trees + position) ≡ Some (tree_of_file (trees_behind trees (take position files)) loaded)
tree_made trees [] position loaded is = cc
tree_made trees (first ∷ files) zero loaded is =
    let same : first ≡ loaded = cc in
    let rest = trees_after (trees ++ tree_of_file trees first ∷ []) files in
    let here = rest.1 ∙ append_assoc trees (tree_of_file trees first ∷ []) rest.0 in
    ap (slice_get (trees_behind trees (first ∷ files))) (omega arith)
    ∙ ap (λ (xs : Trees). slice_get xs (length trees)) here ∙ get_next trees (tree_of_file trees first) rest.0
    ∙ ap (λ (l : Loaded). Some (tree_of_file trees l)) same
tree_made trees (first ∷ files) (suc position) loaded is =
    let count = length-append trees (tree_of_file trees first ∷ []) in
    ap (slice_get (trees_behind trees (first ∷ files))) (omega (arith, count))
    ∙ tree_made (trees ++ tree_of_file trees first ∷ []) files position loaded is

-- and so are its constraints
rules_made : (trees : Trees) (rules : Rules) (files : List Loaded) (position : ℕ) (loaded : Loaded) → slice_get files position ≡ Some loaded
    → slice_get (constraints_behind trees rules files) (length rules + position)
    ≡ Some (constraints_of_file (trees_behind trees (take position files)) (constraints_behind trees rules (take position files)) loaded)
rules_made trees rules [] position loaded is = cc
rules_made trees rules (first ∷ files) zero loaded is =
    let same : first ≡ loaded = cc in
    let made = constraints_of_file trees rules first in
    let rest = rules_after (trees ++ tree_of_file trees first ∷ []) (rules ++ made ∷ []) files in
    let here = rest.1 ∙ append_assoc rules (made ∷ []) rest.0 in
    ap (slice_get (constraints_behind trees rules (first ∷ files))) (omega arith)
    ∙ ap (λ (xs : Rules). slice_get xs (length rules)) here ∙ get_next rules made rest.0
    ∙ ap (λ (l : Loaded). Some (constraints_of_file trees rules l)) same
rules_made trees rules (first ∷ files) (suc position) loaded is =
    let made = constraints_of_file trees rules first in
    let count = length-append rules (made ∷ []) in
    ap (slice_get (constraints_behind trees rules (first ∷ files))) (omega (arith, count))
    ∙ rules_made (trees ++ tree_of_file trees first ∷ []) (rules ++ made ∷ []) files position loaded is

pub files_are_read_in_front : (files : List Loaded) (position : ℕ) (loaded : Loaded) → slice_get files position ≡ Some loaded
    → IsReadInFront files position loaded
files_are_read_in_front files position loaded is = record {
  tree = ap (slice_get (placed files)) (omega arith) ∙ tree_made [] files position loaded is;
  constraints = ap (slice_get (said files)) (omega arith) ∙ rules_made [] [] files position loaded is;
}

-- files, and those behind them
trees_split : (trees : Trees) (files : List Loaded) (n : ℕ) → (more : Trees) × (trees_behind trees files ≡ trees_behind trees (take n files) ++ more)
trees_split trees files zero = trees_after trees files
trees_split trees [] (suc n) = ([], sym (append-nil trees))
trees_split trees (first ∷ files) (suc n) = trees_split (trees ++ tree_of_file trees first ∷ []) files n

rules_split : (trees : Trees) (rules : Rules) (files : List Loaded) (n : ℕ)
    → (more : Rules) × (constraints_behind trees rules files ≡ constraints_behind trees rules (take n files) ++ more)
rules_split trees rules files zero = rules_after trees rules files
rules_split trees rules [] (suc n) = ([], sym (append-nil rules))
rules_split trees rules (first ∷ files) (suc n) =
    rules_split (trees ++ tree_of_file trees first ∷ []) (rules ++ constraints_of_file trees rules first ∷ []) files n

-- how many files stand in front
count_front : (files : List Loaded) (n : ℕ) → n ≤ length files → length (take n files) ≡ n
count_front files zero le = refl
count_front [] (suc n) le = absurd (omega (arith, le))
count_front (first ∷ files) (suc n) le = ap suc (count_front files n (omega (arith, le)))

pub files_are_read_among_all : (files : List Loaded) (position : ℕ) (loaded : Loaded) → IsWhole files → slice_get files position ≡ Some loaded
    → IsReadAmong files position loaded
files_are_read_among_all files position loaded whole is =
    let front = take position files in
    let count : length front ≡ position = count_front files position (omega (arith, slice_get_within files position loaded is)) in
    let targets = (whole.each position loaded is).in_front in
    let in_trees : All (λ target. target < length (placed front)) loaded.targets =
    subst (λ (n : ℕ). All (λ target. target < n) loaded.targets) (sym (trees_count [] front ∙ omega (arith, count))) targets in
    let in_rules : All (λ target. target < length (said front)) loaded.targets =
    subst (λ (n : ℕ). All (λ target. target < n) loaded.targets) (sym (rules_count [] [] front ∙ omega (arith, count))) targets in
    let trees = trees_split [] files position in
    let rules = rules_split [] [] files position in
    let read = files_are_read_in_front files position loaded is in
    record {
      tree = read.tree ∙ ap Some (tree_same (placed front) trees.0 loaded in_trees ∙ ap (λ (t : Trees). tree_of_file t loaded) (sym trees.1));
      constraints = read.constraints
          ∙ ap Some (constraints_same (placed front) trees.0 (said front) rules.0 loaded in_trees in_rules
          ∙ ap (λ (t : Trees). constraints_of_file t (said front ++ rules.0) loaded) (sym trees.1)
          ∙ ap (λ (r : Rules). constraints_of_file (placed files) r loaded) (sym rules.1));
    }
