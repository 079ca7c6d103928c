-- A file looks at the files in front of it alone.
use Rattle.std.proofs.Common.{◌≡◌, ℕ, zero, suc, ◌+◌, ◌<◌, ◌≤◌, List, [], ◌∷◌, ◌++◌, length, map, Option, Some, None, Bool, true, false, cond, refl, sym, ap, ◌∙◌, subst, arith}
use Rattle.std.specs.Prelude.{slice_get}
use Rattle.std.specs.List.{All}
use Rattle.std.specs.Option.{option_map, option_and_then}
use Rattle.std.specs.Str.{bytes_eq}
use Rattle.std.proofs.lemmas.List.{append_assoc}
use Rattle.std.proofs.lemmas.List.Elements.{All-head, All-tail}
use Rattle.uvl_ast.specs.Rules.{rules_of}
use Rattle.uvl_ast.specs.declared.feature.Attribute.{Attribute}
use Rattle.uvl_ast.specs.declared.feature.Feature.{Feature}
use Rattle.uvl_ast.specs.declared.feature.Feature.TheFolds.{fold-Feature}
use Rattle.uvl_ast.specs.declared.file.Import.{Import}
use Rattle.uvl_imports.specs.declared.file_set.Loaded.{Loaded}
use Rattle.uvl_semantics.specs.Constraint.{Constraint}
use Rattle.uvl_semantics.specs.Prefix.{prefixed, prefixed_constraint}
use Rattle.uvl_semantics.specs.Tree.{Tree, Groups, top_name}
use Rattle.uvl_placing.specs.Constraints.{constraints_placed, constraints_of_rules}
use Rattle.uvl_placing.specs.Files.{imports_of, tree_of_root, tree_of_file, trees_behind, placings_of_root, constraints_of_tree, constraints_of_file, constraints_behind}
use Rattle.uvl_placing.specs.Names.{dotted, front_of, last_of, qualifier_of, target_called}
use Rattle.uvl_placing.specs.Options.{known, joined, of_both}
use Rattle.uvl_placing.specs.Trees.{Imports, tree_called, with_root, tree_placed, tree_of_names, tree_of_feature, branch_of_group, groups_of}

-- the front of a list is there whatever stands behind it
pub get_front : {A : Type 0} (xs ys : List A) (k : ℕ) → k < length xs → slice_get (xs ++ ys) k ≡ slice_get xs k
get_front [] ys k lt = absurd (omega (arith, lt))
get_front (x ∷ xs) ys zero lt = refl
get_front (x ∷ xs) ys (suc k) lt = get_front xs ys k (omega (arith, lt))

-- the first behind a list
pub get_next : {A : Type 0} (xs : List A) (y : A) (ys : List A) → slice_get (xs ++ y ∷ ys) (length xs) ≡ Some y
get_next [] y ys = refl
get_next (x ∷ xs) y ys = get_next xs y ys

-- what is found at a target that is in front doesn't depend on what stands behind
looked_up : {A : Type 0} (lines : List Import) (targets : List ℕ) (front behind : List (Option A)) (qualifier : List ℕ)
    → All (λ target. target < length front) targets
    → option_and_then (λ position. known (slice_get front position)) (target_called qualifier lines targets)
    ≡ option_and_then (λ position. known (slice_get (front ++ behind) position)) (target_called qualifier lines targets)
looked_up [] targets front behind qualifier all = refl
looked_up (line ∷ lines) [] front behind qualifier all = refl
looked_up {A} (line ∷ lines) (target ∷ targets) front behind qualifier all =
    by (bytes_eq qualifier (qualifier_of line))
    (looked_up lines targets front behind qualifier (All-tail (λ (t : ℕ). t < length front) target targets all))
  where
    find : List (Option A) → Option ℕ → Option A
    find trees found = option_and_then (λ position. known (slice_get trees position)) found

    here : target < length front
    here = All-head (λ (t : ℕ). t < length front) target targets all

    by : (b : Bool)
        → option_and_then (λ position. known (slice_get front position)) (target_called qualifier lines targets)
        ≡ option_and_then (λ position. known (slice_get (front ++ behind) position)) (target_called qualifier lines targets)
        → option_and_then (λ position. known (slice_get front position)) (cond b (Some target) (target_called qualifier lines targets))
        ≡ option_and_then (λ position. known (slice_get (front ++ behind) position)) (cond b (Some target) (target_called qualifier lines targets))
    by true rest = ap known (sym (get_front front behind target here))
    by false rest = rest

-- what a file sees where more is known
abbrev more_known : Imports → List (Option Tree) → Imports
more_known imports behind = record { lines = imports.lines; targets = imports.targets; trees = imports.trees ++ behind }

-- what names say is the same then
names_same : (imports : Imports) (behind : List (Option Tree)) → All (λ target. target < length imports.trees) imports.targets
    → (names : List (List ℕ)) (attributes : List Attribute) (below : Option Groups)
    → tree_of_names imports names attributes below ≡ tree_of_names (more_known imports behind) names attributes below
names_same imports behind all [] attributes below = refl
names_same imports behind all (name ∷ []) attributes below = refl
names_same imports behind all (name ∷ next ∷ names) attributes below =
    ap
    (λ (found : Option Tree). option_map (prefixed (dotted (front_of (name ∷ next ∷ names)))) (option_and_then (with_root (last_of (name ∷ next ∷ names))) found))
    (looked_up imports.lines imports.targets imports.trees behind (dotted (front_of (name ∷ next ∷ names))) all)

-- and what a root says
root_same : (imports : Imports) (behind : List (Option Tree)) → All (λ target. target < length imports.trees) imports.targets
    → (root : Option Feature) → tree_of_root imports root ≡ tree_of_root (more_known imports behind) root
root_same imports behind all None = refl
root_same imports behind all (Some root) =
    let step : tree_of_feature imports ≡ tree_of_feature (more_known imports behind) =
    λ i. λ line. names_same imports behind all line.name.parts line.attributes (groups_of line.groups) i in
    ap (λ say. fold-Feature _ _ say branch_of_group root) step

-- the tree of a file is the same where more trees are known
pub tree_same : (trees behind : List (Option Tree)) (loaded : Loaded) → All (λ target. target < length trees) loaded.targets
    → tree_of_file trees loaded ≡ tree_of_file (trees ++ behind) loaded
tree_same trees behind loaded all = root_same (imports_of trees loaded) behind all loaded.file.root

-- and so are its constraints where more is known
pub constraints_same : (trees more_trees : List (Option Tree)) (front behind : List (Option (List Constraint))) (loaded : Loaded)
    → All (λ target. target < length trees) loaded.targets → All (λ target. target < length front) loaded.targets
    → constraints_of_file trees front loaded ≡ constraints_of_file (trees ++ more_trees) (front ++ behind) loaded
constraints_same trees more_trees front behind loaded in_trees all =
    with_tree (tree_of_file trees loaded) ∙ ap (λ (tree : Option Tree). constraints_of_tree (trees ++ more_trees) (front ++ behind) loaded tree) (tree_same trees more_trees loaded in_trees)
  where
    placing : constraints_placed (imports_of trees loaded) front ≡ constraints_placed (imports_of trees loaded) (front ++ behind)
    placing = λ i. λ names. option_map (map (prefixed_constraint (dotted (front_of names)))) (looked_up loaded.file.imports loaded.targets front behind (dotted (front_of names)) all i)

    with_tree : (tree : Option Tree) → constraints_of_tree trees front loaded tree ≡ constraints_of_tree trees (front ++ behind) loaded tree
    with_tree None = refl
    with_tree (Some tree) = ap (λ add. constraints_of_tree_with add) placing
      where
        constraints_of_tree_with : (List (List ℕ) → Option (List Constraint)) → Option (List Constraint)
        constraints_of_tree_with add = of_both (λ own others. own ++ others) (constraints_of_rules (top_name tree) (rules_of loaded.file)) (joined (map add (placings_of_root loaded.file.root)))
