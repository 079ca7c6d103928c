-- What the files of a set say, each behind those that it imports. This project's own.
use Rattle.std.specs.Prelude.{ℕ, ◌-◌, List, [], ◌∷◌, ◌++◌, Option, Some, None, length, slice_get}
use Rattle.uvl_ast.specs.Rules.{rules_of}
use Rattle.uvl_ast.specs.declared.feature.Feature.{Feature}
use Rattle.uvl_imports.specs.declared.file_set.Loaded.{Loaded}
use Rattle.uvl_semantics.specs.Constraint.{Constraint}
use Rattle.uvl_semantics.specs.Tree.{Tree, top_name}
use Rattle.uvl_placing.specs.Constraints.{constraints_of_rules, constraints_of_placings, placings_from}
use Rattle.uvl_placing.specs.Options.{of_both, known}
use Rattle.uvl_placing.specs.Trees.{Imports, tree_of_line}

-- what a file sees of a set whose files have these trees
abbrev pub imports_of : List (Option Tree) → Loaded → Imports
imports_of trees loaded = record { lines = loaded.file.imports; targets = loaded.targets; trees = trees }

-- the tree of a features section, where there is one
abbrev pub tree_of_root : Imports → Option Feature → Option Tree
tree_of_root imports None = None
tree_of_root imports (Some root) = tree_of_line imports root

-- the tree of a file of such a set
abbrev pub tree_of_file : List (Option Tree) → Loaded → Option Tree
tree_of_file trees loaded = tree_of_root (imports_of trees loaded) loaded.file.root

-- the trees of files, behind those of the files in front of them
abbrev pub trees_behind : List (Option Tree) → List Loaded → List (Option Tree)
trees_behind trees [] = trees
trees_behind trees (loaded ∷ files) = trees_behind (trees ++ tree_of_file trees loaded ∷ []) files

-- the tree of each file of a set
abbrev pub placed : List Loaded → List (Option Tree)
placed files = trees_behind [] files

-- the references of a file's placing lines, in document order
abbrev pub placings_of_root : Option Feature → List (List (List ℕ))
placings_of_root None = []
placings_of_root (Some root) = placings_from root

-- The constraints of a file with a tree: its own rules, and then what its placing lines add.
abbrev pub constraints_of_tree :
    List (Option Tree) → List (Option (List Constraint)) → Loaded → Option Tree → Option (List Constraint)
constraints_of_tree trees constraints loaded None = None
constraints_of_tree trees constraints loaded (Some tree) =
    of_both (λ own others. own ++ others) (constraints_of_rules (top_name tree) (rules_of loaded.file))
    (constraints_of_placings (imports_of trees loaded) constraints (placings_of_root loaded.file.root))

-- the constraints of a file of a set whose files have these trees and these constraints
abbrev pub constraints_of_file :
    List (Option Tree) → List (Option (List Constraint)) → Loaded → Option (List Constraint)
constraints_of_file trees constraints loaded =
    constraints_of_tree trees constraints loaded (tree_of_file trees loaded)

-- the constraints of files, behind those of the files in front of them
abbrev pub constraints_behind :
    List (Option Tree) → List (Option (List Constraint)) → List Loaded → List (Option (List Constraint))
constraints_behind trees constraints [] = constraints
constraints_behind trees constraints (loaded ∷ files) =
    constraints_behind (trees ++ tree_of_file trees loaded ∷ [])
    (constraints ++ constraints_of_file trees constraints loaded ∷ []) files

-- the constraints of each file of a set
abbrev pub said : List Loaded → List (Option (List Constraint))
said files = constraints_behind [] [] files

-- the main file is the last: its tree, and its constraints
abbrev pub main_tree : List Loaded → Option Tree
main_tree files = known (slice_get (placed files) (length files - 1))

abbrev pub main_constraints : List Loaded → Option (List Constraint)
main_constraints files = known (slice_get (said files) (length files - 1))
