-- The feature tree that a line of a file says, with the imported trees in their places (UVL; the placing of imports is
-- this project's own).
use Rattle.std.specs.Prelude.{ℕ, List, [], ◌∷◌, Option, Some, None, length, slice_get, if◌then◌else◌}
use Rattle.std.specs.Option.{option_map, option_and_then}
use Rattle.std.specs.Str.{bytes_eq}
use Rattle.uvl_ast.specs.declared.feature.Attribute.{Attribute}
use Rattle.uvl_ast.specs.declared.feature.Feature.{Feature}
use Rattle.uvl_ast.specs.declared.feature.Feature.TheOpen.{Feature-F, Group-F}
use Rattle.uvl_ast.specs.declared.feature.Feature.TheFolds.{fold-Feature, fold-Group}
use Rattle.uvl_ast.specs.declared.feature.Group.{Group}
use Rattle.uvl_ast.specs.declared.feature.GroupKind.{GroupKind}
use Rattle.uvl_ast.specs.declared.file.Import.{Import}
use Rattle.uvl_semantics.specs.Prefix.{prefixed}
use Rattle.uvl_semantics.specs.Tree.{Tree, Groups, Members, feature, no_groups, group, no_members, member, top_name}
use Rattle.uvl_placing.specs.Bounds.{least_of, most_of}
use Rattle.uvl_placing.specs.Names.{dotted, front_of, last_of, target_called}
use Rattle.uvl_placing.specs.Options.{of_both, known}

-- What a file sees of its set: its import lines, for each the position of the file that it names, and the trees of files.
pub record Imports : Type 0 where
  pub lines : List Import
  pub targets : List ℕ
  pub trees : List (Option Tree)

-- the tree of the file that is called so
abbrev pub tree_called : Imports → List ℕ → Option Tree
tree_called imports qualifier =
    option_and_then (λ position. known (slice_get imports.trees position))
    (target_called qualifier imports.lines imports.targets)

-- a tree, where this is the name of its root
abbrev pub with_root : List ℕ → Tree → Option Tree
with_root name tree = if bytes_eq (top_name tree) name then Some tree else None

-- What a reference of two names or more places: the tree of the file that all but the last call, under this qualifier,
-- where the last is the name of its root.
abbrev pub tree_placed : Imports → List (List ℕ) → Option Tree
tree_placed imports names =
    option_map (prefixed (dotted (front_of names)))
    (option_and_then (with_root (last_of names)) (tree_called imports (dotted (front_of names))))

-- a line with one name declares a feature with attributes and groups, and one with more places a tree
abbrev pub tree_of_names : Imports → List (List ℕ) → List Attribute → Option Groups → Option Tree
tree_of_names imports [] attributes below = None
tree_of_names imports (name ∷ []) attributes below =
    option_map (λ groups. feature (record { name = name; attributes = attributes }) groups) below
tree_of_names imports (name ∷ next ∷ names) attributes below = tree_placed imports (name ∷ next ∷ names)

-- a group with its bounds and its members, without those behind it
pub record Branch : Type 0 where
  pub lo : ℕ
  pub hi : ℕ
  pub members : Members

-- the members of a group, where each is a tree
abbrev pub members_of : List (Option Tree) → Option Members
members_of [] = Some no_members
members_of (tree ∷ trees) = of_both (λ first others. member first others) tree (members_of trees)

-- the groups of a feature, where each has its members
abbrev pub groups_of : List (Option Branch) → Option Groups
groups_of [] = Some no_groups
groups_of (branch ∷ branches) =
    of_both (λ first others. group first.lo first.hi first.members others) branch (groups_of branches)

-- a group of a kind with these members
abbrev pub branch_of : GroupKind → ℕ → Members → Branch
branch_of kind count members = record { lo = least_of kind count; hi = most_of kind count; members = members }

-- what a line says, where a tree stands for each line below it
abbrev pub tree_of_feature : Imports → Feature-F (Option Tree) (Option Branch) → Option Tree
tree_of_feature imports line = tree_of_names imports line.name.parts line.attributes (groups_of line.groups)

-- what a group says
abbrev pub branch_of_group : Group-F (Option Tree) (Option Branch) → Option Branch
branch_of_group written = option_map (branch_of written.kind (length written.members)) (members_of written.members)

-- The tree of a line with all below it. There is none where a placing line names no import, or not its root.
abbrev pub tree_of_line : Imports → Feature → Option Tree
tree_of_line imports = fold-Feature (Option Tree) (Option Branch) (tree_of_feature imports) branch_of_group

-- a group with all below it
abbrev pub branch_of_written : Imports → Group → Option Branch
branch_of_written imports = fold-Group (Option Tree) (Option Branch) (tree_of_feature imports) branch_of_group
