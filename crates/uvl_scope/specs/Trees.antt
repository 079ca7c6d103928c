-- The scopes of files against their placed trees.
use Rattle.std.specs.Prelude.{◌≡◌, ◌≤◌, ℕ, List, Some, map, slice_get, length}
use Rattle.uvl_base.specs.Limits.{most_features, most_depth}
use Rattle.uvl_ast.specs.declared.feature.Attribute.{Attribute}
use Rattle.uvl_imports.specs.declared.file_set.Loaded.{Loaded}
use Rattle.uvl_imports.specs.Texts.{AreDistinct}
use Rattle.uvl_semantics.specs.Tree.{Tree, heads_of, names_of, depth_of}
use Rattle.uvl_placing.specs.Files.{placed}
use Rattle.uvl_scope.specs.declared.scope.Scope.{Scope}
use Rattle.uvl_scope.specs.Faults.{HasNoFault, scopes_of}
use Rattle.uvl_scope.specs.Limits.{most_rules, most_nodes}

-- what stands in the braces of each feature of a tree, in document order
abbrev pub attributes_in : Tree → List (List Attribute)
attributes_in tree = map (λ head. head.attributes) (heads_of tree)

-- the names in a scope, what stands beside them and its depth are those of a tree
pub record IsScopeOf (tree : Tree) (scope : Scope) : Type 0 where
  pub names : scope.names ≡ names_of tree
  pub attributes : scope.attributes ≡ attributes_in tree
  pub depth : scope.depth ≡ depth_of tree

-- there are no more names, levels, rules and nodes than a model may have, and no name stands twice
pub record IsWithinLimits (scope : Scope) : Type 0 where
  pub distinct : AreDistinct scope.names
  pub few : length scope.names ≤ most_features
  pub shallow : scope.depth ≤ most_depth
  pub few_rules : scope.rules ≤ most_rules
  pub few_nodes : scope.nodes ≤ most_nodes

-- a file has a placed tree, and its scope is one of it within the limits
pub record HasScope (files : List Loaded) (position : ℕ) (scope : Scope) : Type 0 where
  pub tree : Tree
  pub placed : slice_get (placed files) position ≡ Some (Some tree)
  pub of_tree : IsScopeOf tree scope
  pub within : IsWithinLimits scope

-- each file of a set has such a scope, and these are they
abbrev pub AreScopesOf : List Loaded → List Scope → Type 0
AreScopesOf files scopes =
    (position : ℕ) (scope : Scope) → slice_get scopes position ≡ Some scope → HasScope files position scope

-- where nothing is wrong with a set of files, the scopes of its files are of their placed trees
abbrev pub ScopesAreOfTrees : Type 0
ScopesAreOfTrees = (files : List Loaded) → HasNoFault files → AreScopesOf files (scopes_of files)
