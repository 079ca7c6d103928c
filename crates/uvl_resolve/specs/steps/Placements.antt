-- What the placing lines of the files of a set are found to place, and what is known of the files before their rules are
-- made.
use Rattle.std.specs.Prelude.{◌≡◌, ℕ, List, [], ◌++◌, map, length, Option, Some, None, position, slice_get}
use Rattle.std.specs.List.{All}
use Rattle.std.specs.Str.{bytes_eq}
use Rattle.uvl_ast.specs.Rules.{rules_of}
use Rattle.uvl_imports.specs.Texts.{AreDistinct}
use Rattle.uvl_imports.specs.declared.file_set.Loaded.{Loaded}
use Rattle.uvl_placing.specs.Files.{placed}
use Rattle.uvl_placing.specs.Names.{dotted, front_of, target_called}
use Rattle.uvl_placing.specs.Options.{of_both}
use Rattle.uvl_resolve.specs.declared.placements.Placement.{Placement}
use Rattle.uvl_resolve.specs.steps.Rules.{IsPlain, heads_in}
use Rattle.uvl_scope.specs.declared.scope.Scope.{Scope}
use Rattle.uvl_semantics.specs.Tree.{Tree, Head, heads_of}

-- a placing line by the file that it places, and by the number of the feature that the root of that file is
abbrev pub placement : ℕ → ℕ → Placement
placement target number = record { target = target; number = number }

-- what a reference of a file places, where these are the names of the file's placed tree
abbrev pub placement_of : Loaded → List (List ℕ) → List (List ℕ) → Option Placement
placement_of loaded names reference =
    of_both placement (target_called (dotted (front_of reference)) loaded.file.imports loaded.targets)
    (position (bytes_eq (dotted reference)) names)

-- a reference places something
abbrev pub IsPlaced : Loaded → List (List ℕ) → List (List ℕ) → Type 0
IsPlaced loaded names reference = (found : Placement) × (placement_of loaded names reference ≡ Some found)

-- placements stand behind the others, one for each of the references
pub record AddsPlacements (loaded : Loaded) (names : List (List ℕ)) (old new : List Placement)
    (references : List (List (List ℕ))) : Type 0 where
  pub added : List Placement
  pub behind : new ≡ old ++ added
  pub are : map (placement_of loaded names) references ≡ map (λ found. Some found) added

-- A file of a set without fault: it has a placed tree, whose features are those of the scope and have distinct names,
-- and each of its rules is one over them.
pub record IsReady (files : List Loaded) (at : ℕ) (loaded : Loaded) (scope : Scope) : Type 0 where
  pub tree : Tree
  pub placed : slice_get (placed files) at ≡ Some (Some tree)
  pub heads : heads_in scope ≡ heads_of tree
  pub distinct : AreDistinct scope.names
  pub plain : All (IsPlain (heads_in scope)) (rules_of loaded.file)

-- each file of a set is such a file, with the names of its scope
pub record AreReady (files : List Loaded) (scopes : List Scope) : Type 0 where
  pub count : length scopes ≡ length files
  pub each : (at : ℕ) (loaded : Loaded) (scope : Scope) → slice_get files at ≡ Some loaded
      → slice_get scopes at ≡ Some scope → IsReady files at loaded scope

-- the features of a scope, and none where there is no scope
abbrev pub heads_there : Option Scope → List Head
heads_there None = []
heads_there (Some scope) = heads_in scope

-- the features of the scope at a position
abbrev pub heads_at : List Scope → ℕ → List Head
heads_at scopes at = heads_there (slice_get scopes at)
