-- A worked row: a main file that places one file twice.
use Rattle.std.specs.Prelude.{◌≡◌, ℕ, List, [], ◌∷◌, Some, None, codes}
use Rattle.std.specs.Option.{option_map}
use Rattle.uvl_base.specs.declared.place.Place.{Place}
use Rattle.uvl_ast.specs.declared.expression.Expr.{Expr}
use Rattle.uvl_ast.specs.declared.feature.Feature.{Feature, roll-Feature}
use Rattle.uvl_ast.specs.declared.feature.Group.{Group, roll-Group}
use Rattle.uvl_ast.specs.declared.feature.GroupKind.{GroupKind}
use Rattle.uvl_ast.specs.declared.feature.GroupKind.TheVariants.{Optional, Or}
use Rattle.uvl_ast.specs.declared.file.File.{File}
use Rattle.uvl_ast.specs.declared.file.Import.{Import}
use Rattle.uvl_ast.specs.declared.names.Ref.{Ref}
use Rattle.uvl_imports.specs.declared.file_set.Loaded.{Loaded}
use Rattle.uvl_semantics.specs.Constraint.{Constraint}
use Rattle.uvl_semantics.specs.Prefix.{prefixed_constraint}
use Rattle.uvl_semantics.specs.Tree.{names_of}
use Rattle.uvl_placing.specs.Files.{main_tree, main_constraints}
use Rattle.uvl_placing.specs.Meaning.{constraint_of}

-- a place that doesn't matter
abbrev somewhere : Place
somewhere = record { line = 1; column = 1 }

-- a reference
abbrev ref : List (List ℕ) → Ref
ref names = record { parts = names; place = somewhere }

-- a line without braces, and a group
abbrev line : List (List ℕ) → List Group → Feature
line names groups = roll-Feature (record { name = ref names; attributes = []; rules = []; groups = groups })

abbrev group_of : GroupKind → List Feature → Group
group_of kind members = roll-Group (record { kind = kind; members = members; place = somewhere })

-- a file
abbrev file_of : List Import → Feature → List Expr → File
file_of imports root rules = record { namespace = None; levels = []; imports = imports; root = Some root; rules = rules; finish = somewhere }

abbrev import_as : List ℕ → List ℕ → Import
import_as path name = record { path = ref (path ∷ []); alias = Some (ref (name ∷ [])); place = somewhere }

-- the imported file, with a rule, and the main file, with another
abbrev sub : Expr → Loaded
sub rule = record {
  path = codes "sub.uvl";
  file = file_of [] (line (codes "Radio" ∷ []) (group_of Optional (line (codes "DAB" ∷ []) [] ∷ []) ∷ [])) (rule ∷ []);
  targets = [];
}

abbrev main : Expr → Loaded
main rule = record {
  path = codes "main.uvl";
  file = file_of (import_as (codes "sub") (codes "x") ∷ import_as (codes "sub") (codes "y") ∷ [])
      (line (codes "Car" ∷ []) (group_of Or (line (codes "x" ∷ codes "Radio" ∷ []) []
      ∷ line (codes "y" ∷ codes "Radio" ∷ []) [] ∷ []) ∷ []))
      (rule ∷ []);
  targets = 0 ∷ 0 ∷ [];
}

-- the features are Car, x.Radio, x.DAB, y.Radio and y.DAB, in this order
abbrev pub OneFileIsPlacedTwice : Type 0
OneFileIsPlacedTwice =
    (first second : Expr) →
    option_map names_of (main_tree (sub first ∷ main second ∷ []))
    ≡ Some (codes "Car" ∷ codes "x.Radio" ∷ codes "x.DAB" ∷ codes "y.Radio" ∷ codes "y.DAB" ∷ [])

-- the rule of the main file comes first, and then that of the placed one, under each of the qualifiers
abbrev pub ItsRulesHoldTwice : Type 0
ItsRulesHoldTwice =
    (first second : Expr) (placed own : Constraint) → constraint_of (codes "Radio") first ≡ Some placed
    → constraint_of (codes "Car") second ≡ Some own →
    main_constraints (sub first ∷ main second ∷ [])
    ≡ Some (own ∷ prefixed_constraint (codes "x") placed ∷ prefixed_constraint (codes "y") placed ∷ [])
