-- What lines bring to the placed tree of their file: a feature of their own, or the placed tree of another file.
use Rattle.std.specs.Prelude.{ℕ, ◌+◌, ◌-◌, max, Bool, true, false, List, [], ◌∷◌, ◌++◌, map, slice_get, Option, Some, None, if◌then◌else◌}
use Rattle.std.specs.Str.{bytes_eq}
use Rattle.uvl_ast.specs.declared.feature.Attribute.{Attribute}
use Rattle.uvl_imports.specs.declared.file_set.Loaded.{Loaded}
use Rattle.uvl_semantics.specs.Prefix.{prefixed_name}
use Rattle.uvl_placing.specs.Names.{dotted, front_of, last_of, target_called}
use Rattle.uvl_scope.specs.declared.scope.Scope.{Scope}
use Rattle.uvl_scope.specs.Lines.{Line, of_feature, of_group}

-- names in document order, and beside them what attributes each feature has, the qualifiers that are placed, how deep
-- the deepest feature stands, and how many rules and nodes of rules the placed files have
pub record Brought : Type 0 where
  pub names : List (List ℕ)
  pub attributes : List (List Attribute)
  pub placed : List (List ℕ)
  pub depth : ℕ
  pub rules : ℕ
  pub nodes : ℕ

abbrev pub nothing : Brought
nothing = record { names = []; attributes = []; placed = []; depth = 0; rules = 0; nodes = 0 }

-- both, one behind the other
abbrev pub together : Brought → Brought → Brought
together first second = record {
  names = first.names ++ second.names;
  attributes = first.attributes ++ second.attributes;
  placed = first.placed ++ second.placed;
  depth = max first.depth second.depth;
  rules = first.rules + second.rules;
  nodes = first.nodes + second.nodes;
}

-- the scope of a file, where the name is that of its root, which comes first
abbrev pub has_root : List ℕ → List (List ℕ) → Bool
has_root name [] = false
has_root name (root ∷ others) = bytes_eq root name

abbrev pub with_root : List ℕ → Option Scope → Option Scope
with_root name None = None
with_root name (Some scope) = if has_root name scope.names then Some scope else None

-- the scope at a position, where there is one
abbrev pub scope_at : List Scope → Option ℕ → Option Scope
scope_at scopes None = None
scope_at scopes (Some position) = slice_get scopes position

-- what the parts of a reference place at a line: the scope of a file, where they place one
abbrev pub Placing : Type 0
Placing = List (List ℕ) → Option Scope

-- The scope of the file that a reference places: all its parts but the last are the qualifier of an import line, and
-- the last is the name of the root of that line's file. The scopes are those of the files in front.
abbrev pub placed_scope : List Scope → Loaded → Placing
placed_scope scopes loaded [] = None
placed_scope scopes loaded (part ∷ parts) =
    with_root (last_of (part ∷ parts))
    (scope_at scopes (target_called (dotted (front_of (part ∷ parts))) loaded.file.imports loaded.targets))

-- a reference of one part declares a feature, and any other is to place a file
abbrev pub is_placing : List (List ℕ) → Bool
is_placing (name ∷ []) = false
is_placing _ = true

-- a declared feature is one name, with what stands in the braces of its line
abbrev pub declared : ℕ → List Attribute → List ℕ → Brought
declared depth attributes name =
    record { names = name ∷ []; attributes = attributes ∷ []; placed = []; depth = depth; rules = 0; nodes = 0 }

-- A placed file's names come under the qualifier, and its root stands at the line's depth. Where none is placed,
-- nothing is brought.
abbrev pub placed : ℕ → List ℕ → Option Scope → Brought
placed depth qualifier None = nothing
placed depth qualifier (Some scope) = record {
  names = map (prefixed_name qualifier) scope.names;
  attributes = scope.attributes;
  placed = qualifier ∷ [];
  depth = depth + scope.depth - 1;
  rules = scope.rules;
  nodes = scope.nodes;
}

-- what is placed at a depth by a reference
abbrev pub placed_at : Placing → ℕ → List (List ℕ) → Brought
placed_at placing depth parts = placed depth (dotted (front_of parts)) (placing parts)

-- what a reference brings that stands at a depth, with these attributes in braces
abbrev pub brought_at : Placing → ℕ → List Attribute → List (List ℕ) → Brought
brought_at placing depth attributes (name ∷ []) = declared depth attributes name
brought_at placing depth attributes parts = placed_at placing depth parts

-- what a line brings; a group line brings nothing
abbrev pub brought_by : Placing → Line → Brought
brought_by placing (of_feature line) = brought_at placing line.depth line.attributes line.reference.parts
brought_by placing (of_group line) = nothing

-- what lines bring together
abbrev pub brought_by_lines : Placing → List Line → Brought
brought_by_lines placing [] = nothing
brought_by_lines placing (line ∷ lines) = together (brought_by placing line) (brought_by_lines placing lines)
