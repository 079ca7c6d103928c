-- The lines of a features section in document order.
use Rattle.std.specs.Prelude.{ℕ, ◌+◌, List, [], ◌∷◌, length, Option, Some, None}
use Rattle.std.specs.List.{flat_map}
use Rattle.uvl_base.specs.declared.place.Place.{Place}
use Rattle.uvl_ast.specs.declared.expression.Expr.{Expr}
use Rattle.uvl_ast.specs.declared.feature.Attribute.{Attribute}
use Rattle.uvl_ast.specs.declared.feature.Feature.{Feature}
use Rattle.uvl_ast.specs.declared.feature.Feature.TheOpen.{Feature-F, Group-F}
use Rattle.uvl_ast.specs.declared.feature.Feature.TheFolds.{fold-Feature, fold-Group}
use Rattle.uvl_ast.specs.declared.feature.Group.{Group}
use Rattle.uvl_ast.specs.declared.feature.GroupKind.{GroupKind}
use Rattle.uvl_ast.specs.declared.names.Ref.{Ref}

-- A feature line: its reference, what stands in its braces, how many groups it has, and how deep it stands, the root
-- being at 1.
pub record FeatureLine : Type 0 where
  pub reference : Ref
  pub attributes : List Attribute
  pub rules : List Expr
  pub groups : ℕ
  pub depth : ℕ

-- a group line: its kind, and where it stands
pub record GroupLine : Type 0 where
  pub kind : GroupKind
  pub place : Place

-- a line of the section
pub data Line : Type 0 where
  of_feature : FeatureLine → Line
  of_group : GroupLine → Line

-- the line of a feature itself, at a depth
abbrev pub line_of : {A B : Type 0} → Feature-F A B → ℕ → FeatureLine
line_of feature depth = record {
  reference = feature.name;
  attributes = feature.attributes;
  rules = feature.rules;
  groups = length feature.groups;
  depth = depth;
}

-- a feature's line stands in front of those of its groups
abbrev pub lines_of_feature : Feature-F (ℕ → List Line) (ℕ → List Line) → ℕ → List Line
lines_of_feature feature depth = of_feature (line_of feature depth) ∷ flat_map (λ lines. lines depth) feature.groups

-- a group's line stands in front of those of its members, which stand one deeper
abbrev pub lines_of_group : Group-F (ℕ → List Line) (ℕ → List Line) → ℕ → List Line
lines_of_group group depth =
    of_group record { kind = group.kind; place = group.place } ∷ flat_map (λ lines. lines (depth + 1)) group.members

-- the lines from a feature at a depth downwards
abbrev pub lines_from : Feature → ℕ → List Line
lines_from = fold-Feature (ℕ → List Line) (ℕ → List Line) lines_of_feature lines_of_group

-- the lines of a group of a feature at a depth, and below it
abbrev pub lines_below : Group → ℕ → List Line
lines_below = fold-Group (ℕ → List Line) (ℕ → List Line) lines_of_feature lines_of_group

-- all lines of a features section, where there is one
abbrev pub lines_of : Option Feature → List Line
lines_of None = []
lines_of (Some root) = lines_from root 1
