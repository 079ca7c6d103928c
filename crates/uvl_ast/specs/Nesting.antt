-- How deep the values of attributes nest.
use Rattle.std.specs.Prelude.{ℕ, ◌+◌, ◌≤◌, List, ◌++◌}
use Rattle.std.specs.List.{All, flat_map}
use Rattle.uvl_ast.specs.declared.feature.Attribute.{Attribute}
use Rattle.uvl_ast.specs.declared.feature.AttrValue.{AttrValue}
use Rattle.uvl_ast.specs.declared.feature.AttrValue.TheOpen.{AttrValue-F, Attribute-F}
use Rattle.uvl_ast.specs.declared.feature.AttrValue.TheFolds.{fold-AttrValue, fold-Attribute}
use Rattle.uvl_ast.specs.declared.feature.Feature.{Feature}
use Rattle.uvl_ast.specs.declared.feature.Feature.TheOpen.{Feature-F, Group-F}
use Rattle.uvl_ast.specs.declared.feature.Feature.TheFolds.{fold-Feature, fold-Group}
use Rattle.uvl_ast.specs.declared.feature.Group.{Group}
use Rattle.uvl_ast.specs.Depth.{greatest}

-- a list or a vector nests one deeper than the deepest in it, where a nesting stands for each; in others nothing nests
abbrev pub value_nesting : AttrValue-F ℕ ℕ → ℕ
value_nesting (AttrValue-F.List attributes) = 1 + greatest attributes
value_nesting (AttrValue-F.Vector values) = 1 + greatest values
value_nesting _ = 0

-- an attribute nests as deep as its value
abbrev pub attribute_nesting : Attribute-F ℕ ℕ → ℕ
attribute_nesting attribute = attribute.value

-- how deep lists and vectors nest in a value, itself counted
abbrev pub nesting_of : AttrValue → ℕ
nesting_of = fold-AttrValue ℕ ℕ value_nesting attribute_nesting

-- how deep they nest in the value of an attribute
abbrev pub nesting_of_attribute : Attribute → ℕ
nesting_of_attribute = fold-Attribute ℕ ℕ value_nesting attribute_nesting

-- the attributes of a feature stand in front of those below it
abbrev pub feature_attributes : Feature-F (List Attribute) (List Attribute) → List Attribute
feature_attributes feature = feature.attributes ++ flat_map (λ attributes. attributes) feature.groups

-- the attributes of a group are those of its members
abbrev pub group_attributes : Group-F (List Attribute) (List Attribute) → List Attribute
group_attributes group = flat_map (λ attributes. attributes) group.members

-- the attributes of a feature and of all features below it, in document order
abbrev pub all_attributes : Feature → List Attribute
all_attributes = fold-Feature (List Attribute) (List Attribute) feature_attributes group_attributes

-- those of the members of a group and of all features below them
abbrev pub all_attributes_of_group : Group → List Attribute
all_attributes_of_group = fold-Group (List Attribute) (List Attribute) feature_attributes group_attributes

-- the value of each attribute in a tree of features nests at most so deep
abbrev pub EachValueNests : ℕ → Feature → Type 0
EachValueNests most feature = All (λ attribute. nesting_of_attribute attribute ≤ most) (all_attributes feature)
