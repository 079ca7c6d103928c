-- The keys of attributes, list by list.
use Rattle.std.specs.Prelude.{ℕ, List, [], ◌∷◌, map}
use Rattle.std.specs.List.{flat_map}
use Rattle.uvl_ast.specs.declared.feature.Attribute.{Attribute, out-Attribute}
use Rattle.uvl_ast.specs.declared.feature.AttrValue.TheOpen.{AttrValue-F, Attribute-F}
use Rattle.uvl_ast.specs.declared.feature.AttrValue.TheFolds.{fold-Attribute}

-- an attribute by its key, and the lists of keys in its value
pub record Keyed : Type 0 where
  pub key : List ℕ
  pub within : List (List (List ℕ))

-- attributes in braces have one list of keys, in front of those in their values; a vector has those of its values
abbrev pub value_keys : AttrValue-F (List (List (List ℕ))) Keyed → List (List (List ℕ))
value_keys (AttrValue-F.List attributes) =
    map (λ attribute. attribute.key) attributes ∷ flat_map (λ attribute. attribute.within) attributes
value_keys (AttrValue-F.Vector values) = flat_map (λ lists. lists) values
value_keys _ = []

-- an attribute has its key, and the lists in its value
abbrev pub attribute_keys : Attribute-F (List (List (List ℕ))) Keyed → Keyed
attribute_keys attribute = record { key = attribute.key; within = attribute.value }

-- the lists of keys in the value of an attribute
abbrev pub nested_keys : Attribute → List (List (List ℕ))
nested_keys attribute = (fold-Attribute (List (List (List ℕ))) Keyed value_keys attribute_keys attribute).within

-- the list of the keys of attributes, and the lists in their values
abbrev pub key_lists : List Attribute → List (List (List ℕ))
key_lists attributes = map (λ attribute. (out-Attribute attribute).key) attributes ∷ flat_map nested_keys attributes
