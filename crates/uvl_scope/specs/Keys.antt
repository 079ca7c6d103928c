-- The keys of attributes.
use Rattle.std.specs.Prelude.{ℕ, List, [], ◌∷◌, map, Option, None}
use Rattle.uvl_base.specs.declared.place.Place.{Place}
use Rattle.uvl_ast.specs.declared.feature.Attribute.{Attribute}
use Rattle.uvl_ast.specs.declared.feature.AttrValue.{AttrValue}
use Rattle.uvl_ast.specs.declared.feature.AttrValue.TheOpen.{AttrValue-F, Attribute-F}
use Rattle.uvl_ast.specs.declared.feature.AttrValue.TheFolds.{fold-AttrValue, fold-Attribute}
use Rattle.uvl_semantics.specs.Product.{has}
use Rattle.uvl_scope.specs.Firsts.{when, first_of, first_along}

-- an attribute by its key, where that stands, and the first key that stands twice in a list of its value
pub record Keyed : Type 0 where
  pub key : List ℕ
  pub place : Place
  pub inside : Option Place

-- an attribute's key stands in front of it once more, or else a key in its value does
abbrev pub repeated_at : List Keyed → Keyed → Option Place
repeated_at front attribute =
    first_of (when (has (map (λ other. other.key) front) attribute.key) attribute.place ∷ attribute.inside ∷ [])

-- the first of the attributes of a list whose key stands twice in it, or in a list of whose value one does
abbrev pub repeated_among : List Keyed → Option Place
repeated_among attributes = first_along repeated_at [] attributes

-- a key that stands twice in a list of a value, lists in lists and in vectors too
abbrev pub repeated_in_value : AttrValue-F (Option Place) Keyed → Option Place
repeated_in_value (AttrValue-F.List attributes) = repeated_among attributes
repeated_in_value (AttrValue-F.Vector values) = first_of values
repeated_in_value _ = None

-- an attribute with what is found in its value
abbrev pub keyed_by : Attribute-F (Option Place) Keyed → Keyed
keyed_by attribute = record { key = attribute.key; place = attribute.place; inside = attribute.value }

abbrev pub keyed : Attribute → Keyed
keyed = fold-Attribute (Option Place) Keyed repeated_in_value keyed_by

-- the first key that stands twice in a list of a value
abbrev pub repeated_in : AttrValue → Option Place
repeated_in = fold-AttrValue (Option Place) Keyed repeated_in_value keyed_by

-- Where a key stands for the second time in attributes or in a list of their values: the first such place in the text.
abbrev pub repeated_key : List Attribute → Option Place
repeated_key attributes = repeated_among (map keyed attributes)
