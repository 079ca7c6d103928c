-- The numbers that attributes give.
use Rattle.std.specs.Prelude.{ℕ, ℤ, List, [], ◌∷◌, Option, Some, None, if◌then◌else◌}
use Rattle.std.specs.Str.{bytes_eq}
use Rattle.uvl_ast.specs.declared.feature.Attribute.{Attribute, out-Attribute}
use Rattle.uvl_ast.specs.declared.feature.AttrValue.{AttrValue}
use Rattle.uvl_ast.specs.declared.feature.AttrValue.TheVariants as value
use Rattle.uvl_semantics.specs.Tree.{Tree, Head, heads_of}

-- the value of the first attribute with this key
abbrev pub value_of_key : List ℕ → List Attribute → Option AttrValue
value_of_key key [] = None
value_of_key key (first ∷ rest) =
    if bytes_eq (out-Attribute first).key key then Some (out-Attribute first).value else value_of_key key rest

-- the number that a value is, in millionths; a truth, a text, a list and a vector are none
abbrev pub number_of_value : Option AttrValue → Option ℤ
number_of_value (Some (value.Number number)) = Some number
number_of_value _ = None

-- the number that attributes have under a key
abbrev pub number_of_key : List ℕ → List Attribute → Option ℤ
number_of_key key attributes = number_of_value (value_of_key key attributes)

-- the attributes of the first of the heads with this name, and none where there is no such
abbrev pub attributes_of : List ℕ → List Head → List Attribute
attributes_of name [] = []
attributes_of name (head ∷ heads) = if bytes_eq head.name name then head.attributes else attributes_of name heads

-- the number that the first of the heads with this name has under a key
abbrev pub number_among : List Head → (feature key : List ℕ) → Option ℤ
number_among heads feature key = number_of_key key (attributes_of feature heads)

-- the number that a feature of the tree has under a key
abbrev pub number_in : Tree → (feature key : List ℕ) → Option ℤ
number_in tree feature key = number_among (heads_of tree) feature key
