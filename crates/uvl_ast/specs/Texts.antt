-- The texts in the values of attributes.
use Rattle.std.specs.Prelude.{ℕ, ◌==◌, Bool, not, ◌||◌, List, [], ◌∷◌, IsTrue}
use Rattle.std.specs.List.{All, flat_map, list_all}
use Rattle.uvl_ast.specs.declared.feature.Attribute.{Attribute}
use Rattle.uvl_ast.specs.declared.feature.AttrValue.{AttrValue}
use Rattle.uvl_ast.specs.declared.feature.AttrValue.TheOpen.{AttrValue-F, Attribute-F}
use Rattle.uvl_ast.specs.declared.feature.AttrValue.TheFolds.{fold-AttrValue, fold-Attribute}
use Rattle.uvl_ast.specs.declared.feature.Feature.{Feature}
use Rattle.uvl_ast.specs.Nesting.{all_attributes}

-- a text has itself, and a list or a vector the texts of what is in it, where a list of texts stands for each
abbrev pub value_texts : AttrValue-F (List (List ℕ)) (List (List ℕ)) → List (List ℕ)
value_texts (AttrValue-F.Words text) = text ∷ []
value_texts (AttrValue-F.List attributes) = flat_map (λ texts. texts) attributes
value_texts (AttrValue-F.Vector values) = flat_map (λ texts. texts) values
value_texts _ = []

-- an attribute has those of its value
abbrev pub attribute_texts : Attribute-F (List (List ℕ)) (List (List ℕ)) → List (List ℕ)
attribute_texts attribute = attribute.value

-- the texts in a value, in their order
abbrev pub texts_of_value : AttrValue → List (List ℕ)
texts_of_value = fold-AttrValue (List (List ℕ)) (List (List ℕ)) value_texts attribute_texts

-- the texts in the value of an attribute
abbrev pub texts_of : Attribute → List (List ℕ)
texts_of = fold-Attribute (List (List ℕ)) (List (List ℕ)) value_texts attribute_texts

-- a text that can stand in single quotes: it holds no single quote (39), no LF (10) and no CR (13)
abbrev pub is_quotable : List ℕ → Bool
is_quotable text = list_all (λ c. not (c == 39 || c == 10 || c == 13)) text

-- each of the texts can stand in single quotes
abbrev pub AreQuotable : List (List ℕ) → Type 0
AreQuotable texts = All (λ text. IsTrue (is_quotable text)) texts

-- and so can each text in a tree of features
abbrev pub EachTextIsQuotable : Feature → Type 0
EachTextIsQuotable feature = All (λ attribute. AreQuotable (texts_of attribute)) (all_attributes feature)
