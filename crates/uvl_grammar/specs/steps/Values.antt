-- Reading attributes and their values.
use Rattle.std.specs.Prelude.{ℕ, zero, suc, length, Err, neg_ℤ, Option, Some, None}
use Rattle.uvl_lexer.specs.declared.token.TokenKind.{TokenKind}
use Rattle.uvl_lexer.specs.declared.token.TokenKind.TheVariants as token
use Rattle.uvl_base.specs.declared.word.Word.TheVariants as word
use Rattle.uvl_lexer.specs.declared.token.Symbol.TheVariants as symbol
use Rattle.uvl_ast.specs.declared.feature.Attribute.{Attribute, roll-Attribute}
use Rattle.uvl_ast.specs.declared.feature.AttrValue.{AttrValue}
use Rattle.uvl_ast.specs.declared.feature.AttrValue.TheVariants as value
use Rattle.uvl_grammar.specs.Tokens.{name_of, number_of}
use Rattle.uvl_grammar.specs.steps.Tests.{is_symbol, begins_value}
use Rattle.uvl_grammar.specs.steps.Reading.{Reader, done, bind, one, accept, choose, closed, separated}

-- the value that a token is by itself
abbrev pub value_of : TokenKind → Option AttrValue
value_of (token.Word word.True) = Some value.Yes
value_of (token.Word word.False) = Some value.No
value_of (token.Number number whole) = Some (value.Number number)
value_of (token.Text text) = Some (value.Words text)
value_of _ = None

-- a value without braces and brackets
unfoldable pub simple_value : Reader AttrValue
simple_value =
    choose (is_symbol symbol.Minus)
    (bind (one (is_symbol symbol.Minus)) (λ minus. bind (accept number_of)
    (λ number. done (value.Number (neg_ℤ number.0)))))
    (bind (accept value_of) (λ v. done v.0))

-- an attribute, whose value is read by p
unfoldable pub attribute_with : Reader AttrValue → Reader Attribute
attribute_with p =
    bind (accept name_of) (λ key.
    choose begins_value
    (bind p (λ v. done (roll-Attribute (record { key = key.0; value = v; place = key.1 }))))
    (done (roll-Attribute (record { key = key.0; value = value.Yes; place = key.1 }))))

-- the attributes in braces
unfoldable pub list_with : Reader AttrValue → Reader AttrValue
list_with p =
    bind (separated (is_symbol symbol.RightBrace) (attribute_with p)) (λ attributes.
    bind (one (is_symbol symbol.RightBrace)) (λ right. done (value.List attributes)))

-- the values in brackets
unfoldable pub vector_with : Reader AttrValue → Reader AttrValue
vector_with p =
    bind (separated (is_symbol symbol.RightBracket) p) (λ values.
    bind (one (is_symbol symbol.RightBracket)) (λ right. done (value.Vector values)))

-- a value, whose inner values are read by p
unfoldable pub value_with : Reader AttrValue → Reader AttrValue
value_with p =
    choose (is_symbol symbol.LeftBrace) (bind (one (is_symbol symbol.LeftBrace)) (λ left. list_with p))
    (choose (is_symbol symbol.LeftBracket) (bind (one (is_symbol symbol.LeftBracket))
    (λ left. vector_with p)) simple_value)

-- a value in which braces and brackets nest less than so deep
unfoldable pub value_at : ℕ → Reader AttrValue
value_at zero ts = Err (length ts)
value_at (suc depth) ts = value_with (value_at depth) ts

abbrev pub attribute_at : ℕ → Reader Attribute
attribute_at depth = attribute_with (value_at depth)

-- an attribute, however deep its value nests
abbrev pub attribute : Reader Attribute
attribute = closed attribute_at
