-- The conditions of the named faults, each of a token and the tokens in front of it, the nearest first.
use Rattle.std.specs.Prelude.{ℕ, ◌+◌, ◌*◌, Bool, true, false, not, ◌&&◌, ◌||◌, ◌==◌, cond, List, [], ◌∷◌, Option, Some, None}
use Rattle.uvl_base.specs.Limits.{most_depth, most_nesting, most_rule_nodes}
use Rattle.uvl_base.specs.declared.fault.FaultKind.{FaultKind}
use Rattle.uvl_base.specs.declared.fault.FaultKind.TheVariants.{TypedFeature, FeatureCardinality, Average, UnsupportedOperation, ExpressionTooLarge, TooDeep}
use Rattle.uvl_lexer.specs.declared.token.Token.{Token}
use Rattle.uvl_lexer.specs.declared.token.TokenKind.{TokenKind}
use Rattle.uvl_lexer.specs.declared.token.TokenKind.TheVariants as token
use Rattle.uvl_base.specs.declared.word.Word.TheVariants as word
use Rattle.uvl_lexer.specs.declared.token.Symbol.TheVariants as symbol
use Rattle.uvl_profile.specs.declared.candidate.Met.{Met}
use Rattle.uvl_profile.specs.declared.section.Section.TheVariants.{Include, Features, Constraints}
use Rattle.uvl_profile.specs.declared.section.SectionPart.{SectionPart}
use Rattle.uvl_profile.specs.declared.section.SectionPart.TheVariants.{Body}
use Rattle.uvl_lexer.specs.Kinds.{Test, is_word, is_symbol}
use Rattle.uvl_profile.specs.Lines.{begins_line, line_of}
use Rattle.uvl_profile.specs.Sections.{part_of, is_in, same_section}
use Rattle.uvl_profile.specs.Nesting.{deepens, open_brackets, nesting}
use Rattle.uvl_profile.specs.Rules.{behind_sum, is_node, rule_nodes}

-- ---- by the tokens alone

-- the types of features that are not supported
abbrev pub is_type : Test
is_type (token.Word word.String) = true
is_type (token.Word word.Integer) = true
is_type (token.Word word.Real) = true
is_type _ = false

-- a type first in a line of the features section
abbrev pub is_typed_feature : List Token → TokenKind → Bool
is_typed_feature before kind = is_type kind && begins_line before && is_in Features before

-- `cardinality` in a line of the features section, not first in the line
abbrev pub is_late_cardinality : List Token → TokenKind → Bool
is_late_cardinality before kind = is_word word.Cardinality kind && is_in Features before && not (begins_line before)

-- the same, outside brackets
abbrev pub is_feature_cardinality : List Token → TokenKind → Bool
is_feature_cardinality before kind = is_late_cardinality before kind && open_brackets (line_of before) == 0

-- `avg` outside the include section
abbrev pub is_average : List Token → TokenKind → Bool
is_average before kind = is_word word.Avg kind && not (is_in Include before)

-- the functions that are not supported
abbrev pub is_function : Test
is_function (token.Word word.Len) = true
is_function (token.Word word.Floor) = true
is_function (token.Word word.Ceil) = true
is_function _ = false

abbrev pub is_name : Test
is_name (token.Name name quoted) = true
is_name _ = false

abbrev pub is_text : Test
is_text (token.Text text) = true
is_text _ = false

-- whether what follows stands behind `sum`, `(` and a name
abbrev pub behind_sum_of_name : List Token → Bool
behind_sum_of_name [] = false
behind_sum_of_name (t ∷ before) = is_name t.kind && behind_sum before

-- a division; a function outside the include section; a text in the constraints section; a second argument of a sum
abbrev pub is_unsupported : List Token → TokenKind → Bool
is_unsupported before kind =
    is_symbol symbol.Slash kind
    || (is_function kind && not (is_in Include before))
    || (is_text kind && is_in Constraints before)
    || (is_symbol symbol.Comma kind && behind_sum_of_name before)

-- a bracket or `!` with which what follows nests too deep
abbrev pub is_nested_too_deep : List Token → Token → Bool
is_nested_too_deep before t = deepens t.kind && nesting (line_of (t ∷ before)) == most_nesting + 1

-- ---- where the token may stand there

-- whether what follows is where a feature's line has its reference
abbrev pub names_feature : List Token → Bool
names_feature [] = false
names_feature (t ∷ before) = begins_line (t ∷ before) || (is_word word.Boolean t.kind && begins_line before)

-- Whether a feature there is deeper than features may nest: the root has one indentation, and each feature
-- below another two more, with that of the group between.
abbrev pub is_below_most_depth : SectionPart → Bool
is_below_most_depth (Body s indentations) = same_section Features s && indentations == 2 * most_depth + 1
is_below_most_depth _ = false

-- the reference of a feature that nests too deep
abbrev pub is_feature_too_deep : List Token → TokenKind → Bool
is_feature_too_deep before kind = is_name kind && names_feature before && is_below_most_depth (part_of before)

-- whether a rule has as many nodes as it may
abbrev pub is_full : Option ℕ → Bool
is_full None = false
is_full (Some nodes) = nodes == most_rule_nodes

-- one node more than a rule may have
abbrev pub is_node_too_many : List Token → TokenKind → Bool
is_node_too_many before kind = is_node before kind && is_full (rule_nodes before)

-- ---- the faults that are met

-- of the faults of single words and symbols, the one with the lowest number
abbrev pub met_by_word : List Token → TokenKind → Option FaultKind
met_by_word before kind =
    cond (is_typed_feature before kind) (Some TypedFeature)
    (cond (is_feature_cardinality before kind) (Some FeatureCardinality)
    (cond (is_average before kind) (Some Average) (cond (is_unsupported before kind) (Some UnsupportedOperation) None)))

-- brackets that nest too deep are a fault also where the token can't stand
abbrev pub if_nested : Bool → Option FaultKind
if_nested nested = cond nested (Some TooDeep) None

-- what is met of the limits: nodes of a rule, brackets, features
abbrev pub met_limit : List Token → Token → Option Met
met_limit before t =
    cond (is_node_too_many before t.kind)
    (Some (record { alive = ExpressionTooLarge; dead = if_nested (is_nested_too_deep before t) }))
    (cond (is_nested_too_deep before t) (Some (record { alive = TooDeep; dead = Some TooDeep }))
    (cond (is_feature_too_deep before t.kind) (Some (record { alive = TooDeep; dead = None })) None))

-- what is met of both
abbrev pub met_either : Option FaultKind → Option Met → Option Met
met_either (Some kind) limit = Some (record { alive = kind; dead = Some kind })
met_either None limit = limit

abbrev pub met_of : List Token → Token → Option Met
met_of before t = met_either (met_by_word before t.kind) (met_limit before t)
