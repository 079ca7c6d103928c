-- What a scan of the tokens keeps of those in front of a place.
use Rattle.std.specs.Prelude.{◌≡◌, ℕ, ◌+◌, Bool, ◌&&◌, ◌||◌, cond, List, [], ◌∷◌, reverse, Option, Some, None}
use Rattle.uvl_lexer.specs.declared.token.Token.{Token}
use Rattle.uvl_lexer.specs.declared.token.TokenKind.{TokenKind}
use Rattle.uvl_lexer.specs.declared.token.Symbol.TheVariants as symbol
use Rattle.uvl_base.specs.declared.word.Word.TheVariants as word
use Rattle.uvl_profile.specs.declared.nesting.Nesting.{Nesting}
use Rattle.uvl_profile.specs.declared.scan.Scan.{Scan}
use Rattle.uvl_profile.specs.declared.section.SectionPart.{SectionPart}
use Rattle.uvl_profile.specs.declared.section.SectionPart.TheVariants.{Body}
use Rattle.uvl_profile.specs.declared.section.Section.TheVariants.{Features, Constraints}
use Rattle.uvl_lexer.specs.Kinds.{is_symbol, is_word}
use Rattle.uvl_profile.specs.Lines.{is_layout}
use Rattle.uvl_profile.specs.Sections.{part_of, belongs}
use Rattle.uvl_profile.specs.Nesting.{opens_bracket, closes_bracket, ends_operand}
use Rattle.uvl_profile.specs.Rules.{in_list, rule_nodes, with_node}

-- ---- scopes

-- Each bracket that stands open begins a scope, and one is outside all of them. Of each is kept how many `!`
-- apply in it, the innermost first.

-- the scopes around a bracket that is closed; outside all brackets one is left
abbrev pub outer_scopes : List ℕ → List ℕ
outer_scopes [] = 0 ∷ []
outer_scopes (c ∷ cs) = c ∷ cs

-- the scopes behind a token
abbrev pub scopes_behind : List ℕ → TokenKind → List ℕ
scopes_behind [] kind = []
scopes_behind (b ∷ bs) kind =
    cond (opens_bracket kind) (0 ∷ b ∷ bs)
    (cond (closes_bracket kind) (outer_scopes bs)
    (cond (ends_operand kind) (0 ∷ bs) (cond (is_symbol symbol.Bang kind) ((b + 1) ∷ bs) (b ∷ bs))))

-- and behind the tokens in front of a place
abbrev pub scopes_of : List Token → List ℕ
scopes_of [] = 0 ∷ []
scopes_of (t ∷ before) = cond (is_layout t.kind) (0 ∷ []) (scopes_behind (scopes_of before) t.kind)

-- the scopes that are kept
abbrev pub scopes_kept : Nesting → List ℕ
scopes_kept n = n.inside ∷ reverse n.around.items

-- ---- what is kept

-- how many indentations of a body are open in a part of a section
abbrev pub indentations_in : SectionPart → ℕ
indentations_in (Body s indentations) = indentations
indentations_in _ = 0

-- the scan keeps what the tokens in front of a place say, the nearest first
pub record Follows (before : List Token) (scan : Scan) : Type 0 where
  pub part : scan.part ≡ part_of before
  pub list : scan.list ≡ in_list before
  pub nodes : scan.nodes ≡ rule_nodes before
  pub scopes : scopes_kept scan.nesting ≡ scopes_of before

-- whether a rule begins behind a token, between two parts of a section, in the brackets of a list or not
abbrev pub begins_rule : SectionPart → SectionPart → Bool → Bool → TokenKind → Bool
begins_rule behind part list opens kind =
    (is_layout kind && belongs Constraints behind)
    || (is_word word.Constraint kind && belongs Features part)
    || opens
    || (is_symbol symbol.Comma kind && list)

-- the nodes of the rule so far behind a token, behind which a rule begins, or ends, or which is where a node stands
abbrev pub nodes_behind : Option ℕ → Bool → Bool → Bool → Option ℕ
nodes_behind nodes begins ends node = cond begins (Some 0) (cond ends None (with_node node nodes))

abbrev pub nodes_in : Option ℕ → ℕ
nodes_in None = 0
nodes_in (Some nodes) = nodes
