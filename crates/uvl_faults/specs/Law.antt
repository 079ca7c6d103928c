-- The laws of a rule's nodes.
use Rattle.std.specs.Prelude.{◌≡◌, ℕ, ◌+◌, true, List, [], ◌∷◌, ◌++◌, reverse, Some}
use Rattle.uvl_lexer.specs.declared.token.Token.{Token}
use Rattle.uvl_ast.specs.declared.expression.Expr.{Expr}
use Rattle.uvl_ast.specs.Nodes.{nodes_of}
use Rattle.uvl_grammar.specs.Expressions.{SpellsExpr}
use Rattle.uvl_profile.specs.Nesting.{one_if}
use Rattle.uvl_profile.specs.Rules.{is_node, rule_behind, rule_nodes}

-- how many of the tokens behind others, the nearest first, are where a node stands
abbrev pub nodes_among : List Token → List Token → ℕ
nodes_among before [] = 0
nodes_among before (t ∷ ts) = one_if (is_node before t.kind) + nodes_among (t ∷ before) ts

-- where a rule begins behind a token, as many of its tokens are where a node stands as its tree has nodes
abbrev pub TokensTellNodes : Type 0
TokensTellNodes =
    (before : List Token) (t : Token) (tokens : List Token) (rule : Expr) → rule_behind before t ≡ true
    → SpellsExpr tokens rule
    → nodes_among (t ∷ before) tokens ≡ nodes_of rule

-- and all of them are counted behind its tokens
abbrev pub NodesAreCounted : Type 0
NodesAreCounted =
    (before : List Token) (t : Token) (tokens : List Token) (rule : Expr) → rule_behind before t ≡ true
    → SpellsExpr tokens rule
    → rule_nodes (reverse tokens ++ t ∷ before) ≡ Some (nodes_of rule)
