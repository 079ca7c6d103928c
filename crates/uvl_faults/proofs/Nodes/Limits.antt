-- Where no node is one too many, a rule has at most 8,192.
use Rattle.std.specs.Prelude.{◌≡◌, ℕ, ◌+◌, ◌≤◌, Bool, true, false, ◌&&◌, ◌==◌, List, [], ◌∷◌, Some}
use Rattle.std.proofs.Common.{refl, sym, ap, ◌∙◌, arith}
use Rattle.std.proofs.lemmas.Bool.Decides.{nat_tests}
use Rattle.uvl_lexer.specs.declared.token.Token.{Token}
use Rattle.uvl_ast.specs.declared.expression.Expr.{Expr}
use Rattle.uvl_ast.specs.Nodes.{nodes_of}
use Rattle.uvl_grammar.specs.Expressions.{SpellsExpr}
use Rattle.uvl_profile.specs.Nesting.{one_if}
use Rattle.uvl_profile.specs.Rules.{is_node, rule_behind, rule_nodes}
use Rattle.uvl_profile.specs.Met.{is_full, is_node_too_many}
use Rattle.uvl_faults.specs.Law.{nodes_among}
use Rattle.uvl_faults.proofs.Walking.{Clear}
use Rattle.uvl_faults.proofs.Nodes.Counting.{AllStay}
use Rattle.uvl_faults.proofs.Nodes.Rules.{node_behind, none_yet, rule_stays, tokens_tell_nodes}

-- a node that is one too many
abbrev pub too_many : List Token → Token → Bool
too_many before t = is_node_too_many before t.kind

not_full : (n : ℕ) → (n == 8192) ≡ false → n ≤ 8192 → n + 1 ≤ 8192
not_full n e some = grind (arith, nat_tests)

module _ (before : List Token) (t : Token) (n : ℕ) (counted : rule_nodes before ≡ Some n) (few : n ≤ 8192) where
  few_more : (node : Bool) → is_node before t.kind ≡ node → too_many before t ≡ false → n + one_if node ≤ 8192
  few_more true is clear = not_full n (sym (ap (λ b. b && is_full (rule_nodes before)) is ∙ ap is_full counted) ∙ clear) few
  few_more false is clear = omega arith

-- where no node is one too many, a rule has at most 8,192
pub within_limit : (before xs : List Token) (n : ℕ) → rule_nodes before ≡ Some n → n ≤ 8192 → AllStay xs → Clear too_many before xs
    → n + nodes_among before xs ≤ 8192
within_limit before [] n counted few stays clear = omega arith
within_limit before (t ∷ ts) n counted few stays clear =
    let here = few_more before t n counted few (is_node before t.kind) refl clear.0 in
    let more = within_limit (t ∷ before) ts (n + one_if (is_node before t.kind)) (node_behind before t n counted stays.0) here stays.1 clear.1 in
    omega (arith, more)

pub rule_within_limit : (before : List Token) (t : Token) (xs : List Token) (e : Expr) → rule_behind before t ≡ true → SpellsExpr xs e
    → Clear too_many (t ∷ before) xs → nodes_of e ≤ 8192
rule_within_limit before t xs e is spelled clear =
    let many = within_limit (t ∷ before) xs 0 (none_yet before t is) (omega arith) (rule_stays before t xs e is spelled) clear in
    omega (arith, many, tokens_tell_nodes before t xs e is spelled)
