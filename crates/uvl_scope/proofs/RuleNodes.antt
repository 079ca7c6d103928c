-- What stands in a rule, node by node.
use Rattle.std.specs.Prelude.{◌≡◌, ℕ, ◌+◌, Bool, true, false, not, ◌||◌, List, ℤ}
use Rattle.std.proofs.Common.{sym, ap, ◌∙◌}
use Rattle.uvl_base.specs.declared.place.Place.{Place}
use Rattle.uvl_ast.specs.declared.names.Ref.{Ref}
use Rattle.uvl_ast.specs.declared.expression.BinOp.{BinOp}
use Rattle.uvl_ast.specs.declared.expression.Expr.{Expr}
use Rattle.uvl_ast.specs.declared.expression.Expr.TheVariants as expr
use Rattle.uvl_ast.specs.declared.expression.Expr.TheVariants.{rolls-Number, rolls-Name, rolls-Sum, rolls-Not, rolls-Binary}
use Rattle.uvl_ast.specs.declared.expression.Expr.TheOpen.{Expr-F}
use Rattle.uvl_ast.specs.declared.expression.Expr.TheFolds.{fold-roll-Expr}
use Rattle.uvl_ast.specs.Nodes.{node_count, nodes_of}
use Rattle.uvl_scope.specs.Rules.{joins_truths, speaks_of_numbers, has_numbers}

pub nodes_number : (v : ℤ) (p : Place) → nodes_of (expr.Number v p) ≡ 1
nodes_number v p = ap nodes_of (sym (rolls-Number v p)) ∙ fold-roll-Expr ℕ node_count (Expr-F.Number v p)

pub nodes_name : (r : Ref) → nodes_of (expr.Name r) ≡ 1
nodes_name r = ap nodes_of (sym (rolls-Name r)) ∙ fold-roll-Expr ℕ node_count (Expr-F.Name r)

pub nodes_sum : (name : List ℕ) (p : Place) → nodes_of (expr.Sum name p) ≡ 1
nodes_sum name p = ap nodes_of (sym (rolls-Sum name p)) ∙ fold-roll-Expr ℕ node_count (Expr-F.Sum name p)

pub nodes_not : (e : Expr) (p : Place) → nodes_of (expr.Not e p) ≡ 1 + nodes_of e
nodes_not e p = ap nodes_of (sym (rolls-Not e p)) ∙ fold-roll-Expr ℕ node_count (Expr-F.Not e p)

pub nodes_binary : (o : BinOp) (left right : Expr) (p : Place) → nodes_of (expr.Binary o left right p) ≡ 1 + nodes_of left + nodes_of right
nodes_binary o left right p = ap nodes_of (sym (rolls-Binary o left right p)) ∙ fold-roll-Expr ℕ node_count (Expr-F.Binary o left right p)

pub numbers_number : (v : ℤ) (p : Place) → has_numbers (expr.Number v p) ≡ true
numbers_number v p = ap has_numbers (sym (rolls-Number v p)) ∙ fold-roll-Expr Bool speaks_of_numbers (Expr-F.Number v p)

pub numbers_name : (r : Ref) → has_numbers (expr.Name r) ≡ false
numbers_name r = ap has_numbers (sym (rolls-Name r)) ∙ fold-roll-Expr Bool speaks_of_numbers (Expr-F.Name r)

pub numbers_sum : (name : List ℕ) (p : Place) → has_numbers (expr.Sum name p) ≡ true
numbers_sum name p = ap has_numbers (sym (rolls-Sum name p)) ∙ fold-roll-Expr Bool speaks_of_numbers (Expr-F.Sum name p)

pub numbers_not : (e : Expr) (p : Place) → has_numbers (expr.Not e p) ≡ has_numbers e
numbers_not e p = ap has_numbers (sym (rolls-Not e p)) ∙ fold-roll-Expr Bool speaks_of_numbers (Expr-F.Not e p)

pub numbers_binary : (o : BinOp) (left right : Expr) (p : Place)
    → has_numbers (expr.Binary o left right p) ≡ (not (joins_truths o) || has_numbers left || has_numbers right)
numbers_binary o left right p = ap has_numbers (sym (rolls-Binary o left right p)) ∙ fold-roll-Expr Bool speaks_of_numbers (Expr-F.Binary o left right p)
