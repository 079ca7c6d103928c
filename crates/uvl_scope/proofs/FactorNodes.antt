-- Operands as factors, node by node.
use Rattle.std.specs.Prelude.{◌≡◌, ℕ, ℤ, false, ◌||◌, List, Some, None}
use Rattle.std.proofs.Common.{sym, ap, ◌∙◌}
use Rattle.uvl_base.specs.declared.place.Place.{Place}
use Rattle.uvl_ast.specs.declared.names.Ref.{Ref}
use Rattle.uvl_ast.specs.declared.expression.BinOp.{BinOp}
use Rattle.uvl_ast.specs.declared.expression.Expr.{Expr}
use Rattle.uvl_ast.specs.declared.expression.Expr.TheVariants as expr
use Rattle.uvl_ast.specs.declared.expression.Expr.TheVariants.{rolls-Number, rolls-Name, rolls-Sum, rolls-Not, rolls-Binary}
use Rattle.uvl_ast.specs.declared.expression.Expr.TheOpen.{Expr-F}
use Rattle.uvl_ast.specs.declared.expression.Expr.TheFolds.{fold-roll-Expr}
use Rattle.uvl_scope.specs.declared.factors.Factor.{Factor}
use Rattle.uvl_scope.specs.NumberFaults.{factor_at, factor_of, is_times}

pub factor_number : (v : ℤ) (p : Place) → factor_of (expr.Number v p) ≡ record { product = false; literal = Some v }
factor_number v p = ap factor_of (sym (rolls-Number v p)) ∙ fold-roll-Expr Factor factor_at (Expr-F.Number v p)

pub factor_name : (r : Ref) → factor_of (expr.Name r) ≡ record { product = false; literal = None }
factor_name r = ap factor_of (sym (rolls-Name r)) ∙ fold-roll-Expr Factor factor_at (Expr-F.Name r)

pub factor_sum : (name : List ℕ) (p : Place) → factor_of (expr.Sum name p) ≡ record { product = false; literal = None }
factor_sum name p = ap factor_of (sym (rolls-Sum name p)) ∙ fold-roll-Expr Factor factor_at (Expr-F.Sum name p)

pub factor_not : (e : Expr) (p : Place) → factor_of (expr.Not e p) ≡ record { product = (factor_of e).product; literal = None }
factor_not e p = ap factor_of (sym (rolls-Not e p)) ∙ fold-roll-Expr Factor factor_at (Expr-F.Not e p)

pub factor_binary : (o : BinOp) (left right : Expr) (p : Place)
    → factor_of (expr.Binary o left right p) ≡ record { product = is_times o || (factor_of right).product || (factor_of left).product; literal = None }
factor_binary o left right p = ap factor_of (sym (rolls-Binary o left right p)) ∙ fold-roll-Expr Factor factor_at (Expr-F.Binary o left right p)

pub product_number : (v : ℤ) (p : Place) → (factor_of (expr.Number v p)).product ≡ false
product_number v p = ap (λ (f : Factor). f.product) (factor_number v p)

pub product_name : (r : Ref) → (factor_of (expr.Name r)).product ≡ false
product_name r = ap (λ (f : Factor). f.product) (factor_name r)

pub product_sum : (name : List ℕ) (p : Place) → (factor_of (expr.Sum name p)).product ≡ false
product_sum name p = ap (λ (f : Factor). f.product) (factor_sum name p)

pub product_not : (e : Expr) (p : Place) → (factor_of (expr.Not e p)).product ≡ (factor_of e).product
product_not e p = ap (λ (f : Factor). f.product) (factor_not e p)

pub product_binary : (o : BinOp) (left right : Expr) (p : Place)
    → (factor_of (expr.Binary o left right p)).product ≡ (is_times o || (factor_of right).product || (factor_of left).product)
product_binary o left right p = ap (λ (f : Factor). f.product) (factor_binary o left right p)

pub literal_number : (v : ℤ) (p : Place) → (factor_of (expr.Number v p)).literal ≡ Some v
literal_number v p = ap (λ (f : Factor). f.literal) (factor_number v p)

pub literal_name : (r : Ref) → (factor_of (expr.Name r)).literal ≡ None
literal_name r = ap (λ (f : Factor). f.literal) (factor_name r)

pub literal_sum : (name : List ℕ) (p : Place) → (factor_of (expr.Sum name p)).literal ≡ None
literal_sum name p = ap (λ (f : Factor). f.literal) (factor_sum name p)

pub literal_not : (e : Expr) (p : Place) → (factor_of (expr.Not e p)).literal ≡ None
literal_not e p = ap (λ (f : Factor). f.literal) (factor_not e p)

pub literal_binary : (o : BinOp) (left right : Expr) (p : Place) → (factor_of (expr.Binary o left right p)).literal ≡ None
literal_binary o left right p = ap (λ (f : Factor). f.literal) (factor_binary o left right p)
