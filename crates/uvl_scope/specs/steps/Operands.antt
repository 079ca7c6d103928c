-- The operations in a rule, down whose left operands the walks go.
use Rattle.std.specs.Prelude.{Bool, true, false}
use Rattle.uvl_ast.specs.declared.expression.Expr.{Expr}
use Rattle.uvl_ast.specs.declared.expression.Expr.TheOpen.{Expr-F}

-- an operator stands outermost
abbrev pub is_operation : Expr-F Expr → Bool
is_operation (Expr-F.Binary operator left right place) = true
is_operation _ = false
