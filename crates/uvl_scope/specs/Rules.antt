-- What stands in a rule.
use Rattle.std.specs.Prelude.{ℕ, Bool, true, false, not, ◌||◌, List, [], ◌∷◌, ◌++◌, ◌+◌, if◌then◌else◌}
use Rattle.uvl_base.specs.declared.place.Place.{Place}
use Rattle.uvl_ast.specs.declared.expression.BinOp.{BinOp}
use Rattle.uvl_ast.specs.declared.expression.BinOp.TheVariants as op
use Rattle.uvl_ast.specs.declared.expression.Expr.{Expr}
use Rattle.uvl_ast.specs.declared.expression.Expr.TheOpen.{Expr-F}
use Rattle.uvl_ast.specs.declared.expression.Expr.TheFolds.{fold-Expr}
use Rattle.uvl_ast.specs.declared.names.Ref.{Ref}
use Rattle.uvl_ast.specs.Nodes.{nodes_of}

-- `&`, `|`, `=>` and `<=>` join truths, and the other operators numbers
abbrev pub joins_truths : BinOp → Bool
joins_truths op.And = true
joins_truths op.Or = true
joins_truths op.Implies = true
joins_truths op.Iff = true
joins_truths _ = false

-- the references in Boolean positions, in the text's order; the truth says whether the expression itself stands in one
abbrev pub references_at : Expr-F (Bool → List Ref) → Bool → List Ref
references_at (Expr-F.Name reference) boolean = if boolean then reference ∷ [] else []
references_at (Expr-F.Not operand place) boolean = operand true
references_at (Expr-F.Binary operator left right place) boolean =
    left (joins_truths operator) ++ right (joins_truths operator)
references_at _ boolean = []

abbrev pub references_in : Expr → Bool → List Ref
references_in = fold-Expr (Bool → List Ref) references_at

-- The references of a rule in Boolean positions: in the position of the rule, or of an operand of `!` or of an operator
-- that joins truths.
abbrev pub references_of : Expr → List Ref
references_of rule = references_in rule true

-- a literal, a sum, arithmetic or a comparison
abbrev pub speaks_of_numbers : Expr-F Bool → Bool
speaks_of_numbers (Expr-F.Number value place) = true
speaks_of_numbers (Expr-F.Name reference) = false
speaks_of_numbers (Expr-F.Sum name place) = true
speaks_of_numbers (Expr-F.Not operand place) = operand
speaks_of_numbers (Expr-F.Binary operator left right place) = not (joins_truths operator) || left || right

-- whether one stands in a rule
abbrev pub has_numbers : Expr → Bool
has_numbers = fold-Expr Bool speaks_of_numbers

-- where a node stands, whatever stands for its operands
abbrev pub place_of_node : Expr-F Place → Place
place_of_node (Expr-F.Number value place) = place
place_of_node (Expr-F.Name reference) = reference.place
place_of_node (Expr-F.Sum name place) = place
place_of_node (Expr-F.Not operand place) = place
place_of_node (Expr-F.Binary operator left right place) = place

-- where the outermost node of a rule stands
abbrev pub place_of : Expr → Place
place_of = fold-Expr Place place_of_node

-- how many nodes rules have together
abbrev pub nodes_in : List Expr → ℕ
nodes_in [] = 0
nodes_in (rule ∷ rules) = nodes_of rule + nodes_in rules
