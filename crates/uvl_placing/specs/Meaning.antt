-- What a rule of a file says, by the names that its features have in the file (UVL).
use Rattle.std.specs.Prelude.{ℕ, List, [], ◌∷◌, Option, Some, None}
use Rattle.std.specs.Option.{option_map}
use Rattle.uvl_ast.specs.declared.expression.BinOp.{BinOp}
use Rattle.uvl_ast.specs.declared.expression.BinOp.TheVariants as op
use Rattle.uvl_ast.specs.declared.expression.Expr.{Expr}
use Rattle.uvl_ast.specs.declared.expression.Expr.TheOpen.{Expr-F}
use Rattle.uvl_ast.specs.declared.expression.Expr.TheFolds.{fold-Expr}
use Rattle.uvl_semantics.specs.Constraint.{Quantity, literal, attribute, total, plus, minus, times}
use Rattle.uvl_semantics.specs.Constraint.{Comparison, equal, differs, less, at_most, greater, at_least}
use Rattle.uvl_semantics.specs.Constraint.{Constraint, selected, negation, conjunction, disjunction, implication}
use Rattle.uvl_semantics.specs.Constraint.{equivalence, comparison}
use Rattle.uvl_placing.specs.Names.{dotted, front_of, last_of}
use Rattle.uvl_placing.specs.Options.{of_both}

-- what an expression says in a Boolean position and in a number position, where it may stand there
pub record Meaning : Type 0 where
  pub truth : Option Constraint
  pub number : Option Quantity

-- what is a truth and no number, and the other way round
abbrev pub a_truth : Option Constraint → Meaning
a_truth constraint = record { truth = constraint; number = None }

abbrev pub a_number : Option Quantity → Meaning
a_number quantity = record { truth = None; number = quantity }

-- in a number position the last name is the attribute, and those in front of it are the feature
abbrev pub attribute_named : List (List ℕ) → Option Quantity
attribute_named [] = None
attribute_named (name ∷ []) = None
attribute_named (name ∷ next ∷ names) =
    Some (attribute (dotted (front_of (name ∷ next ∷ names))) (last_of (next ∷ names)))

-- an operator that joins truths, that compares numbers, that makes a number of two
abbrev pub joins : (Constraint → Constraint → Constraint) → Meaning → Meaning → Meaning
joins make left right = a_truth (of_both make left.truth right.truth)

abbrev pub compares : Comparison → Meaning → Meaning → Meaning
compares how left right = a_truth (of_both (comparison how) left.number right.number)

abbrev pub reckons : (Quantity → Quantity → Quantity) → Meaning → Meaning → Meaning
reckons make left right = a_number (of_both make left.number right.number)

-- what an operator says of its operands
abbrev pub of_operator : BinOp → Meaning → Meaning → Meaning
of_operator op.And = joins conjunction
of_operator op.Or = joins disjunction
of_operator op.Implies = joins implication
of_operator op.Iff = joins equivalence
of_operator op.Equal = compares equal
of_operator op.Differs = compares differs
of_operator op.Less = compares less
of_operator op.AtMost = compares at_most
of_operator op.Greater = compares greater
of_operator op.AtLeast = compares at_least
of_operator op.Plus = reckons plus
of_operator op.Minus = reckons minus
of_operator op.Times = reckons times

-- What an expression says in a file whose root has this name, where a meaning stands for each operand. A reference is
-- read by its position, and a sum is the total over the root and all below it.
abbrev pub meaning_with : List ℕ → Expr-F Meaning → Meaning
meaning_with root (Expr-F.Number value place) = a_number (Some (literal value))
meaning_with root (Expr-F.Name name) =
    record { truth = Some (selected (dotted name.parts)); number = attribute_named name.parts }
meaning_with root (Expr-F.Sum key place) = a_number (Some (total root key))
meaning_with root (Expr-F.Not operand place) = a_truth (option_map negation operand.truth)
meaning_with root (Expr-F.Binary operator left right place) = of_operator operator left right

-- what an expression says
abbrev pub meaning_of : List ℕ → Expr → Meaning
meaning_of root = fold-Expr Meaning (meaning_with root)

-- the constraint that a rule is; there is none where a number stands for a truth, or a truth for a number
abbrev pub constraint_of : List ℕ → Expr → Option Constraint
constraint_of root rule = (meaning_of root rule).truth
