-- Constraints over features by their full names: what a rule of a model says (UVL; cross-tree constraints in Benavides,
-- Segura and Ruiz-Cortés 2010).
use Rattle.std.specs.Prelude.{ℕ, List, ℤ}

-- what is a number: a literal in millionths, an attribute of a feature, the total of an attribute over a feature and all
-- below it, and what arithmetic makes of these
pub data Quantity : Type 0 where
  literal : (millionths : ℤ) → Quantity
  attribute : (feature key : List ℕ) → Quantity
  total : (top key : List ℕ) → Quantity
  plus minus times : (left right : Quantity) → Quantity

-- how two numbers are compared: `==`, `!=`, `<`, `<=`, `>`, `>=`
pub data Comparison : Type 0 where
  equal differs less at_most greater at_least : Comparison

-- what holds of a set of features or doesn't: a feature is selected, `!`, `&`, `|`, `=>`, `<=>`, a comparison
pub data Constraint : Type 0 where
  selected : (feature : List ℕ) → Constraint
  negation : (operand : Constraint) → Constraint
  conjunction disjunction implication equivalence : (left right : Constraint) → Constraint
  comparison : (how : Comparison) (left right : Quantity) → Constraint
