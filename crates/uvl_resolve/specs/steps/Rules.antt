-- What the reading of a rule makes, node by node, and what made rules say.
use Rattle.std.specs.Prelude.{◌≡◌, ℕ, ◌+◌, ◌≤◌, List, [], ◌∷◌, ◌++◌, map, length, Option, Some, None, position, slice_get}
use Rattle.std.specs.List.{All}
use Rattle.std.specs.Option.{option_map}
use Rattle.std.specs.Str.{bytes_eq}
use Rattle.uvl_ast.specs.declared.expression.BinOp.{BinOp}
use Rattle.uvl_ast.specs.declared.expression.BinOp.TheVariants as op
use Rattle.uvl_ast.specs.declared.expression.Expr.{Expr}
use Rattle.uvl_ast.specs.declared.expression.Expr.TheVariants as expr
use Rattle.uvl_ast.specs.declared.feature.Attribute.{Attribute}
use Rattle.uvl_base.specs.declared.place.Place.{Place}
use Rattle.uvl_ast.specs.declared.expression.Expr.TheOpen.{Expr-F}
use Rattle.uvl_ast.specs.declared.expression.Expr.TheFolds.{fold-Expr}
use Rattle.uvl_ast.specs.Nodes.{nodes_of}
use Rattle.uvl_ast.specs.Operands.{right_operands}
use Rattle.uvl_base.specs.Limits.{most_features, most_rule_nodes, most_right_operands}
use Rattle.uvl_imports.specs.Texts.{AreDistinct}
use Rattle.uvl_model.specs.declared.rule.Cmp.{Cmp}
use Rattle.uvl_model.specs.declared.rule.Cmp.TheVariants as cmp
use Rattle.uvl_model.specs.declared.rule.Number.{Number}
use Rattle.uvl_model.specs.declared.rule.Number.TheVariants as number
use Rattle.uvl_model.specs.declared.rule.Rule.{Rule}
use Rattle.uvl_model.specs.declared.rule.Rule.TheVariants as rule
use Rattle.uvl_model.specs.Constraints.{constraint_of}
use Rattle.uvl_model.specs.Heads.{head_of_row}
use Rattle.uvl_model.specs.Rows.{Rows}
use Rattle.uvl_model.specs.Rules.{IsRule}
use Rattle.uvl_model.specs.Spelling.{numbered}
use Rattle.uvl_placing.specs.Constraints.{constraints_of_rules}
use Rattle.uvl_placing.specs.Names.{dotted, front_of, last_of}
use Rattle.uvl_placing.specs.Options.{of_both}
use Rattle.uvl_resolve.specs.Under.{constraint_under, head_under}
use Rattle.uvl_resolve.specs.declared.number.PendingNumber.{PendingNumber}
use Rattle.uvl_resolve.specs.declared.rule.Pending.{Pending}
use Rattle.uvl_scope.specs.declared.scope.Scope.{Scope}
use Rattle.uvl_scope.specs.NumberFaults.{fault_inside}
use Rattle.uvl_semantics.specs.Constraint.{Constraint}
use Rattle.uvl_semantics.specs.Tree.{Head}

-- what an expression makes where a truth is needed, and where a number is
pub record Made : Type 0 where
  pub truth : Option Rule
  pub number : Option Number

-- what is made of two things that may not be there
abbrev pub of_two : {A B : Type 0} → (A → A → Option B) → Option A → Option A → Option B
of_two make None right = None
of_two make (Some left) None = None
of_two make (Some left) (Some right) = make left right

-- the rule that an operator makes of two; those that compare and reckon make none
abbrev pub joined_by : BinOp → Rule → Rule → Option Rule
joined_by op.And left right = Some (rule.And left right)
joined_by op.Or left right = Some (rule.Or left right)
joined_by op.Implies left right = Some (rule.Implies left right)
joined_by op.Iff left right = Some (rule.Iff left right)
joined_by _ left right = None

-- the same of rules that may not be there
abbrev pub joined : BinOp → Option Rule → Option Rule → Option Rule
joined operator left right = of_two (joined_by operator) left right

-- the number that an operator makes of two; those that compare and join truths make none
abbrev pub reckoned_by : BinOp → Number → Number → Option Number
reckoned_by op.Plus left right = Some (number.Plus left right)
reckoned_by op.Minus left right = Some (number.Minus left right)
reckoned_by op.Times left right = Some (number.Times left right)
reckoned_by _ left right = None

-- the same of numbers that may not be there
abbrev pub reckoned : BinOp → Option Number → Option Number → Option Number
reckoned operator left right = of_two (reckoned_by operator) left right

-- how an operator compares, where it does
abbrev pub comparison_by : BinOp → Option Cmp
comparison_by op.Equal = Some cmp.Equal
comparison_by op.Differs = Some cmp.Differs
comparison_by op.Less = Some cmp.Less
comparison_by op.AtMost = Some cmp.AtMost
comparison_by op.Greater = Some cmp.Greater
comparison_by op.AtLeast = Some cmp.AtLeast
comparison_by _ = None

-- the comparison of two numbers, where both are there
abbrev pub compared : Cmp → Option Number → Option Number → Option Rule
compared how left right = of_both (λ l r. rule.Compare how l r) left right

-- the rule that an operator makes of its operands: a comparison of their numbers, or what their truths make
abbrev pub truth_by : Option Cmp → BinOp → Made → Made → Option Rule
truth_by None operator left right = joined operator left.truth right.truth
truth_by (Some how) operator left right = compared how left.number right.number

-- the feature with a name, where the features with these names are numbered from the offset on
abbrev pub feature_called : List (List ℕ) → ℕ → List ℕ → Option Rule
feature_called names offset name =
    option_map (λ k. rule.Feature (numbered (offset + k))) (position (bytes_eq name) names)

-- the attribute of a feature: the last name is the key, and those in front are the feature
abbrev pub attribute_called : List (List ℕ) → ℕ → List (List ℕ) → Option Number
attribute_called names offset [] = None
attribute_called names offset (name ∷ []) = None
attribute_called names offset (name ∷ next ∷ parts) =
    option_map (λ k. number.Attr (numbered (offset + k)) (last_of (next ∷ parts)))
    (position (bytes_eq (dotted (front_of (name ∷ next ∷ parts)))) names)

-- the sum over a file's features, the first of which is its root
abbrev pub sum_of : List (List ℕ) → ℕ → List ℕ → Option Number
sum_of [] offset key = None
sum_of (root ∷ names) offset key = Some (number.Sum (numbered offset) key)

-- what a node makes, where what its operands make is known
abbrev pub made_with : List (List ℕ) → ℕ → Expr-F Made → Made
made_with names offset (Expr-F.Number value place) = record { truth = None; number = Some (number.Literal value) }
made_with names offset (Expr-F.Name reference) =
    record {
      truth = feature_called names offset (dotted reference.parts);
      number = attribute_called names offset reference.parts;
    }
made_with names offset (Expr-F.Sum key place) = record { truth = None; number = sum_of names offset key }
made_with names offset (Expr-F.Not operand place) =
    record { truth = option_map (λ r. rule.Not r) operand.truth; number = None }
made_with names offset (Expr-F.Binary operator left right place) =
    record {
      truth = truth_by (comparison_by operator) operator left right;
      number = reckoned operator left.number right.number;
    }

-- what an expression makes: its features are those with these names, numbered from the offset on
abbrev pub both_of : List (List ℕ) → ℕ → Expr → Made
both_of names offset = fold-Expr Made (made_with names offset)

-- the rule that it makes
abbrev pub made_of : List (List ℕ) → ℕ → Expr → Option Rule
made_of names offset e = (both_of names offset e).truth

-- the number that it makes
abbrev pub number_of : List (List ℕ) → ℕ → Expr → Option Number
number_of names offset e = (both_of names offset e).number

-- a left operand within operators whose right operands are made, the outermost first
abbrev pub within : List Pending → Option Rule → Option Rule
within [] inner = inner
within (outer ∷ others) inner = joined outer.operator (within others inner) (Some outer.right)

-- the same of numbers
abbrev pub within_numbers : List PendingNumber → Option Number → Option Number
within_numbers [] inner = inner
within_numbers (outer ∷ others) inner = reckoned outer.operator (within_numbers others inner) (Some outer.right)

-- something is made
abbrev pub IsMade : {A : Type 0} → Option A → Type 0
IsMade {A} made = (thing : A) × (made ≡ Some thing)

-- an expression is no operator of two operands
abbrev pub IsSingle : Expr → Type 0
IsSingle e = (operator : BinOp) (left right : Expr) (place : Place) → e ≡ expr.Binary operator left right place → ⊥

-- the names of features, and what stands in their braces
abbrev pub names_of_heads : List Head → List (List ℕ)
names_of_heads heads = map (λ head. head.name) heads

abbrev pub attributes_of_heads : List Head → List (List Attribute)
attributes_of_heads heads = map (λ head. head.attributes) heads

-- names with what stands beside them
abbrev pub heads_with : List (List ℕ) → List (List Attribute) → List Head
heads_with [] lists = []
heads_with (name ∷ names) [] = record { name = name; attributes = [] } ∷ heads_with names []
heads_with (name ∷ names) (attributes ∷ lists) =
    record { name = name; attributes = attributes } ∷ heads_with names lists

-- the features of a scope
abbrev pub heads_in : Scope → List Head
heads_in scope = heads_with scope.names scope.attributes

-- the name of the first feature, which is the root of the file
abbrev pub root_of : List Head → List ℕ
root_of [] = []
root_of (head ∷ heads) = head.name

-- nothing is wrong with an expression as a rule over these features, and it is within the limits on rules
pub record IsPlain (heads : List Head) (e : Expr) : Type 0 where
  pub no_fault : fault_inside (names_of_heads heads) (attributes_of_heads heads) e ≡ None
  pub some : 1 ≤ length heads
  pub few : nodes_of e ≤ most_rule_nodes
  pub shallow : right_operands e ≤ most_right_operands

-- the features stand among all features from the offset on, with a text in front of the name of each
abbrev pub StandAt : List Head → ℕ → List ℕ → List Head → Type 0
StandAt all offset text heads =
    (k : ℕ) (head : Head) → slice_get heads k ≡ Some head → slice_get all (offset + k) ≡ Some (head_under text head)

-- the features stand so among those of rows, which are few and have distinct names
pub record IsAmong (rows : Rows) (offset : ℕ) (text : List ℕ) (heads : List Head) : Type 0 where
  pub stand : StandAt (map head_of_row rows.features) offset text heads
  pub few : length rows.features ≤ most_features
  pub distinct : AreDistinct (names_of_heads (map head_of_row rows.features))

-- Rules are added that say these constraints, and that a model may have, wherever the features stand from the offset on
-- with a text in front.
pub record Says (heads : List Head) (offset : ℕ) (old new : List Rule) (constraints : Option (List Constraint)) :
    Type 0 where
  pub added : List Rule
  pub behind : new ≡ old ++ added
  pub said : List Constraint
  pub are : constraints ≡ Some said
  pub read : (all : List Head) (text : List ℕ) → StandAt all offset text heads
      → map (constraint_of (names_of_heads all)) added ≡ map (constraint_under text) said
  pub may_be : (rows : Rows) (text : List ℕ) → IsAmong rows offset text heads → All (IsRule rows) added

-- rules are added that say what these expressions do, in a file with these features
abbrev pub SaysRules : List Head → ℕ → List Rule → List Rule → List Expr → Type 0
SaysRules heads offset old new rules = Says heads offset old new (constraints_of_rules (root_of heads) rules)
