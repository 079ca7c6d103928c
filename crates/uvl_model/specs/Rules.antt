-- The rules that a model may have.
use Rattle.std.specs.Prelude.{ℕ, ◌+◌, ◌*◌, ◌<◌, ◌≤◌, max, ℤ, pos, ◌-ℤ◌, int_lt, Bool, true, false, not, ◌&&◌, ◌||◌}
use Rattle.std.specs.Prelude.{List, [], ◌∷◌, ◌++◌, map, length, sum, IsTrue, IsSome}
use Rattle.std.specs.List.{All}
use Rattle.uvl_base.specs.Limits.{most_features, most_rule_nodes, most_right_operands}
use Rattle.uvl_model.specs.declared.rows.FeatureNo.{FeatureNo}
use Rattle.uvl_model.specs.declared.rule.Number.{Number}
use Rattle.uvl_model.specs.declared.rule.Number.TheOpen.{Number-F}
use Rattle.uvl_model.specs.declared.rule.Number.TheFolds.{fold-Number}
use Rattle.uvl_model.specs.declared.rule.Rule.{Rule}
use Rattle.uvl_model.specs.declared.rule.Rule.TheOpen.{Rule-F}
use Rattle.uvl_model.specs.declared.rule.Rule.TheFolds.{fold-Rule}
use Rattle.uvl_model.specs.Heads.{heads_below_rows, heads_of_rows}
use Rattle.uvl_model.specs.Names.{feature_names, name_of}
use Rattle.uvl_model.specs.Rows.{Rows}
use Rattle.uvl_semantics.specs.Attributes.{number_among}

-- what a number reads of a feature: the number that it has under a key
pub record Read : Type 0 where
  pub feature : FeatureNo
  pub key : List ℕ

-- the feature is there
abbrev pub IsThere : Rows → FeatureNo → Type 0
IsThere rows f = f.0 < length rows.features

-- the feature is there, and has a number under the key
pub record IsRead (rows : Rows) (read : Read) : Type 0 where
  pub feature : IsThere rows read.feature
  pub number : IsSome (number_among (heads_of_rows rows).all (name_of (feature_names rows) read.feature) read.key)

-- what a node of a number reads, where a list stands for each operand
abbrev pub reads_node : Number-F (List Read) → List Read
reads_node (Number-F.Literal millionths) = []
reads_node (Number-F.Attr f key) = record { feature = f; key = key } ∷ []
reads_node (Number-F.Sum top key) = []
reads_node (Number-F.Plus left right) = left ++ right
reads_node (Number-F.Minus left right) = left ++ right
reads_node (Number-F.Times left right) = left ++ right

-- the attributes that a number names
abbrev pub reads_of : Number → List Read
reads_of = fold-Number (List Read) reads_node

-- the tops of the sums at a node, where a list stands for each operand
abbrev pub tops_node : Number-F (List FeatureNo) → List FeatureNo
tops_node (Number-F.Literal millionths) = []
tops_node (Number-F.Attr f key) = []
tops_node (Number-F.Sum top key) = top ∷ []
tops_node (Number-F.Plus left right) = left ++ right
tops_node (Number-F.Minus left right) = left ++ right
tops_node (Number-F.Times left right) = left ++ right

-- the features that the sums of a number range over with all below them
abbrev pub tops_of : Number → List FeatureNo
tops_of = fold-Number (List FeatureNo) tops_node

-- a number as products see it
pub record Factor : Type 0 where
  -- each product in it is one that a model may have
  pub is_linear : Bool
  -- there is a product in it
  pub has_product : Bool
  -- it is a literal below 1,000,000 in size
  pub is_small_literal : Bool

-- a number that is no product and has the operands' products
abbrev pub joined_factors : Factor → Factor → Factor
joined_factors left right =
    record {
      is_linear = left.is_linear && right.is_linear;
      has_product = left.has_product || right.has_product;
      is_small_literal = false;
    }

-- fewer than 1,000,000, told in millionths
abbrev pub is_small : ℤ → Bool
is_small millionths = int_lt (pos 0 -ℤ pos 1000000000000) millionths && int_lt millionths (pos 1000000000000)

-- a number without products
abbrev pub plain_factor : Bool → Factor
plain_factor small = record { is_linear = true; has_product = false; is_small_literal = small }

-- a node of a number as products see it: of a product neither side has a product, and one is a small literal
abbrev pub factor_node : Number-F Factor → Factor
factor_node (Number-F.Literal millionths) = plain_factor (is_small millionths)
factor_node (Number-F.Attr f key) = plain_factor false
factor_node (Number-F.Sum top key) = plain_factor false
factor_node (Number-F.Plus left right) = joined_factors left right
factor_node (Number-F.Minus left right) = joined_factors left right
factor_node (Number-F.Times left right) =
    record {
      is_linear = not (left.has_product || right.has_product) && (left.is_small_literal || right.is_small_literal);
      has_product = true;
      is_small_literal = false;
    }

-- each product in a number is of a literal below 1,000,000 in size and of a number without products
abbrev pub is_linear : Number → Bool
is_linear number = (fold-Number Factor factor_node number).is_linear

-- a node of a number and those of its operands, where their number stands for each
abbrev pub number_node : Number-F ℕ → ℕ
number_node (Number-F.Literal millionths) = 1
number_node (Number-F.Attr f key) = 1
number_node (Number-F.Sum top key) = 1
number_node (Number-F.Plus left right) = 1 + left + right
number_node (Number-F.Minus left right) = 1 + left + right
number_node (Number-F.Times left right) = 1 + left + right

-- how many nodes a number has
abbrev pub number_nodes_of : Number → ℕ
number_nodes_of = fold-Number ℕ number_node

-- the features whose selection a node of a rule names, where a list stands for each operand
abbrev pub features_node : Rule-F (List FeatureNo) → List FeatureNo
features_node (Rule-F.Feature f) = f ∷ []
features_node (Rule-F.Not operand) = operand
features_node (Rule-F.And left right) = left ++ right
features_node (Rule-F.Or left right) = left ++ right
features_node (Rule-F.Implies left right) = left ++ right
features_node (Rule-F.Iff left right) = left ++ right
features_node (Rule-F.Compare how left right) = []

-- the features whose selection a rule names
abbrev pub features_of : Rule → List FeatureNo
features_of = fold-Rule (List FeatureNo) features_node

-- the numbers that a node of a rule compares, where a list stands for each operand
abbrev pub numbers_node : Rule-F (List Number) → List Number
numbers_node (Rule-F.Feature f) = []
numbers_node (Rule-F.Not operand) = operand
numbers_node (Rule-F.And left right) = left ++ right
numbers_node (Rule-F.Or left right) = left ++ right
numbers_node (Rule-F.Implies left right) = left ++ right
numbers_node (Rule-F.Iff left right) = left ++ right
numbers_node (Rule-F.Compare how left right) = left ∷ right ∷ []

-- the numbers that a rule compares
abbrev pub numbers_of : Rule → List Number
numbers_of = fold-Rule (List Number) numbers_node

-- a node and those of its operands, where their number stands for each; a number that is compared has its own
abbrev pub nodes_node : Rule-F ℕ → ℕ
nodes_node (Rule-F.Feature f) = 1
nodes_node (Rule-F.Not operand) = 1 + operand
nodes_node (Rule-F.And left right) = 1 + left + right
nodes_node (Rule-F.Or left right) = 1 + left + right
nodes_node (Rule-F.Implies left right) = 1 + left + right
nodes_node (Rule-F.Iff left right) = 1 + left + right
nodes_node (Rule-F.Compare how left right) = 1 + number_nodes_of left + number_nodes_of right

-- how many nodes a rule has: literals, references, sums, `!` and operators are one each
abbrev pub nodes_of : Rule → ℕ
nodes_of = fold-Rule ℕ nodes_node

-- how many right operands of `&`, `|`, `=>` and `<=>` a node stands in at most, where this is told of each operand
abbrev pub operands_node : Rule-F ℕ → ℕ
operands_node (Rule-F.Feature f) = 0
operands_node (Rule-F.Not operand) = operand
operands_node (Rule-F.And left right) = max left (right + 1)
operands_node (Rule-F.Or left right) = max left (right + 1)
operands_node (Rule-F.Implies left right) = max left (right + 1)
operands_node (Rule-F.Iff left right) = max left (right + 1)
operands_node (Rule-F.Compare how left right) = 0

-- the most right operands of `&`, `|`, `=>` and `<=>` that a node of a rule stands in
abbrev pub right_operands : Rule → ℕ
right_operands = fold-Rule ℕ operands_node

-- the literals and references of a node of a number, and the features under its sum, where this is told of each operand
abbrev pub terms_node : Rows → Number-F ℕ → ℕ
terms_node rows (Number-F.Literal millionths) = 1
terms_node rows (Number-F.Attr f key) = 1
terms_node rows (Number-F.Sum top key) = length (heads_below_rows rows (name_of (feature_names rows) top))
terms_node rows (Number-F.Plus left right) = left + right
terms_node rows (Number-F.Minus left right) = left + right
terms_node rows (Number-F.Times left right) = left + right

-- how many terms a number has: its literals and references, and the features under each of its sums
abbrev pub terms_of : Rows → Number → ℕ
terms_of rows = fold-Number ℕ (terms_node rows)

-- what a number of a rule reads is there: the features, and a number under each key that it names
pub record IsNumber (rows : Rows) (number : Number) : Type 0 where
  pub tops : All (IsThere rows) (tops_of number)
  pub reads : All (IsRead rows) (reads_of number)
  pub linear : IsTrue (is_linear number)

-- A rule that a model may have: its features are there, its numbers are ones that it may have, its references, its
-- literals and the features under its sums are few, and no node stands in too many right operands.
pub record IsRule (rows : Rows) (rule : Rule) : Type 0 where
  pub features : All (IsThere rows) (features_of rule)
  pub numbers : All (IsNumber rows) (numbers_of rule)
  pub light : length (features_of rule) + sum (map (terms_of rows) (numbers_of rule)) ≤ most_features * most_rule_nodes
  pub shallow : right_operands rule ≤ most_right_operands
