-- What numbers of rules are under a mark for each feature, and whether rules with numbers hold then. Numbers are in
-- millionths, and a product of two in units of 10^-12; both are exact.
use Rattle.std.specs.Prelude.{ℕ, ◌+◌, ◌*◌, ◌^◌, ◌≤◌, nat_lt, ℤ, pos, ◌+ℤ◌, ◌-ℤ◌, ◌*ℤ◌, ◌≤ℤ◌}
use Rattle.std.specs.Prelude.{Bool, true, not, ◌&&◌, ◌||◌, if◌then◌else◌}
use Rattle.std.specs.Prelude.{List, [], ◌∷◌, drop, slice_get, unwrap_or, map, sum}
use Rattle.std.specs.Bool.{beq}
use Rattle.std.specs.List.{All, list_all, before_first}
use Rattle.std.specs.Option.{option_map}
use Rattle.uvl_base.specs.Limits.{most_features, most_rule_nodes}
use Rattle.uvl_model.specs.declared.numbers.Amount.{Amount}
use Rattle.uvl_model.specs.declared.rows.FeatureNo.{FeatureNo}
use Rattle.uvl_model.specs.declared.rows.FeatureRow.{FeatureRow}
use Rattle.uvl_model.specs.declared.rule.Number.{Number}
use Rattle.uvl_model.specs.declared.rule.Number.TheOpen.{Number-F}
use Rattle.uvl_model.specs.declared.rule.Number.TheFolds.{fold-Number}
use Rattle.uvl_model.specs.declared.rule.Rule.{Rule}
use Rattle.uvl_model.specs.declared.rule.Rule.TheOpen.{Rule-F}
use Rattle.uvl_model.specs.declared.rule.Rule.TheFolds.{fold-Rule}
use Rattle.uvl_model.specs.Check.{is_marked, groups_hold}
use Rattle.uvl_model.specs.Constraints.{comparison_of}
use Rattle.uvl_model.specs.Rows.{Rows}
use Rattle.uvl_model.specs.Rules.{IsNumber, numbers_of, terms_of}
use Rattle.uvl_model.specs.Spelling.{numbered}
use Rattle.uvl_semantics.specs.Attributes.{number_of_key}
use Rattle.uvl_semantics.specs.Holding.{compares}

-- the number that the feature of a row has under a key, and 0 where it has none
abbrev pub number_of_row : List ℕ → FeatureRow → ℤ
number_of_row key row = unwrap_or (number_of_key key row.attributes) (pos 0)

-- the number that the feature with a number has under a key, and 0 where it has none or isn't there
abbrev pub number_at : List FeatureRow → FeatureNo → List ℕ → ℤ
number_at rows f key = unwrap_or (option_map (number_of_row key) (slice_get rows f.0)) (pos 0)

-- a number where something is marked, and else 0
abbrev pub counted : Bool → ℤ → ℤ
counted mark number = if mark then number else pos 0

-- the total of the numbers that the marked ones of some rows have under a key, the first of which has number n
abbrev pub marked_total : List ℕ → List Bool → ℕ → List FeatureRow → ℤ
marked_total key marks n [] = pos 0
marked_total key marks n (row ∷ rows) =
    counted (is_marked marks (numbered n)) (number_of_row key row) +ℤ marked_total key marks (n + 1) rows

-- the parent of a row's feature stands in front of `top`, or there is none
abbrev pub is_outside : FeatureNo → FeatureRow → Bool
is_outside top row = unwrap_or (option_map (λ parent. nat_lt parent.0 top.0) row.parent) true

-- a row, and those behind it up to the first that is outside
abbrev pub run_from : FeatureNo → List FeatureRow → List FeatureRow
run_from top [] = []
run_from top (row ∷ rows) = row ∷ before_first (is_outside top) rows

-- The rows of the features from `top` downwards: in document order they stand in one run.
abbrev pub rows_below : List FeatureRow → FeatureNo → List FeatureRow
rows_below rows top = run_from top (drop top.0 rows)

-- a number without a product
abbrev pub simple_amount : ℤ → Amount
simple_amount millionths = record { plain = millionths; value = millionths *ℤ pos 1000000 }

-- the sum, the difference and the product of two
abbrev pub added : Amount → Amount → Amount
added left right = record { plain = left.plain +ℤ right.plain; value = left.value +ℤ right.value }

abbrev pub subtracted : Amount → Amount → Amount
subtracted left right = record { plain = left.plain -ℤ right.plain; value = left.value -ℤ right.value }

abbrev pub multiplied : Amount → Amount → Amount
multiplied left right = record { plain = pos 0; value = left.plain *ℤ right.plain }

-- a node of a number, where what they are stands for the operands
abbrev pub amount_node : List FeatureRow → List Bool → Number-F Amount → Amount
amount_node rows marks (Number-F.Literal millionths) = simple_amount millionths
amount_node rows marks (Number-F.Attr f key) = simple_amount (counted (is_marked marks f) (number_at rows f key))
amount_node rows marks (Number-F.Sum top key) = simple_amount (marked_total key marks top.0 (rows_below rows top))
amount_node rows marks (Number-F.Plus left right) = added left right
amount_node rows marks (Number-F.Minus left right) = subtracted left right
amount_node rows marks (Number-F.Times left right) = multiplied left right

-- what a number of a rule is under the marks
abbrev pub amount_of : List FeatureRow → List Bool → Number → Amount
amount_of rows marks = fold-Number Amount (amount_node rows marks)

-- a number is no more than so many in size
pub record IsWithin (most : ℕ) (number : ℤ) : Type 0 where
  pub low : (pos 0 -ℤ pos most) ≤ℤ number
  pub high : number ≤ℤ pos most

-- an amount is made of no more than so many terms, each below 10^18 millionths, and below 10^30 units with a factor
pub record IsMadeOf (terms : ℕ) (amount : Amount) : Type 0 where
  pub plain : IsWithin (terms * 10 ^ 18) amount.plain
  pub value : IsWithin (terms * 10 ^ 30) amount.value

-- the most references, literals and features under sums that a rule of a model has
abbrev pub most_terms : ℕ
most_terms = most_features * most_rule_nodes

-- a node of a rule, where a truth stands for each operand
abbrev pub met_node : List FeatureRow → List Bool → Rule-F Bool → Bool
met_node rows marks (Rule-F.Feature f) = is_marked marks f
met_node rows marks (Rule-F.Not operand) = not operand
met_node rows marks (Rule-F.And left right) = left && right
met_node rows marks (Rule-F.Or left right) = left || right
met_node rows marks (Rule-F.Implies left right) = not left || right
met_node rows marks (Rule-F.Iff left right) = beq left right
met_node rows marks (Rule-F.Compare how left right) =
    compares (comparison_of how) (amount_of rows marks left).value (amount_of rows marks right).value

-- whether a rule holds under the marks
abbrev pub rule_is_met : List FeatureRow → List Bool → Rule → Bool
rule_is_met rows marks = fold-Rule Bool (met_node rows marks)

-- the root is marked, and each group and each rule holds
abbrev pub rows_are_met : Rows → List Bool → Bool
rows_are_met rows marks = groups_hold rows marks && list_all (rule_is_met rows.features marks) rows.rules

-- the numbers of a rule are ones that a model may have, and made of few terms
pub record IsReadable (rows : Rows) (rule : Rule) : Type 0 where
  pub numbers : All (IsNumber rows) (numbers_of rule)
  pub few : sum (map (terms_of rows) (numbers_of rule)) ≤ most_terms
