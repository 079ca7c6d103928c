-- Comparisons of numbers as functions of the variables, and their sums.
use Rattle.std.specs.Prelude.{◌+◌, ◌≤◌, ℤ, pos, ◌-ℤ◌, ◌&&◌, int_le, List, [], ◌∷◌, ◌++◌, if◌then◌else◌}
use Rattle.dd_store.specs.declared.row.Var.{Var}
use Rattle.dd_store.specs.Size.{Function}
use Rattle.uvl_functions.specs.Variables.{marks_under}
use Rattle.uvl_model.specs.declared.rows.FeatureRow.{FeatureRow}
use Rattle.uvl_model.specs.declared.rule.Number.{Number}
use Rattle.uvl_model.specs.Amounts.{amount_of, most_terms}
use Rattle.uvl_model.specs.Rows.{Rows}
use Rattle.uvl_model.specs.Rules.{IsNumber, terms_of}
use Rattle.uvl_sums.specs.declared.linear.Cmp3.{Cmp3}
use Rattle.uvl_sums.specs.Sums.{Term}
use Rattle.uvl_sums.specs.Sums as sums

-- the first number without the second one compares so with 0
abbrev pub difference_function : List Var → List FeatureRow → Cmp3 → Number → Number → Function
difference_function vars rows how first second a =
    sums.compares how
    ((amount_of rows (marks_under vars a) first).value -ℤ (amount_of rows (marks_under vars a) second).value)

-- two numbers that a rule may compare
pub record AreSides (rows : Rows) (left right : Number) : Type 0 where
  pub left_is : IsNumber rows left
  pub right_is : IsNumber rows right
  pub few : terms_of rows left + terms_of rows right ≤ most_terms

-- the term of a variable, unless its weight is 0
abbrev pub term_of : Var → ℤ → List Term
term_of v weight = if int_le weight (pos 0) && int_le (pos 0) weight then [] else (v, weight) ∷ []

-- the terms of variables and their weights, without those whose weight is 0
abbrev pub weighed : List Var → List ℤ → List Term
weighed [] weights = []
weighed (v ∷ vs) [] = []
weighed (v ∷ vs) (weight ∷ weights) = term_of v weight ++ weighed vs weights
