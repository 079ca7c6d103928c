-- What the nodes of numbers are, name, have and count, variant by variant.
use Rattle.std.proofs.Common.{◌≡◌, ℕ, ◌+◌, Bool, List, [], ◌∷◌, ◌++◌, length, sym, ap, ◌∙◌}
use Rattle.std.specs.Prelude.{ℤ}
use Rattle.uvl_model.specs.declared.numbers.Amount.{Amount}
use Rattle.uvl_model.specs.declared.rows.FeatureNo.{FeatureNo}
use Rattle.uvl_model.specs.declared.rows.FeatureRow.{FeatureRow}
use Rattle.uvl_model.specs.declared.rule.Number.{Number}
use Rattle.uvl_model.specs.declared.rule.Number.TheFolds.{fold-Number, fold-roll-Number}
use Rattle.uvl_model.specs.declared.rule.Number.TheOpen.{Number-F}
use Rattle.uvl_model.specs.declared.rule.Number.TheVariants as number
use Rattle.uvl_model.specs.Amounts.{added, amount_node, amount_of, counted, marked_total, multiplied, number_at, rows_below, simple_amount, subtracted}
use Rattle.uvl_model.specs.Check.{is_marked}
use Rattle.uvl_model.specs.Heads.{heads_below_rows}
use Rattle.uvl_model.specs.Names.{feature_names, name_of}
use Rattle.uvl_model.specs.Rows.{Rows}
use Rattle.uvl_model.specs.Rules.{Factor, Read, factor_node, number_node, number_nodes_of, reads_node, reads_of, terms_node, terms_of, tops_node, tops_of}

-- how products see a number
abbrev pub factor_of : Number → Factor
factor_of = fold-Number Factor factor_node

pub amount-Literal : (rows : List FeatureRow) (marks : List Bool) (m : ℤ) → amount_of rows marks (number.Literal m) ≡ simple_amount m
amount-Literal rows marks m = ap (amount_of rows marks) (sym (number.rolls-Literal m)) ∙ fold-roll-Number Amount (amount_node rows marks) (Number-F.Literal m)

pub amount-Attr : (rows : List FeatureRow) (marks : List Bool) (f : FeatureNo) (key : List ℕ) → amount_of rows marks (number.Attr f key) ≡ simple_amount (counted (is_marked marks f) (number_at rows f key))
amount-Attr rows marks f key = ap (amount_of rows marks) (sym (number.rolls-Attr f key)) ∙ fold-roll-Number Amount (amount_node rows marks) (Number-F.Attr f key)

pub amount-Sum : (rows : List FeatureRow) (marks : List Bool) (top : FeatureNo) (key : List ℕ) → amount_of rows marks (number.Sum top key) ≡ simple_amount (marked_total key marks top.0 (rows_below rows top))
amount-Sum rows marks top key = ap (amount_of rows marks) (sym (number.rolls-Sum top key)) ∙ fold-roll-Number Amount (amount_node rows marks) (Number-F.Sum top key)

pub amount-Plus : (rows : List FeatureRow) (marks : List Bool) (left right : Number) → amount_of rows marks (number.Plus left right) ≡ added (amount_of rows marks left) (amount_of rows marks right)
amount-Plus rows marks left right = ap (amount_of rows marks) (sym (number.rolls-Plus left right)) ∙ fold-roll-Number Amount (amount_node rows marks) (Number-F.Plus left right)

pub amount-Minus : (rows : List FeatureRow) (marks : List Bool) (left right : Number) → amount_of rows marks (number.Minus left right) ≡ subtracted (amount_of rows marks left) (amount_of rows marks right)
amount-Minus rows marks left right = ap (amount_of rows marks) (sym (number.rolls-Minus left right)) ∙ fold-roll-Number Amount (amount_node rows marks) (Number-F.Minus left right)

pub amount-Times : (rows : List FeatureRow) (marks : List Bool) (left right : Number) → amount_of rows marks (number.Times left right) ≡ multiplied (amount_of rows marks left) (amount_of rows marks right)
amount-Times rows marks left right = ap (amount_of rows marks) (sym (number.rolls-Times left right)) ∙ fold-roll-Number Amount (amount_node rows marks) (Number-F.Times left right)

pub terms-Literal : (rows : Rows) (m : ℤ) → terms_of rows (number.Literal m) ≡ 1
terms-Literal rows m = ap (terms_of rows) (sym (number.rolls-Literal m)) ∙ fold-roll-Number ℕ (terms_node rows) (Number-F.Literal m)

pub terms-Attr : (rows : Rows) (f : FeatureNo) (key : List ℕ) → terms_of rows (number.Attr f key) ≡ 1
terms-Attr rows f key = ap (terms_of rows) (sym (number.rolls-Attr f key)) ∙ fold-roll-Number ℕ (terms_node rows) (Number-F.Attr f key)

pub terms-Sum : (rows : Rows) (top : FeatureNo) (key : List ℕ) → terms_of rows (number.Sum top key) ≡ length (heads_below_rows rows (name_of (feature_names rows) top))
terms-Sum rows top key = ap (terms_of rows) (sym (number.rolls-Sum top key)) ∙ fold-roll-Number ℕ (terms_node rows) (Number-F.Sum top key)

pub terms-Plus : (rows : Rows) (left right : Number) → terms_of rows (number.Plus left right) ≡ terms_of rows left + terms_of rows right
terms-Plus rows left right = ap (terms_of rows) (sym (number.rolls-Plus left right)) ∙ fold-roll-Number ℕ (terms_node rows) (Number-F.Plus left right)

pub terms-Minus : (rows : Rows) (left right : Number) → terms_of rows (number.Minus left right) ≡ terms_of rows left + terms_of rows right
terms-Minus rows left right = ap (terms_of rows) (sym (number.rolls-Minus left right)) ∙ fold-roll-Number ℕ (terms_node rows) (Number-F.Minus left right)

pub terms-Times : (rows : Rows) (left right : Number) → terms_of rows (number.Times left right) ≡ terms_of rows left + terms_of rows right
terms-Times rows left right = ap (terms_of rows) (sym (number.rolls-Times left right)) ∙ fold-roll-Number ℕ (terms_node rows) (Number-F.Times left right)

pub tops-Sum : (top : FeatureNo) (key : List ℕ) → tops_of (number.Sum top key) ≡ top ∷ []
tops-Sum top key = ap (tops_of) (sym (number.rolls-Sum top key)) ∙ fold-roll-Number (List FeatureNo) (tops_node) (Number-F.Sum top key)

pub tops-Plus : (left right : Number) → tops_of (number.Plus left right) ≡ tops_of left ++ tops_of right
tops-Plus left right = ap (tops_of) (sym (number.rolls-Plus left right)) ∙ fold-roll-Number (List FeatureNo) (tops_node) (Number-F.Plus left right)

pub tops-Minus : (left right : Number) → tops_of (number.Minus left right) ≡ tops_of left ++ tops_of right
tops-Minus left right = ap (tops_of) (sym (number.rolls-Minus left right)) ∙ fold-roll-Number (List FeatureNo) (tops_node) (Number-F.Minus left right)

pub tops-Times : (left right : Number) → tops_of (number.Times left right) ≡ tops_of left ++ tops_of right
tops-Times left right = ap (tops_of) (sym (number.rolls-Times left right)) ∙ fold-roll-Number (List FeatureNo) (tops_node) (Number-F.Times left right)

pub reads-Plus : (left right : Number) → reads_of (number.Plus left right) ≡ reads_of left ++ reads_of right
reads-Plus left right = ap (reads_of) (sym (number.rolls-Plus left right)) ∙ fold-roll-Number (List Read) (reads_node) (Number-F.Plus left right)

pub reads-Minus : (left right : Number) → reads_of (number.Minus left right) ≡ reads_of left ++ reads_of right
reads-Minus left right = ap (reads_of) (sym (number.rolls-Minus left right)) ∙ fold-roll-Number (List Read) (reads_node) (Number-F.Minus left right)

pub reads-Times : (left right : Number) → reads_of (number.Times left right) ≡ reads_of left ++ reads_of right
reads-Times left right = ap (reads_of) (sym (number.rolls-Times left right)) ∙ fold-roll-Number (List Read) (reads_node) (Number-F.Times left right)

pub factor-Plus : (left right : Number) → factor_of (number.Plus left right) ≡ factor_node (Number-F.Plus (factor_of left) (factor_of right))
factor-Plus left right = ap (factor_of) (sym (number.rolls-Plus left right)) ∙ fold-roll-Number Factor (factor_node) (Number-F.Plus left right)

pub factor-Minus : (left right : Number) → factor_of (number.Minus left right) ≡ factor_node (Number-F.Minus (factor_of left) (factor_of right))
factor-Minus left right = ap (factor_of) (sym (number.rolls-Minus left right)) ∙ fold-roll-Number Factor (factor_node) (Number-F.Minus left right)

pub factor-Times : (left right : Number) → factor_of (number.Times left right) ≡ factor_node (Number-F.Times (factor_of left) (factor_of right))
factor-Times left right = ap (factor_of) (sym (number.rolls-Times left right)) ∙ fold-roll-Number Factor (factor_node) (Number-F.Times left right)

pub nodes-Plus : (left right : Number) → number_nodes_of (number.Plus left right) ≡ 1 + number_nodes_of left + number_nodes_of right
nodes-Plus left right = ap (number_nodes_of) (sym (number.rolls-Plus left right)) ∙ fold-roll-Number ℕ (number_node) (Number-F.Plus left right)

pub nodes-Minus : (left right : Number) → number_nodes_of (number.Minus left right) ≡ 1 + number_nodes_of left + number_nodes_of right
nodes-Minus left right = ap (number_nodes_of) (sym (number.rolls-Minus left right)) ∙ fold-roll-Number ℕ (number_node) (Number-F.Minus left right)

pub nodes-Times : (left right : Number) → number_nodes_of (number.Times left right) ≡ 1 + number_nodes_of left + number_nodes_of right
nodes-Times left right = ap (number_nodes_of) (sym (number.rolls-Times left right)) ∙ fold-roll-Number ℕ (number_node) (Number-F.Times left right)
