-- What holds of the products and the rows of all trees.
use Rattle.std.specs.Prelude.{◌≡◌, ◌≤◌, ℕ, Bool, List, IsTrue, map}
use Rattle.std.specs.List.{All}
use Rattle.uvl_base.specs.Limits.{most_rule_nodes, most_right_operands}
use Rattle.uvl_model.specs.declared.rows.FeatureNo.{FeatureNo}
use Rattle.uvl_model.specs.declared.rule.Rule.{Rule}
use Rattle.uvl_model.specs.Amounts.{rows_are_met, rows_below}
use Rattle.uvl_model.specs.Check.{rows_hold}
use Rattle.uvl_model.specs.Comparisons.{HaveNoComparison, has_no_comparison}
use Rattle.uvl_model.specs.Constraints.{constraints_of}
use Rattle.uvl_model.specs.Heads.{head_of_row, heads_below_rows}
use Rattle.uvl_model.specs.Marks.{StandFor}
use Rattle.uvl_model.specs.Names.{feature_names, chosen_names, name_of}
use Rattle.uvl_model.specs.Products.{Products}
use Rattle.uvl_model.specs.Rows.{Rows}
use Rattle.uvl_model.specs.Rules.{IsRule, IsThere, features_of, nodes_of, right_operands}
use Rattle.uvl_model.specs.Sound.{IsSound}
use Rattle.uvl_model.specs.Spelling.{Spells}
use Rattle.uvl_semantics.specs.Family.{IsOfSets, ProductsOf}
use Rattle.uvl_semantics.specs.Tree.{Tree, names_of}

-- the products of rows are those of each tree that the rows spell, with what their rules say
abbrev pub RowsGiveProducts : Type 0
RowsGiveProducts =
    (tree : Tree) (rows : Rows) → Spells tree rows → Products rows ≡ ProductsOf tree (constraints_of rows)

-- the names of rows are those of each tree that they spell
abbrev pub RowsGiveNames : Type 0
RowsGiveNames = (tree : Tree) (rows : Rows) → Spells tree rows → feature_names rows ≡ names_of tree

-- the products of rows are a family of sets
abbrev pub ProductsAreSets : Type 0
ProductsAreSets = (rows : Rows) → IsOfSets (Products rows)

-- the marked features of sound rows without comparisons are a product exactly where the root is marked and each group
-- and each rule holds
abbrev pub RowsCheckProducts : Type 0
RowsCheckProducts =
    (rows : Rows) (marks : List Bool) → IsSound rows → HaveNoComparison rows →
    (Products rows).contains (chosen_names rows marks) ≡ rows_hold rows marks

-- the marked features of sound rows are a product exactly where the root is marked and each group and each rule is met
abbrev pub RowsTellProducts : Type 0
RowsTellProducts =
    (rows : Rows) (marks : List Bool) → IsSound rows →
    (Products rows).contains (chosen_names rows marks) ≡ rows_are_met rows marks

-- the features from one of sound rows downwards stand in one run
abbrev pub RunsAreBelow : Type 0
RunsAreBelow =
    (rows : Rows) (top : FeatureNo) → IsSound rows → IsThere rows top →
    map head_of_row (rows_below rows.features top) ≡ heads_below_rows rows (name_of (feature_names rows) top)

-- the names that marks mark are a product where each set is one for which the marks stand
abbrev pub MarksGiveProducts : Type 0
MarksGiveProducts =
    (rows : Rows) (marks : List Bool) (set : List (List ℕ)) → IsSound rows →
    StandFor (Products rows).names marks set →
    (Products rows).contains (chosen_names rows marks) ≡ (Products rows).contains set

-- A rule without comparisons may be in a model where its features are there, its nodes are no more than a rule may have,
-- and none stands in too many right operands.
abbrev pub SmallRulesMayBe : Type 0
SmallRulesMayBe =
    (rows : Rows) (rule : Rule) → IsTrue (has_no_comparison rule) → All (IsThere rows) (features_of rule) →
    nodes_of rule ≤ most_rule_nodes → right_operands rule ≤ most_right_operands → IsRule rows rule
