-- A flat model as contracts see it: the rows of its features and of its groups, and its rules.
use Rattle.std.specs.Prelude.{List}
use Rattle.uvl_model.specs.declared.rows.FeatureRow.{FeatureRow}
use Rattle.uvl_model.specs.declared.rows.GroupRow.{GroupRow}
use Rattle.uvl_model.specs.declared.rule.Rule.{Rule}

-- the features by number, the groups as the walk of the tree meets them, and the rules in their order
pub record Rows : Type 0 where
  pub features : List FeatureRow
  pub groups : List GroupRow
  pub rules : List Rule
