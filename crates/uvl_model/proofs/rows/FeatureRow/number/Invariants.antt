-- The key is none of those in front.
use Rattle.std.proofs.Common.{◌≡◌, drop}
use Rattle.uvl_semantics.specs.Attributes.{number_of_key}
use Rattle.uvl_model.proofs.rows.FeatureRow.number.Given as goal

abbrev pub invariant-loop-attribute : goal.invariant-loop-attribute
invariant-loop-attribute l = number_of_key l.key (drop l.attribute-index l.attribute-items) ≡ number_of_key l.key l.self.attributes
