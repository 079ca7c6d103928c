-- The key is none of those in front.
use Rattle.std.proofs.Common.{◌≡◌, drop}
use Rattle.uvl_semantics.specs.Attributes.{value_of_key}
use Rattle.uvl_scope.proofs.references.value_of_key.Given as goal

abbrev pub invariant-loop-attribute : goal.invariant-loop-attribute
invariant-loop-attribute l = value_of_key l.key (drop l.attribute-index l.attributes) ≡ value_of_key l.key l.attributes
