-- The key is none of those in front.
use Rattle.std.proofs.Common.{◌≡◌, drop}
use Rattle.std.specs.Prelude.{chars}
use Rattle.uvl_semantics.specs.Product.{has}
use Rattle.uvl_scope.specs.steps.Keys.{keys_of}
use Rattle.uvl_scope.proofs.keys.has_key.Given as goal

abbrev pub invariant-loop-attribute : goal.invariant-loop-attribute
invariant-loop-attribute l = has (keys_of (drop l.attribute-index l.attributes)) (chars l.key) ≡ has (keys_of l.attributes) (chars l.key)
