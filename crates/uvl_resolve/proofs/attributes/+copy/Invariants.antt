-- The copy is what stands in front in the list.
use Rattle.std.proofs.Common.{◌≡◌, take}
use Rattle.uvl_resolve.proofs.attributes.+copy.Given as goal

abbrev pub invariant-copy_of-loop-attribute : goal.invariant-copy_of-loop-attribute
invariant-copy_of-loop-attribute l = l.copy ≡ take l.attribute-index l.attributes

abbrev pub invariant-copy_of_values-loop-value : goal.invariant-copy_of_values-loop-value
invariant-copy_of_values-loop-value l = l.copy ≡ take l.value-index l.values
