-- The keys in front are those in the index, and none of them is repeated.
use Rattle.std.proofs.Common.{◌≡◌, drop, take, map}
use Rattle.uvl_scope.specs.Firsts.{first_of}
use Rattle.uvl_scope.specs.Keys.{repeated_in}
use Rattle.uvl_scope.proofs.Repeats.{KeysGoOn}
use Rattle.uvl_scope.proofs.keys.+keys.Given as goal

abbrev pub invariant-repeated_among-loop-value : goal.invariant-repeated_among-loop-value
invariant-repeated_among-loop-value l = first_of (map repeated_in (drop l.value-index l.values)) ≡ first_of (map repeated_in l.values)

abbrev pub invariant-repeated_key-loop-number : goal.invariant-repeated_key-loop-number
invariant-repeated_key-loop-number l = KeysGoOn l.attributes (take l.number l.attributes) (drop l.number l.attributes) l.index
