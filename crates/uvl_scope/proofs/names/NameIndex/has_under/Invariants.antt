-- None of the names in front is one under the qualifier.
use Rattle.std.proofs.Common.{◌≡◌, drop, map}
use Rattle.std.specs.Prelude.{chars}
use Rattle.std.specs.List.{list_any}
use Rattle.uvl_semantics.specs.Prefix.{prefixed_name}
use Rattle.uvl_semantics.specs.Product.{has}
use Rattle.uvl_scope.proofs.names.NameIndex.has_under.Given as goal

abbrev pub invariant-loop-number : goal.invariant-loop-number
invariant-loop-number l =
    list_any (has (map (prefixed_name (chars l.qualifier)) l.names)) (drop l.number l.self)
    ≡ list_any (has (map (prefixed_name (chars l.qualifier)) l.names)) l.self
