-- The names in front are added, and none of them was there.
use Rattle.std.specs.Prelude.{chars}
use Rattle.uvl_scope.proofs.NamesUnder.{UnderGoOn}
use Rattle.uvl_scope.proofs.names.NameIndex.add_under.Given as goal

abbrev pub invariant-loop-number : goal.invariant-loop-number
invariant-loop-number l = UnderGoOn l.initial.self l.self l.names (chars l.qualifier) l.number
