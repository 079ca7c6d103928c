-- The names of the rows in front.
use Rattle.std.proofs.Common.{◌≡◌, take, map}
use Rattle.uvl_resolve.proofs.resolving.names_of.Given as goal

abbrev pub invariant-loop-row : goal.invariant-loop-row
invariant-loop-row l = l.names ≡ map (λ row. row.name) (take l.row-index l.features)
