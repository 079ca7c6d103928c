-- The lines in front are in the index.
use Rattle.std.proofs.Common.{drop}
use Rattle.uvl_scope.proofs.Offering.{OffersGoOn}
use Rattle.uvl_scope.proofs.imports.Imports.of.Given as goal

abbrev pub invariant-loop-number : goal.invariant-loop-number
invariant-loop-number l =
    OffersGoOn l.imports.qualifiers l.imports.targets (drop l.number l.lines) (drop l.number l.targets) l.lines l.targets
