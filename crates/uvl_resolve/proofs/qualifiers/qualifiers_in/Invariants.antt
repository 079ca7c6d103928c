-- The qualifiers of the lines in front.
use Rattle.std.proofs.Common.{◌≡◌, take, map}
use Rattle.uvl_placing.specs.Names.{qualifier_of}
use Rattle.uvl_resolve.proofs.qualifiers.qualifiers_in.Given as goal

abbrev pub invariant-loop-line : goal.invariant-loop-line
invariant-loop-line l = l.qualifiers ≡ map qualifier_of (take l.line-index l.lines)
