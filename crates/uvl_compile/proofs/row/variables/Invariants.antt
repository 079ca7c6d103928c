-- The variables of the first features.
use Rattle.std.proofs.Common.{◌≡◌, take}
use Rattle.uvl_compile.specs.Members.{variables_of}
use Rattle.uvl_compile.proofs.row.variables.Given as goal

abbrev pub invariant-loop-feature : goal.invariant-loop-feature
invariant-loop-feature l = l.vars.items ≡ variables_of l.map (take l.feature-index l.features)
