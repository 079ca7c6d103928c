-- The qualifiers of the files in front.
use Rattle.std.proofs.Common.{◌≡◌, take}
use Rattle.uvl_resolve.specs.steps.Walk.{qualifiers_of}
use Rattle.uvl_resolve.proofs.qualifiers.qualifiers_of.Given as goal

abbrev pub invariant-loop-loaded : goal.invariant-loop-loaded
invariant-loop-loaded l = l.qualifiers.items ≡ qualifiers_of (take l.loaded-index l.files)
