-- The placing lines from the root on, where there is one.
use Rattle.std.proofs.Common.{Option, subst}
use Rattle.std.specs.List.{All}
use Rattle.uvl_ast.specs.declared.feature.Feature.{Feature}
use Rattle.uvl_placing.specs.Files.{placings_of_root}
use Rattle.uvl_resolve.specs.steps.Placements.{IsPlaced}
use Rattle.uvl_resolve.proofs.placements.placements_of.Goals as goal

pub add_placements-requires-clause-placed : goal.add_placements-requires-clause-placed
add_placements-requires-clause-placed c =
    subst (λ (root : Option Feature). All (IsPlaced c.args.loaded.now c.args.names.now) (placings_of_root root)) c.in-Some.is c.requires.placed
