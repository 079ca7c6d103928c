-- A line that is to place a file.
use Rattle.std.proofs.Common.{Option, sym, subst}
use Rattle.uvl_ast.specs.declared.feature.Feature.{out-Feature}
use Rattle.uvl_scope.specs.LineFaults.{Finding}
use Rattle.uvl_scope.specs.Lines.{line_of}
use Rattle.uvl_scope.specs.steps.Offers.{placed_by}
use Rattle.uvl_scope.specs.steps.Walk.{IsFound, brought_of}
use Rattle.uvl_scope.proofs.LineKinds.{placing_fault}
use Rattle.uvl_scope.proofs.tally.Tally.add_line.Goals as goal

pub returns-in-None-clause-found : goal.returns-in-None-clause-found
returns-in-None-clause-found c =
    subst (λ (f : Option Finding). IsFound f c.place.result)
    (sym (placing_fault (placed_by c.args.scopes.now c.args.imports.now) (brought_of c.args.self.now) (line_of (out-Feature c.args.line.now) c.args.depth) c.in-None.ensures.none))
    c.place.ensures.found
