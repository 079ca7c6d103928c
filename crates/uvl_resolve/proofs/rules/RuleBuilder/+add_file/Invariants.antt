-- What the placing lines that are left add goes behind what is there. Each call goes on in a file in front.
use Rattle.std.proofs.Common.{◌≡◌, Some, drop}
use Rattle.std.specs.Prelude.{slice_get}
use Rattle.uvl_imports.specs.Sets.{IsWhole}
use Rattle.uvl_imports.specs.declared.file_set.Loaded.{Loaded}
use Rattle.uvl_placing.specs.Laws.{FilesAreReadAmongAll}
use Rattle.uvl_resolve.specs.steps.Placements.{AreReady}
use Rattle.uvl_resolve.proofs.Placing.{FilesGoOn}
use Rattle.uvl_scope.specs.declared.scope.Scope.{Scope}
use Rattle.uvl_resolve.proofs.rules.RuleBuilder.+add_file.Given as goal

abbrev pub decreases-add_file : goal.decreases-add_file
decreases-add_file l = l.at

abbrev pub invariant-loop-placement : goal.invariant-loop-placement
invariant-loop-placement l =
    (whole : IsWhole l.files) (law : FilesAreReadAmongAll) (ready : AreReady l.files l.scopes) (loaded : Loaded) (scope : Scope)
    (there : slice_get l.files l.at ≡ Some loaded) (found : slice_get l.scopes l.at ≡ Some scope)
    → FilesGoOn l.files l.scopes whole law ready l.at loaded scope there found l.offset l.initial.self.rules l.self.rules
    (drop l.placement-index l.placement-items)
