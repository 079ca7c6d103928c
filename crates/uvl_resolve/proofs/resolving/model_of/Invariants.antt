-- The tree of the main file.
use Rattle.std.proofs.Common.{[]}
use Rattle.std.specs.Prelude.{unwrap_or}
use Rattle.uvl_placing.specs.Files.{main_tree}
use Rattle.uvl_semantics.specs.Tree.{feature, no_groups}
use Rattle.uvl_resolve.proofs.resolving.model_of.Given as goal

abbrev pub ghost-rows_of : goal.ghost-rows_of
ghost-rows_of a = unwrap_or (main_tree a.files.now) (feature (record { name = []; attributes = [] }) no_groups)
