-- The files in front have these scopes, and nothing is wrong with them.
use Rattle.std.proofs.Common.{take, drop}
use Rattle.uvl_scope.proofs.FilesWalked.{FilesGoOn}
use Rattle.uvl_scope.proofs.checking.scopes_of.Given as goal

abbrev pub invariant-loop-loaded : goal.invariant-loop-loaded
invariant-loop-loaded l = FilesGoOn l.files (take l.loaded-index l.files) (drop l.loaded-index l.files) l.scopes
