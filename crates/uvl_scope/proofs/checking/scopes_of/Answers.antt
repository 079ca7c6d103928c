-- One more file, the first file with a fault, and the last file.
use Rattle.uvl_scope.specs.Faults.{IsCauseOf}
use Rattle.uvl_scope.proofs.FilesWalked.{files_more, stop_at, cause_is, files_all}
use Rattle.uvl_scope.proofs.checking.scopes_of.Goals as goal

pub loop-loaded-preserved : goal.loop-loaded-preserved
loop-loaded-preserved c =
    files_more c.args.files.now c.loop-loaded.loaded-index c.as_slice.result.now c.loop-loaded.scopes c.push.new.self c.loaded-item.result c.in_ok-scope.scope
    c.loop-loaded.invariant c.loop-loaded-test.true c.loaded-item.is c.as_slice.ensures c.in_ok-scope.ensures.fine c.in_ok-scope.ensures.scope c.in_ok-push.ensures.ok

pub returns-in_err-scope-clause-cause : goal.returns-in_err-scope-clause-cause
returns-in_err-scope-clause-cause c =
    let all = c.args.files.now in
    cause_is (IsCauseOf all) c.from_residual.result c.in_err-scope.field-0.0 c.from_residual.ensures.1
    (stop_at all c.loop-loaded.loaded-index c.as_slice.result.now c.loop-loaded.scopes c.loaded-item.result c.in_err-scope.field-0.0 c.loop-loaded.invariant
    c.loop-loaded-test.true c.loaded-item.is c.as_slice.ensures c.in_err-scope.ensures.cause)

pub returns-clause-fine : goal.returns-clause-fine
returns-clause-fine c = (files_all c.args.files.now c.loop-loaded.loaded-index c.loop-loaded.scopes c.loop-loaded.invariant c.loop-loaded-test.false).0

pub returns-clause-scopes : goal.returns-clause-scopes
returns-clause-scopes c = (files_all c.args.files.now c.loop-loaded.loaded-index c.loop-loaded.scopes c.loop-loaded.invariant c.loop-loaded-test.false).1
