-- The value so far is the function without the variables so far, and its handle the one that is more.
use Rattle.std.proofs.Common.{◌≡◌, take}
use Rattle.dd_store.specs.Changes.{Keeps}
use Rattle.dd_store.specs.Exhausted.{value_at}
use Rattle.dd_store.specs.Handles.{GainsHandle}
use Rattle.dd_quant.specs.Exists.{exists_over}
use Rattle.dd_quant.proofs.quantification.exists.Given as goal

abbrev pub invariant-loop-var : goal.invariant-loop-var
invariant-loop-var l = record {
  value : value_at l.kernel l.so_far ≡ exists_over (take l.var-index l.vars) (value_at l.fn.kernel l.fn.f);
  gained : GainsHandle l.fn.kernel l.kernel l.so_far;
  keeps : Keeps l.fn.kernel l.kernel;
}
