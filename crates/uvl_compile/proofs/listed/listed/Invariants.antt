-- The tree and the rules so far.
use Rattle.std.proofs.Common.{◌≡◌, take}
use Rattle.dd_store.specs.Changes.{Keeps}
use Rattle.dd_store.specs.Exhausted.{value_at}
use Rattle.dd_store.specs.Handles.{GainsHandle}
use Rattle.uvl_functions.specs.Functions.{model_function}
use Rattle.uvl_compile.proofs.listed.listed.Given as goal

abbrev pub invariant-loop-rule : goal.invariant-loop-rule
invariant-loop-rule l = record {
  value : value_at l.kernel l.products ≡ model_function l.map l.model (take l.rule-index l.model.rules);
  gained : GainsHandle l.fn.kernel l.kernel l.products;
  keeps : Keeps l.fn.kernel l.kernel;
}
