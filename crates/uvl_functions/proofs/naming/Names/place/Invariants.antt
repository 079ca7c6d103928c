-- The names so far are those of the features so far, each with its variable.
use Rattle.std.proofs.Common.{◌≡◌, take, length}
use Rattle.uvl_model.specs.Names.{feature_names}
use Rattle.uvl_functions.specs.Placing.{with_names, AreNamed, AddsVariables}
use Rattle.uvl_functions.proofs.naming.Names.place.Given as goal

abbrev pub invariant-loop-row : goal.invariant-loop-row
invariant-loop-row l = record {
  names : l.self ≡ with_names l.fn.self (take l.row-index (feature_names l.fn.model));
  named : AreNamed l.self l.vars.items (take l.row-index (feature_names l.fn.model));
  as_many : length l.self ≡ length l.kernel.order;
  adds : AddsVariables l.fn.kernel l.kernel;
}
