-- One variable more is read.
use Rattle.std.proofs.Common.{◌<◌, length}
use Rattle.std.proofs.lemmas.List.Elements.{All-get_or}
use Rattle.uvl_model.specs.declared.rows.FeatureNo.{FeatureNo}
use Rattle.uvl_compile.proofs.RowFunctions.{variables-push}
use Rattle.uvl_compile.proofs.row.variables.Goals as goal

pub of-requires : goal.of-requires
of-requires c =
    All-get_or (λ (f : FeatureNo). f.0 < length c.args.map.now) c.args.features.now c.loop-feature.feature-index (record { 0 = 0 }) c.loop-feature-test.true c.requires

pub loop-feature-preserved : goal.loop-feature-preserved
loop-feature-preserved c =
    variables-push c.args.map.now c.args.features.now c.loop-feature.feature-index (record { 0 = 0 }) c.loop-feature.vars.items c.push.new.self.items c.of.result c.loop-feature-test.true
    c.in_ok-push.ensures.items c.loop-feature.invariant c.of.ensures
