-- Name by name, and then the end.
use Rattle.std.proofs.Common.{◌≡◌, List, ℕ, ◌++◌, OnOk, subst}
use Rattle.uvl_run.proofs.NameList.{one_more, ended}
use Rattle.uvl_run.proofs.reply.push_names.Goals as goal

pub loop-feature-preserved : goal.loop-feature-preserved
loop-feature-preserved c =
    let i = c.loop-feature.feature-index in
    one_more c.args.rows.now c.args.features.now i _ _ c.loop-feature.into.items c.push_name.new.into.items c.loop-feature-test.true
    (c.requires.there i _ c.loop-feature-test.true) c.loop-feature.invariant c.in_ok-push_name.ensures

pub returns : goal.returns
returns c =
    subst (λ (text : List ℕ). OnOk c.end_reply.result (c.end_reply.new.into.items ≡ text))
    (ended c.args.rows.now c.args.features.now c.loop-feature.feature-index c.loop-feature.into.items c.loop-feature-test.false c.loop-feature.invariant)
    c.end_reply.ensures
