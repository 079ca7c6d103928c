-- The run from the feature on.
use Rattle.std.proofs.Common.{◌≡◌, ℕ, ◌+◌, ◌-◌, ◌<◌, List, take, drop, length, map, ap, ◌∙◌, subst, arith}
use Rattle.std.specs.List.{position_or_len}
use Rattle.std.proofs.lemmas.List.{length-drop, take_rest}
use Rattle.uvl_model.specs.declared.rows.FeatureRow.{FeatureRow}
use Rattle.uvl_model.specs.Amounts.{is_outside, run_from}
use Rattle.uvl_model.specs.Heads.{head_of_row}
use Rattle.uvl_model.specs.Rows.{Rows}
use Rattle.uvl_model.specs.Sound.{IsSound}
use Rattle.uvl_model.proofs.Limits.{features-few}
use Rattle.uvl_model.proofs.Runs.{run_is_below, run_taken}
use Rattle.uvl_model.proofs.model.Model.below.Goals as goal

pub returns-clause-heads : goal.returns-clause-heads
returns-clause-heads c =
    let top = c.args.top in
    let items = c.as_slice.result.now in
    let rows = take (length items - top.0) (drop top.0 items) in
    let features : items ≡ c.args.self.now.features = c.as_slice.ensures ∙ ap (λ (r : Rows). r.features) c.self.view_is in
    let behind : rows ≡ drop top.0 items = take_rest items top.0 in
    let run : c.run_length-run.result ≡ position_or_len (is_outside top) (drop 1 rows) =
    c.run_length-run.ensures.run ∙ ap (position_or_len (is_outside top)) (take_rest rows 1) in
    let some : 0 < length rows = omega (arith, ap length behind, length-drop top.0 items, ap length features, c.requires) in
    ap (λ (n : ℕ). map head_of_row (take (1 + n) rows)) run
    ∙ ap (λ (rs : List FeatureRow). map head_of_row rs) (run_taken top rows some)
    ∙ ap (λ (rs : List FeatureRow). map head_of_row (run_from top rs)) behind
    ∙ ap (λ (rs : List FeatureRow). map head_of_row (run_from top (drop top.0 rs))) features
    ∙ run_is_below c.args.self.now (subst IsSound c.self.view_is c.self.invariant.0) top c.requires

pub returns-clause-few : goal.returns-clause-few
returns-clause-few c = features-few c.args.self.now (subst IsSound c.self.view_is c.self.invariant.0)
