-- Weights that are all 0 add nothing.
use Rattle.std.proofs.Common.{rules, ◌≡◌, List, replicate, ap, ◌∙◌}
use Rattle.std.specs.Prelude.{ℤ, pos, ◌+ℤ◌}
use Rattle.uvl_linear.specs.Forms.{marked_weight}
use Rattle.uvl_linear.proofs.FormLemmas.{none_weigh}
use Rattle.uvl_linear.proofs.form.LinearForm.zero.Goals as goal

pub returns-clause-value : goal.returns-clause-value
returns-clause-value c marks =
    let is : c.in_ok-weights.weights.items ≡ replicate c.args.features (pos 0) = search rules in
    ap (λ (ws : List ℤ). pos 0 +ℤ marked_weight marks ws) is ∙ ap (λ (z : ℤ). pos 0 +ℤ z) (none_weigh marks c.args.features)
