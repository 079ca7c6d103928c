-- The node that is left behind joins the spine.
use Rattle.std.proofs.Common.{List, [], ◌∷◌, sym, subst}
use Rattle.std.proofs.lemmas.List.{map-append}
use Rattle.std.specs.Borrow.{Bor}
use Rattle.uvl_model.specs.declared.rule.Rule.{Rule}
use Rattle.uvl_rule.specs.Spine.{IsSpine, rules_at}
use Rattle.uvl_rule.proofs.SpineLemmas.{spine-longer}
use Rattle.uvl_rule.proofs.spine.spine_of.Goals as goal

pub loop-left-preserved : goal.loop-left-preserved
loop-left-preserved c =
    let left = c.in-Some.left.now in
    subst (λ (nodes : List (Bor Rule)). IsSpine (rules_at nodes) left c.args.rule.now) (sym c.in_ok-push.ensures.items)
    (subst (λ (nodes : List Rule). IsSpine nodes left c.args.rule.now)
    (sym (map-append (λ (node : Bor Rule). node.now) c.loop-left.nodes.items (c.loop-left.part ∷ [])))
    (spine-longer (rules_at c.loop-left.nodes.items) c.loop-left.part.now left c.args.rule.now c.loop-left.invariant (sym c.in-Some.ensures.left)))
