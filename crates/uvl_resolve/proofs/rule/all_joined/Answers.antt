-- The innermost operator that is left, and none that is.
use Rattle.std.proofs.Common.{◌≡◌, [], List, Some, ap, sym, ◌∙◌, arith}
use Rattle.uvl_resolve.specs.declared.rule.Pending.{Pending}
use Rattle.uvl_resolve.specs.steps.Rules.{within}
use Rattle.uvl_resolve.proofs.Made.{one_less, last_made, none_left}
use Rattle.uvl_resolve.proofs.rule.all_joined.Goals as goal

pub joined-requires : goal.joined-requires
joined-requires c =
    last_made c.loop-outer.pending.items c.pop.new.self.items c.in-Some.outer c.loop-outer.made c.in-Some.ensures.items
    (c.requires.0, c.loop-outer.invariant ∙ c.requires.1)

pub loop-outer-preserved : goal.loop-outer-preserved
loop-outer-preserved c =
    one_less c.loop-outer.pending.items c.pop.new.self.items c.in-Some.outer c.loop-outer.made c.in_ok-made.made c.in-Some.ensures.items c.in_ok-made.ensures
    ∙ c.loop-outer.invariant

pub returns : goal.returns
returns c =
    let empty : c.loop-outer.pending.items ≡ [] = none_left c.loop-outer.pending.items (omega (arith, c.loop-outer.pending.ok, c.in_default.ensures.cases.0)) in
    sym c.loop-outer.invariant ∙ ap (λ (ps : List Pending). within ps (Some c.loop-outer.made)) empty
