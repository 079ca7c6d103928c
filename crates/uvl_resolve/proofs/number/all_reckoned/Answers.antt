-- The innermost operator that is left, and none that is.
use Rattle.std.proofs.Common.{◌≡◌, [], List, Some, ap, sym, ◌∙◌, arith}
use Rattle.uvl_resolve.specs.declared.number.PendingNumber.{PendingNumber}
use Rattle.uvl_resolve.specs.steps.Rules.{within_numbers}
use Rattle.uvl_resolve.proofs.Made.{none_left}
use Rattle.uvl_resolve.proofs.MadeNumbers.{one_less, last_made}
use Rattle.uvl_resolve.proofs.number.all_reckoned.Goals as goal

pub reckoned-requires : goal.reckoned-requires
reckoned-requires c =
    last_made c.loop-outer.pending.items c.pop.new.self.items c.in-Some.outer c.loop-outer.made c.in-Some.ensures.items
    (c.requires.0, c.loop-outer.invariant ∙ c.requires.1)

pub loop-outer-preserved : goal.loop-outer-preserved
loop-outer-preserved c =
    one_less c.loop-outer.pending.items c.pop.new.self.items c.in-Some.outer c.loop-outer.made c.in_ok-made.made c.in-Some.ensures.items c.in_ok-made.ensures
    ∙ c.loop-outer.invariant

pub returns : goal.returns
returns c =
    let empty : c.loop-outer.pending.items ≡ [] = none_left c.loop-outer.pending.items (omega (arith, c.loop-outer.pending.ok, c.in_default.ensures.cases.0)) in
    sym c.loop-outer.invariant ∙ ap (λ (ps : List PendingNumber). within_numbers ps (Some c.loop-outer.made)) empty
