-- One condition after another.
use Rattle.uvl_compile.specs.Conditions.{so_far}
use Rattle.uvl_compile.proofs.HandleLemmas.{gain-replaced, keeps-behind}
use Rattle.uvl_compile.proofs.planned.batch.Goals as goal

pub returns-in_err-made-2-clause-keeps : goal.returns-in_err-made-2-clause-keeps
returns-in_err-made-2-clause-keeps c =
    keeps-behind c.args.kernel.now c.loop-at.kernel c.meet_once.new.kernel c.loop-at.made c.loop-at.invariant.keeps c.loop-at.invariant.gained
    c.in_err-made-2.ensures.keeps

pub returns-then-saturating_sub-gt-FEW_NODES-clause-so_far : goal.returns-then-saturating_sub-gt-FEW_NODES-clause-so_far
returns-then-saturating_sub-gt-FEW_NODES-clause-so_far c =
    c.in_ok-made-2.ensures.so_far (so_far c.args.map.now c.args.model.now c.args.done.now) c.loop-at.invariant.value

pub returns-then-saturating_sub-gt-FEW_NODES-clause-keeps : goal.returns-then-saturating_sub-gt-FEW_NODES-clause-keeps
returns-then-saturating_sub-gt-FEW_NODES-clause-keeps c =
    keeps-behind c.args.kernel.now c.loop-at.kernel c.meet_once.new.kernel c.loop-at.made c.loop-at.invariant.keeps c.loop-at.invariant.gained
    c.in_ok-made-2.ensures.keeps

pub loop-at-preserved : goal.loop-at-preserved
loop-at-preserved c = record {
  value = c.in_ok-made-2.ensures.so_far (so_far c.args.map.now c.args.model.now c.args.done.now) c.loop-at.invariant.value;
  gained = gain-replaced c.args.kernel.now c.loop-at.kernel c.meet_once.new.kernel c.loop-at.made c.in_ok-made-2.made c.loop-at.invariant.gained
      c.in_ok-made-2.ensures.replaced;
  keeps = keeps-behind c.args.kernel.now c.loop-at.kernel c.meet_once.new.kernel c.loop-at.made c.loop-at.invariant.keeps c.loop-at.invariant.gained
      c.in_ok-made-2.ensures.keeps;
}
