-- The root, and one batch after another.
use Rattle.std.proofs.Common.{◌∙◌, arith}
use Rattle.std.proofs.lemmas.List.{length-drop}
use Rattle.uvl_compile.proofs.Marked.{root-is, nothing-met}
use Rattle.uvl_compile.proofs.HandleLemmas.{gain-replaced, keeps-behind}
use Rattle.uvl_compile.proofs.planned.follow.Goals as goal

pub loop-taken-init : goal.loop-taken-init
loop-taken-init c = record {
  value = (λ j a. (c.in_ok-held.ensures.value a ∙ root-is c.args.map.now c.of.result c.of.ensures a) j) ∙ nothing-met c.args.map.now c.args.model.now c.args.done.now c.requires.none;
  gained = c.in_ok-held.ensures.gained;
  keeps = c.in_ok-held.ensures.keeps;
  within = omega arith;
}

pub returns-in_err-left-clause-keeps : goal.returns-in_err-left-clause-keeps
returns-in_err-left-clause-keeps c =
    keeps-behind c.args.kernel.now c.loop-taken.kernel c.with_batch.new.kernel c.loop-taken.held c.loop-taken.invariant.keeps c.loop-taken.invariant.gained
    c.in_err-left.ensures.keeps

pub loop-taken-preserved : goal.loop-taken-preserved
loop-taken-preserved c = record {
  value = c.in_ok-left.ensures.so_far;
  gained = gain-replaced c.args.kernel.now c.loop-taken.kernel c.with_batch.new.kernel c.loop-taken.held c.in_ok-left.left c.loop-taken.invariant.gained
      c.in_ok-left.ensures.replaced;
  keeps = keeps-behind c.args.kernel.now c.loop-taken.kernel c.with_batch.new.kernel c.loop-taken.held c.loop-taken.invariant.keeps c.loop-taken.invariant.gained
      c.in_ok-left.ensures.keeps;
  within =
      let most = c.in_ok-left.ensures.taken.1 in
      let left = length-drop c.loop-taken.taken c.args.plan.now in
      omega arith;
}
