-- Each kept result was right before, or is the new one.
use Rattle.std.proofs.Common.{inl, inr, subst, sym}
use Rattle.dd_store.specs.declared.row.NodeNo.{NodeNo}
use Rattle.dd_store.specs.Table.{Table}
use Rattle.dd_apply.specs.declared.question.Question.{Question}
use Rattle.dd_apply.specs.Right.{IsRight}
use Rattle.dd_apply.proofs.kernel.Kernel.keep.Goals as goal

pub invariant_of-self : goal.invariant_of-self
invariant_of-self c = λ q r has. elim (c.keep.ensures (q, r) has) [
  | inl before ↦ c.self.invariant q r before
  | inr same ↦ subst (λ (p : Question × NodeNo). IsRight c.self.inside.store p.0 p.1.0) (sym same)
      (subst (λ (t : Table). IsRight t c.args.question c.args.answer.0) (sym c.self.view_is) c.requires)
]
