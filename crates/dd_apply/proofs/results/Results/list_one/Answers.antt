-- What is kept was kept before, or is the displaced pair.
use Rattle.std.proofs.Common.{◌≡◌, ◌⊎◌, ◌∙◌, List, ◌++◌, subst, ap, inl}
use Rattle.std.specs.List.{Contains}
use Rattle.dd_store.specs.declared.row.NodeNo.{NodeNo}
use Rattle.dd_apply.specs.declared.question.Question.{Question}
use Rattle.dd_apply.specs.Kept.{entries_of}
use Rattle.dd_apply.proofs.ResultLemmas.{kept-or-not, kept-behind}
use Rattle.dd_apply.proofs.results.Results.list_one.Goals as goal
use Rattle.dd_apply.proofs.results.Results.list_one.Goals.{in-Some, in_default}

pub returns : goal.returns
returns c = λ p has.
    let pair : Question × NodeNo = (c.args.displaced.question, c.args.displaced.answer) in
    let before = c.self.view_is ∙ c.make_list.ensures in
    elim c.match-as_mut.branch [
      | in-Some w ↦
          let view = ap (λ i. i.places ++ entries_of i.list) w.self-inside-is in
          subst (λ (es : List (Question × NodeNo)). Contains es p ⊎ (p ≡ pair)) (ap (λ (es : List (Question × NodeNo)). c.self.inside.places ++ es) (ap entries_of w.in-Some.ensures.value) ∙ before)
          (kept-behind c.self.inside.places w.in-Some.list.now.entries w.put-kept.new.self.entries pair
          (kept-or-not w.in-Some.list.now w.put-kept.new.self c.args.displaced.question c.args.displaced.answer w.put-kept.result w.put-kept.ensures.entries w.put-kept.ensures.err)
          p (subst (λ (es : List (Question × NodeNo)). Contains es p) view has))
      | in_default w ↦
          let view = ap (λ i. i.places ++ entries_of i.list) w.self-inside-is in
          inl (subst (λ (es : List (Question × NodeNo)). Contains es p) (view ∙ before) has)
    ]
