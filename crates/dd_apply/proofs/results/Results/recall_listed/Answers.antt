-- A pair whose question equals the asked one is there.
use Rattle.std.proofs.Common.{◌∙◌, List, ◌++◌, IfSome, subst, ap}
use Rattle.std.specs.List.{Contains}
use Rattle.dd_store.specs.declared.row.NodeNo.{NodeNo}
use Rattle.dd_apply.specs.declared.question.Question.{Question}
use Rattle.dd_apply.specs.Kept.{entries_of}
use Rattle.dd_apply.proofs.ResultLemmas.{recalled, recalled-behind}
use Rattle.dd_apply.proofs.results.Results.recall_listed.Goals as goal

pub returns : goal.returns
returns c =
    subst (λ (es : List (Question × NodeNo)). IfSome c.copied.result (λ r. Contains es (c.args.question, r)))
    (ap (λ (es : List (Question × NodeNo)). c.self.inside.places ++ es) (ap entries_of c.in_ok-list.ensures.value) ∙ c.self.view_is)
    (recalled-behind c.self.inside.places c.in_ok-list.list.now.entries c.args.question c.copied.result
    (recalled c.in_ok-list.list.now.entries c.args.question c.copied.result (c.copied.ensures ∙ c.peek.ensures)))
