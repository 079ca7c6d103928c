-- What is kept was kept before, or is the new pair.
use Rattle.std.proofs.Common.{◌≡◌, ◌⊎◌, List, subst}
use Rattle.std.specs.List.{Contains}
use Rattle.dd_store.specs.declared.row.NodeNo.{NodeNo}
use Rattle.dd_apply.specs.declared.question.Question.{Question}
use Rattle.dd_apply.specs.Kept.{entries_of}
use Rattle.dd_apply.proofs.ResultLemmas.{kept-front, kept-both}
use Rattle.dd_apply.proofs.results.Results.keep.Goals as goal

pub returns-in-Some : goal.returns-in-Some
returns-in-Some c = λ p has.
    let new : Question × NodeNo = (c.args.question, c.args.answer) in
    subst (λ (es : List (Question × NodeNo)). Contains es p ⊎ (p ≡ new)) c.self.view_is
    (kept-both c.self.inside.places c.keep.new.self (entries_of c.self.inside.list) c.list_one.new.self new (c.in-Some.displaced.question, c.in-Some.displaced.answer)
    c.keep.ensures.kept c.in-Some.ensures.displaced c.list_one.ensures p has)

pub returns-in_default : goal.returns-in_default
returns-in_default c = λ p has.
    let new : Question × NodeNo = (c.args.question, c.args.answer) in
    subst (λ (es : List (Question × NodeNo)). Contains es p ⊎ (p ≡ new)) c.self.view_is
    (kept-front c.self.inside.places c.keep.new.self (entries_of c.self.inside.list) new c.keep.ensures.kept p has)
