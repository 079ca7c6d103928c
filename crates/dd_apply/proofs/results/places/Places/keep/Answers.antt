-- The new pair is among the pairs that were there, and the one whose place it takes was there.
use Rattle.std.proofs.Common.{rules, ◌≡◌, ◌⊎◌, List, get_or, IfSome, None, subst, ◌∙◌}
use Rattle.std.proofs.lemmas.List.{get_or_read}
use Rattle.std.specs.List.{Contains}
use Rattle.dd_store.specs.declared.row.NodeNo.{NodeNo}
use Rattle.dd_apply.specs.declared.question.Question.{Question}
use Rattle.dd_apply.specs.Kept.{pairs_in}
use Rattle.dd_apply.proofs.PlaceLemmas.{pairs-set, one-of}
use Rattle.dd_apply.proofs.results.places.Places.keep.Goals as goal

pub returns-clause-kept : goal.returns-clause-kept
returns-clause-kept c = λ p has.
    let before : pairs_in c.self.inside.places.items ≡ c.args.self.now = c.self.view_is ∙ c.widen.ensures in
    subst (λ (pairs : List (Question × NodeNo)). Contains pairs p ⊎ (p ≡ (c.args.question, c.args.answer))) before
    (pairs-set c.self.inside.places.items c.place_of-place.result _ p has)

pub returns-clause-displaced : goal.returns-clause-displaced
returns-clause-displaced c =
    let inside = c.place_of-place.ensures in
    let before : pairs_in c.self.inside.places.items ≡ c.args.self.now = c.self.view_is ∙ c.widen.ensures in
    let read : c.index.result.now ≡ get_or c.self.inside.places.items c.place_of-place.result None = get_or_read c.self.inside.places.items c.place_of-place.result c.index.result.now (search rules) c.index.ensures None in
    subst (λ (pairs : List (Question × NodeNo)). IfSome c.used_one-displaced.result (λ k. Contains pairs (k.question, k.answer))) before
    (one-of c.used_one-displaced.result _ c.self.inside.places.items c.place_of-place.result read c.used_one-displaced.ensures)
