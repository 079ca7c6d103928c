-- What stands in a place is among the pairs.
use Rattle.std.proofs.Common.{rules, ◌≡◌, get_or, IfSome, Option, None, subst, sym}
use Rattle.std.proofs.lemmas.List.{get_or_read}
use Rattle.std.specs.List.{Contains}
use Rattle.dd_apply.specs.declared.results.places.Kept.{Kept}
use Rattle.dd_apply.proofs.PlaceLemmas.{pairs-at}
use Rattle.dd_apply.proofs.results.places.Places.at.Goals as goal

pub returns : goal.returns
returns c =
    let inside = c.place_of.ensures in
    let read : c.index.result.now ≡ get_or c.self.inside.places.items c.place_of.result None = get_or_read c.self.inside.places.items c.place_of.result c.index.result.now (search rules) c.index.ensures None in
    subst (λ (o : Option Kept). IfSome o (λ k. Contains c.args.self.now (k.question, k.answer))) (sym read)
    (subst (λ pairs. IfSome (get_or c.self.inside.places.items c.place_of.result None) (λ k. Contains pairs (k.question, k.answer))) c.self.view_is (pairs-at c.self.inside.places.items c.place_of.result))
