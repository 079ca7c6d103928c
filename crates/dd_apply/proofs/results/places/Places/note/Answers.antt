-- The pair is as before.
use Rattle.std.proofs.Common.{rules, ◌≡◌, get_or, None, sym, refl, ◌∙◌}
use Rattle.std.proofs.lemmas.List.{get_or_read}
use Rattle.dd_apply.specs.declared.results.places.Kept.{Kept}
use Rattle.dd_apply.proofs.PlaceLemmas.{pairs-same}
use Rattle.dd_apply.proofs.results.places.Places.note.Goals as goal

pub returns-in-Some : goal.returns-in-Some
returns-in-Some c =
    let inside = c.place_of-place.ensures in
    let read : c.index.result.now ≡ get_or c.self.inside.places.items c.place_of-place.result None = get_or_read c.self.inside.places.items c.place_of-place.result c.index.result.now (search rules) c.index.ensures None in
    let kept : Kept = record { question = c.in-Some.kept.question; answer = c.in-Some.kept.answer; uses = c.saturating_add-uses.result; hides = c.in-Some.kept.hides } in
    pairs-same c.self.inside.places.items c.place_of-place.result c.in-Some.kept kept (sym read ∙ c.in-Some.is) refl refl ∙ c.self.view_is
