-- The offers are blank where the literals contradict one another, and else those that the walk notes.
use Rattle.std.proofs.Common.{◌≡◌, ◌↔◌, ◌∙◌, ℕ, ◌-◌, Bool, List, ◌++◌, length, take, replicate, Option, ap, sym, subst, arith}
use Rattle.std.proofs.lemmas.List.{take_at}
use Rattle.dd_store.specs.Exhausted.{value_at}
use Rattle.dd_store.specs.Table.{IsVariable}
use Rattle.dd_quant.specs.declared.offer.Offer.{Offer}
use Rattle.dd_quant.specs.Offers.{AreOffers, no_offer}
use Rattle.dd_quant.specs.steps.Given.{AreGiven}
use Rattle.dd_quant.specs.steps.Noted.{CanHave, HasNote}
use Rattle.dd_quant.proofs.NotedLemmas.{none-at_start}
use Rattle.dd_quant.proofs.SweepLemmas.{all-offers, no-offers}
use Rattle.dd_quant.proofs.choices.offers_with.Goals as goal

pub returns-in-None : goal.returns-in-None
returns-in-None c =
    let t = c.args.kernel.now in
    let n = c.variables-variables.result in
    let k = n - c.new-offers.result.len in
    let count = c.variables-variables.ensures.count in
    let counted = c.resize.new.self.ok.0 in
    let len = c.in_ok-resize.ensures.len in
    let size : length c.resize.new.self.items ≡ length t.order = omega arith in
    no-offers t c.args.given.now c.args.f.now c.resize.new.self.items (rw c.in-None.is at c.in_ok-given_values.ensures) size
    (none-at_start n k c.resize.new.self.items (c.in_ok-resize.ensures.items ∙ ap (λ (xs : List Offer). take n xs ++ replicate k no_offer) c.new-offers.ensures.items))

pub returns-in_ok-note_all-in-Some : goal.returns-in_ok-note_all-in-Some
returns-in_ok-note_all-in-Some c =
    let t = c.args.kernel.now in
    let given = c.args.given.now in
    let values = c.in-Some.values.items in
    let o' = c.note_all.new.offers in
    let count = c.variables-variables.ensures.count in
    let counted = c.resize.new.self.ok.0 in
    let len = c.in_ok-resize.ensures.len in
    let first = ap length c.deref_mut.ensures.value in
    let kept = c.note_all.ensures.number in
    let size : length o' ≡ c.resize.new.self.len = omega arith in
    let size' : length o' ≡ length t.order = omega arith in
    let are = subst (λ (m : ℕ). AreGiven m given values) count (rw c.in-Some.is at c.in_ok-given_values.ensures) in
    let each = subst (λ (vs : List (Option Bool)). (v : ℕ) (b : Bool) → IsVariable t v → HasNote o' v b ↔ CanHave t vs c.args.f.now v b) c.deref.ensures.value c.in_ok-note_all-in-Some.ensures.each in
    subst (λ (os : List Offer). AreOffers t.order (value_at t c.args.f.now) given os) (sym (take_at o' _ c.resize.new.self.len size))
    (all-offers t c.order-order.ensures.sound given values c.args.f.now o' are size' each)
