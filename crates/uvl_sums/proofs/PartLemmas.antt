-- Parts of a comparison: what stays of them, and how a part is made of its halves.
use Rattle.std.proofs.Common.{◌≡◌, ◌⊎◌, ℕ, zero, suc, ◌+◌, ◌^◌, ◌<◌, ◌≤◌, ℤ, pos, ◌+ℤ◌, ◌-ℤ◌, ◌≤ℤ◌, Bool, true, false, cond, to_z, of_z, List, [], ◌∷◌, length, get_or, slice_index, Option, Some, None, IfSome, IfNone, Result, Ok, Err, IfErr, ◌<ℤ◌, refl, ap, sym, ◌∙◌, subst, inl, inr, arith}
use Rattle.std.specs.BTreeMap.{BTreeMap, get}
use Rattle.std.specs.Int.{int_min, int_max}
use Rattle.std.specs.List.{All, Contains}
use Rattle.std.specs.Prelude.{◌-◌, int_lt, unsigned_abs, FitsSigned}
use Rattle.std.proofs.lemmas.Int.{ints, clamps, to_z-of_z}
use mir.Syntax.{w128}
use Rattle.std.proofs.lemmas.List.{drop_more}
use Rattle.std.proofs.lemmas.List.Elements.{All-head, All-tail}
use Rattle.dd_store.specs.declared.refusal.Refusal.{Refusal}
use Rattle.dd_store.specs.declared.row.Var.{Var}
use Rattle.dd_store.specs.Exhausted.{value_at}
use Rattle.dd_store.specs.Law.{DependsOnNoneAbove}
use Rattle.dd_store.specs.Order.{level_in, IsIn}
use Rattle.dd_store.specs.Size.{Function, cofactors}
use Rattle.dd_store.specs.SizeLaws.{IsFreeOf}
use Rattle.dd_store.specs.Table.{Table, row_of, IsLive, IsSound, IsAbove}
use Rattle.dd_store.proofs.TopLemmas.{tell-levels}
use Rattle.dd_apply.specs.Split.{fork}
use Rattle.dd_count.specs.Levels.{IsFallingFrom}
use Rattle.dd_count.specs.States.{AreHeld}
use Rattle.dd_count.proofs.CountedLemmas.{falling-from}
use Rattle.dd_count.proofs.StatesLemmas.{held-live}
use Rattle.uvl_sums.specs.declared.memo.Known.{Known}
use Rattle.uvl_sums.specs.declared.memo.Part.{Part}
use Rattle.uvl_sums.specs.declared.settle.Settled.{Settled}
use Rattle.uvl_sums.specs.declared.steps.Step.{Step}
use Rattle.uvl_sums.specs.Parts.{Adds, HasValueAt, IsPart, IsPartFor, AreHalves, AreKnown, key_cmp, part_under}
use Rattle.uvl_sums.specs.Settled.{IsBetween, AreSmall, Settles}
use Rattle.uvl_sums.specs.Steps.{term_of, terms_of, terms_from, weight_at, levels_of, least_total, greatest_total, HaveBounds, ArePlanned, remaining, IsSmall}
use Rattle.uvl_sums.specs.Sums.{Term, total, size_of}
use Rattle.dd_store.proofs.ChangeLemmas.{keeps_all}
use Rattle.uvl_sums.proofs.AddsLemmas.{adds-none, value-stays}
use Rattle.uvl_sums.proofs.TotalLemmas.{remaining-free, low-cofactor, high-cofactor, remaining-fork, total-between, size-cons, small-low, small-high, are-small, IsOfSize, own-size, fits-small, fits-wide}

-- what is true of all steps is true of those from a place on
falls : (order : List Var) (first : ℕ) (steps : List Step) (at : ℕ) → IsFallingFrom first (levels_of order (terms_of steps)) → IsFallingFrom first (levels_of order (terms_from steps at))
falls order first steps zero falling = falling
falls order first [] (suc at) falling = tt
falls order first (s ∷ ss) (suc at) falling =
    falling-from first (suc (level_in order s.var.0)) (levels_of order (terms_from ss at)) (let within = falling.0 in omega arith)
    (falls order (suc (level_in order s.var.0)) ss at falling.1)

there : (order : List Var) (steps : List Step) (at : ℕ) → All (λ (t : Term). IsIn order t.0.0) (terms_of steps) → All (λ (t : Term). IsIn order t.0.0) (terms_from steps at)
there order steps zero all = all
there order [] (suc at) all = all
there order (s ∷ ss) (suc at) all = there order ss at (All-tail (λ (t : Term). IsIn order t.0.0) (term_of s) (terms_of ss) all)

sizes : (steps : List Step) (at : ℕ) → size_of (terms_from steps at) ≤ size_of (terms_of steps)
sizes steps zero = omega arith
sizes [] (suc at) = omega arith
sizes (s ∷ ss) (suc at) = let rest = sizes ss at in let one = size-cons (term_of s) (terms_of ss) in omega arith

-- the bounds at a place
pub least-at : (steps : List Step) (at : ℕ) (d : Step) → at < length steps → HaveBounds steps → (get_or steps at d).least ≡ least_total (terms_from steps at)
least-at [] at d inside bounds = absurd (omega arith)
least-at (s ∷ ss) zero d inside bounds = bounds.0
least-at (s ∷ ss) (suc at) d inside bounds = least-at ss at d (omega arith) bounds.2

pub greatest-at : (steps : List Step) (at : ℕ) (d : Step) → at < length steps → HaveBounds steps → (get_or steps at d).greatest ≡ greatest_total (terms_from steps at)
greatest-at [] at d inside bounds = absurd (omega arith)
greatest-at (s ∷ ss) zero d inside bounds = bounds.1
greatest-at (s ∷ ss) (suc at) d inside bounds = greatest-at ss at d (omega arith) bounds.2

-- and the weight
pub weight-is : (steps : List Step) (at : ℕ) (d : Step) → at < length steps → weight_at steps at ≡ (get_or steps at d).weight
weight-is [] at d inside = absurd (omega arith)
weight-is (s ∷ ss) zero d inside = refl
weight-is (s ∷ ss) (suc at) d inside = weight-is ss at d (omega arith)

-- nothing is left behind the last step
pub none-left : (steps : List Step) (at : ℕ) → least_total (terms_from steps at) ≡ greatest_total (terms_from steps at) ⊎ (at < length steps)
none-left [] zero = inl refl
none-left [] (suc at) = inl refl
none-left (s ∷ ss) zero = inr (omega arith)
none-left (s ∷ ss) (suc at) = elim (none-left ss at) [ inl none ↦ inl none | inr inside ↦ inr (omega arith) ]

-- sums so far and bounds are small from each place on
pub small-at : (order : List Var) (steps : List Step) (at : ℕ) (s : ℤ) → ArePlanned order steps → IsSmall (terms_from steps at) s → AreSmall s (least_total (terms_from steps at)) (greatest_total (terms_from steps at))
small-at order steps at s planned small = are-small (terms_from steps at) s small (let fewer = sizes steps at in let size = planned.sorted.size in omega arith)

-- a constant is a part
pub settled-part : (u : Table) (held : List ℕ) (exact : Bool) (terms : List Term) (s : ℤ) (settled : Settled) (place : ℕ)
    → Settles exact s (least_total terms) (greatest_total terms) settled → HasValueAt u held place (λ (a : ℕ → Bool). settled.value)
    → IsPartFor u held exact terms s (record { place = place; least = settled.least; greatest = settled.greatest })
settled-part u held exact terms s settled place is has = record {
  now = is.now;
  part_is = record {
    interval = is.interval;
    same = λ z between. record {
      there = has.there;
      value = has.value ∙ (λ j a. sym (is.same z (total terms a) between (total-between terms a)) j);
    };
  };
}

pub settled-is : (exact : Bool) (terms : List Term) (s : ℤ) (settled : Settled) → Settles exact s (least_total terms) (greatest_total terms) settled
    → (let f : (ℕ → Bool) → Bool = λ a. settled.value in f) ≡ remaining exact terms s
settled-is exact terms s settled is = λ j a. sym (is.same s (total terms a) is.now (total-between terms a)) j

-- parts stay
module _ (t u : Table) (H H' : List ℕ) (g : Function) (m : ℕ) (adds : Adds t H u H' g m) (held : AreHeld t H) where
  pub part-stays : (exact : Bool) (terms : List Term) (part : Part) → IsPart t H exact terms part → IsPart u H' exact terms part
  part-stays exact terms part is = record {
    interval = is.interval;
    same = λ z between. value-stays t u H H' g m adds part.place (remaining exact terms z) held (is.same z between);
  }

  pub part-for-stays : (exact : Bool) (terms : List Term) (s : ℤ) (part : Part) → IsPartFor t H exact terms s part → IsPartFor u H' exact terms s part
  part-for-stays exact terms s part is = record { now = is.now; part_is = part-stays exact terms part is.part_is }

  pub known-stays : (exact : Bool) (steps : List Step) (known : BTreeMap (ℕ × ℤ) Known) → AreKnown t H exact steps known → AreKnown u H' exact steps known
  known-stays exact steps known are key it is = part-stays exact (terms_from steps key.0) (part_under key it) (are key it is)

-- one more is known
pub known-more : (t : Table) (held : List ℕ) (exact : Bool) (steps : List Step) (old new : BTreeMap (ℕ × ℤ) Known) (at : ℕ) (part : Part)
    → AreKnown t held exact steps old → IsPart t held exact (terms_from steps at) part
    → ((key : ℕ × ℤ) (it : Known) → get key_cmp new key ≡ Some it → (get key_cmp old key ≡ Some it) ⊎ ((key ≡ (at, part.least)) × (it ≡ record { place = part.place; greatest = part.greatest })))
    → AreKnown t held exact steps new
known-more t held exact steps old new at part are is more key it has = elim (more key it has) [
  | inl was ↦ are key it was
  | inr (here, same) ↦
      subst (λ (k : ℕ × ℤ). IsPart t held exact (terms_from steps k.0) (part_under k it)) (sym here)
      (subst (λ (w : Known). IsPart t held exact (terms_from steps at) (part_under (at, part.least) w)) (sym same) is)
]

-- At a place where a step is.
module _ (order : List Var) (steps : List Step) (at : ℕ) (d : Step) (inside : at < length steps) (planned : ArePlanned order steps) where
  abbrev step : Step
  step = get_or steps at d

  abbrev rest : List Term
  rest = terms_from steps (at + 1)

  pub split : terms_from steps at ≡ term_of step ∷ rest
  split = ap terms_of (drop_more steps at d inside)

  falling : IsFallingFrom 0 (levels_of order (term_of step ∷ rest))
  falling = subst (λ (ts : List Term). IsFallingFrom 0 (levels_of order ts)) split (falls order 0 steps at planned.sorted.falling)

  pub variable-there : IsIn order step.var.0
  variable-there =
      All-head (λ (t : Term). IsIn order t.0.0) (term_of step) rest
      (subst (λ (ts : List Term). All (λ (t : Term). IsIn order t.0.0) ts) split (there order steps at planned.sorted.there))

  weight : weight_at steps at ≡ step.weight
  weight = weight-is steps at d inside

  pub small-behind : (s : ℤ) → IsSmall (terms_from steps at) s → IsSmall rest s
  small-behind s small = small-low (term_of step) rest s (subst (λ (ts : List Term). IsSmall ts s) split small)

  pub small-added : (s : ℤ) → IsSmall (terms_from steps at) s → IsSmall rest (s +ℤ step.weight)
  small-added s small = small-high (term_of step) rest s (subst (λ (ts : List Term). IsSmall ts s) split small)

  pub length-more : length (terms_from steps at) ≡ suc (length rest)
  length-more = ap length split

  pub low-is-part : (exact : Bool) (s : ℤ) → Contains (cofactors order (remaining exact (terms_from steps at) s)) (remaining exact rest s)
  low-is-part exact s =
      subst (λ (ts : List Term). Contains (cofactors order (remaining exact ts s)) (remaining exact rest s)) (sym split)
      (low-cofactor order 0 exact (term_of step) rest s falling variable-there)

  pub high-is-part : (exact : Bool) (s : ℤ) → Contains (cofactors order (remaining exact (terms_from steps at) s)) (remaining exact rest (s +ℤ step.weight))
  high-is-part exact s =
      subst (λ (ts : List Term). Contains (cofactors order (remaining exact ts s)) (remaining exact rest (s +ℤ step.weight))) (sym split)
      (high-cofactor order 0 exact (term_of step) rest s falling variable-there)

  -- what is left behind the step stands below its variable
  pub part-below : (t : Table) (n : ℕ) (exact : Bool) (s : ℤ) → IsSound t → t.order ≡ order → IsLive t n → value_at t n ≡ remaining exact rest s → IsAbove t step.var.0 n
  part-below t n exact s sound same live value =
      let first = suc (level_in order step.var.0) in
      let none : DependsOnNoneAbove t.order (row_of t) first n = λ w above a b.
      subst (λ (f : Function). IsFreeOf w f) (sym value)
      (remaining-free order first exact rest s falling.1 w (subst (λ (vs : List Var). level_in vs w < first) same above)) a b in
      let level = ap (λ (vs : List Var). level_in vs step.var.0) same in
      let size = ap length same in
      let stands = (tell-levels t.order (row_of t) sound.reduced.rows n first (sound.reduced.live n live) (let here = variable-there in omega arith)).1 none in
      omega arith

  -- The halves of what is left.
  module _ (t : Table) (H : List ℕ) (exact : Bool) (low high : Part) where
    low-value : (s : ℤ) → AreHalves t H exact steps at low high s → value_at t (slice_index H low.place) ≡ remaining exact rest s
    low-value s halves = (halves.low_is.part_is.same s halves.low_is.now).value

    high-value : (s : ℤ) → AreHalves t H exact steps at low high s → value_at t (slice_index H high.place) ≡ remaining exact rest (s +ℤ step.weight)
    high-value s halves =
        subst (λ (w : ℤ). value_at t (slice_index H high.place) ≡ remaining exact rest (s +ℤ w)) weight
        (halves.high_is.part_is.same (s +ℤ weight_at steps at) halves.high_is.now).value

    pub low-place : (s : ℤ) → AreHalves t H exact steps at low high s → low.place < length H
    low-place s halves = (halves.low_is.part_is.same s halves.low_is.now).there

    pub high-place : (s : ℤ) → AreHalves t H exact steps at low high s → high.place < length H
    high-place s halves = (halves.high_is.part_is.same (s +ℤ weight_at steps at) halves.high_is.now).there

    pub low-below : (s : ℤ) → IsSound t → t.order ≡ order → AreHeld t H → AreHalves t H exact steps at low high s → IsAbove t step.var.0 (slice_index H low.place)
    low-below s sound same held halves =
        part-below t (slice_index H low.place) exact s sound same (held-live t H low.place held (low-place s halves)) (low-value s halves)

    pub high-below : (s : ℤ) → IsSound t → t.order ≡ order → AreHeld t H → AreHalves t H exact steps at low high s → IsAbove t step.var.0 (slice_index H high.place)
    high-below s sound same held halves =
        part-below t (slice_index H high.place) exact (s +ℤ step.weight) sound same (held-live t H high.place held (high-place s halves)) (high-value s halves)

    -- their fork is the whole
    pub halves-fork : (s : ℤ) → AreHalves t H exact steps at low high s
        → fork step.var.0 (value_at t (slice_index H low.place)) (value_at t (slice_index H high.place)) ≡ remaining exact (terms_from steps at) s
    halves-fork s halves =
        ap (λ (f : Function). fork step.var.0 f (value_at t (slice_index H high.place))) (low-value s halves)
        ∙ ap (λ (f : Function). fork step.var.0 (remaining exact rest s) f) (high-value s halves)
        ∙ remaining-fork exact (term_of step) rest s
        ∙ ap (λ (ts : List Term). remaining exact ts s) (sym split)

    -- and is so for each sum that is in the intervals of both
    module _ (s least greatest : ℤ) (halves : AreHalves t H exact steps at low high s)
        (least_is : least ≡ int_max low.least (high.least -ℤ step.weight)) (greatest_is : greatest ≡ int_min low.greatest (high.greatest -ℤ step.weight)) where
      again : (z : ℤ) → IsBetween least z greatest → AreHalves t H exact steps at low high z
      again z between =
          let same = weight in
          record {
            low_is = record {
              now = record { from = (let bottom = between.from in omega (arith, ints, clamps)); upto = (let top = between.upto in omega (arith, ints, clamps)) };
              part_is = halves.low_is.part_is;
            };
            high_is = record {
              now = record { from = (let bottom = between.from in omega (arith, ints, clamps)); upto = (let top = between.upto in omega (arith, ints, clamps)) };
              part_is = halves.high_is.part_is;
            };
          }

      pub whole-part : (u : Table) (H' : List ℕ) (place : ℕ)
          → HasValueAt u H' place (fork step.var.0 (value_at t (slice_index H low.place)) (value_at t (slice_index H high.place)))
          → IsPart u H' exact (terms_from steps at) (record { place = place; least = least; greatest = greatest })
      whole-part u H' place has = record {
        interval =
            let one = halves.low_is.part_is.interval in
            record { from = (let bottom = one.from in omega (arith, ints, clamps)); upto = (let top = one.upto in omega (arith, ints, clamps)) };
        same = λ z between. record { there = has.there; value = has.value ∙ halves-fork z (again z between) };
      }

      pub whole-now : IsBetween least s greatest
      whole-now =
          let same = weight in
          let one = halves.low_is.now in
          let two = halves.high_is.now in
          record { from = omega (arith, ints, clamps); upto = omega (arith, ints, clamps) }

-- The same for a step that was read there.
module _ (order : List Var) (steps : List Step) (at : ℕ) (read : Step) (inside : at < length steps) (planned : ArePlanned order steps) (is : read ≡ get_or steps at read) where
  pub read-there : IsIn order read.var.0
  read-there = subst (λ (s : Step). IsIn order s.var.0) (sym is) (variable-there order steps at read inside planned)

  pub read-small : (s : ℤ) → IsSmall (terms_from steps at) s → IsSmall (terms_from steps (at + 1)) (s +ℤ read.weight)
  read-small s small = subst (λ (r : Step). IsSmall (terms_from steps (at + 1)) (s +ℤ r.weight)) (sym is) (small-added order steps at read inside planned s small)

  pub read-high-part : (exact : Bool) (s : ℤ) → Contains (cofactors order (remaining exact (terms_from steps at) s)) (remaining exact (terms_from steps (at + 1)) (s +ℤ read.weight))
  read-high-part exact s =
      subst (λ (r : Step). Contains (cofactors order (remaining exact (terms_from steps at) s)) (remaining exact (terms_from steps (at + 1)) (s +ℤ r.weight))) (sym is)
      (high-is-part order steps at read inside planned exact s)

  pub read-weight : weight_at steps at ≡ read.weight
  read-weight = subst (λ (r : Step). weight_at steps at ≡ r.weight) (sym is) (weight-is steps at read inside)

  module _ (t : Table) (H : List ℕ) (exact : Bool) (low high : Part) where
    pub read-low-below : (s : ℤ) → IsSound t → t.order ≡ order → AreHeld t H → AreHalves t H exact steps at low high s → IsAbove t read.var.0 (slice_index H low.place)
    read-low-below s sound same held halves =
        subst (λ (r : Step). IsAbove t r.var.0 (slice_index H low.place)) (sym is) (low-below order steps at read inside planned t H exact low high s sound same held halves)

    pub read-high-below : (s : ℤ) → IsSound t → t.order ≡ order → AreHeld t H → AreHalves t H exact steps at low high s → IsAbove t read.var.0 (slice_index H high.place)
    read-high-below s sound same held halves =
        subst (λ (r : Step). IsAbove t r.var.0 (slice_index H high.place)) (sym is) (high-below order steps at read inside planned t H exact low high s sound same held halves)

    pub read-fork : (s : ℤ) → AreHalves t H exact steps at low high s
        → fork read.var.0 (value_at t (slice_index H low.place)) (value_at t (slice_index H high.place)) ≡ remaining exact (terms_from steps at) s
    read-fork s halves =
        subst (λ (r : Step). fork r.var.0 (value_at t (slice_index H low.place)) (value_at t (slice_index H high.place)) ≡ remaining exact (terms_from steps at) s) (sym is)
        (halves-fork order steps at read inside planned t H exact low high s halves)

    module _ (s least greatest : ℤ) (halves : AreHalves t H exact steps at low high s)
        (least_is : least ≡ int_max low.least (high.least -ℤ read.weight)) (greatest_is : greatest ≡ int_min low.greatest (high.greatest -ℤ read.weight)) where
      least_at : least ≡ int_max low.least (high.least -ℤ (get_or steps at read).weight)
      least_at = subst (λ (r : Step). least ≡ int_max low.least (high.least -ℤ r.weight)) is least_is

      greatest_at : greatest ≡ int_min low.greatest (high.greatest -ℤ (get_or steps at read).weight)
      greatest_at = subst (λ (r : Step). greatest ≡ int_min low.greatest (high.greatest -ℤ r.weight)) is greatest_is

      pub read-part : (u : Table) (H' : List ℕ) (place : ℕ)
          → HasValueAt u H' place (fork read.var.0 (value_at t (slice_index H low.place)) (value_at t (slice_index H high.place)))
          → IsPart u H' exact (terms_from steps at) (record { place = place; least = least; greatest = greatest })
      read-part u H' place has =
          whole-part order steps at read inside planned t H exact low high s least greatest halves least_at greatest_at u H' place
          (subst (λ (r : Step). HasValueAt u H' place (fork r.var.0 (value_at t (slice_index H low.place)) (value_at t (slice_index H high.place)))) is has)

      pub read-now : IsBetween least s greatest
      read-now = whole-now order steps at read inside planned t H exact low high s least greatest halves least_at greatest_at

-- a part that is looked up
pub recalled-part : (t : Table) (held : List ℕ) (exact : Bool) (steps : List Step) (known : BTreeMap (ℕ × ℤ) Known) (at : ℕ) (s : ℤ) (found : Option Part)
    → AreKnown t held exact steps known → IfSome found (λ part. IsBetween part.least s part.greatest)
    → IfSome found (λ part. get key_cmp known (at, part.least) ≡ Some (record { place = part.place; greatest = part.greatest }))
    → IfSome found (IsPartFor t held exact (terms_from steps at) s)
recalled-part t held exact steps known at s None are between is = tt
recalled-part t held exact steps known at s (Some part) are between is = record {
  now = between;
  part_is = are (at, part.least) (record { place = part.place; greatest = part.greatest }) is;
}

-- The numbers of a part are small.
pub record AreNear (part : Part) : Type 0 where
  pub least_from : (pos 0 -ℤ pos (2 ^ 126)) ≤ℤ part.least
  pub least_upto : part.least ≤ℤ pos (2 ^ 126)
  pub greatest_from : (pos 0 -ℤ pos (2 ^ 126)) ≤ℤ part.greatest
  pub greatest_upto : part.greatest ≤ℤ pos (2 ^ 126)

pub are-near : (t : Table) (H : List ℕ) (exact : Bool) (terms : List Term) (s : ℤ) (part : Part) → IsPartFor t H exact terms s part → AreNear part
are-near t H exact terms s part is =
    let one = is.part_is.interval in
    let two = is.now in
    record {
      least_from = one.from;
      least_upto = omega (arith, ints);
      greatest_from = omega (arith, ints);
      greatest_upto = one.upto;
    }

-- and so is the weight of a step
pub weight-small : (order : List Var) (steps : List Step) (at : ℕ) (read : Step) → at < length steps → ArePlanned order steps → read ≡ get_or steps at read → IsOfSize read.weight (2 ^ 126 - 1)
weight-small order steps at read inside planned is =
    let step = get_or steps at read in
    let one : size_of (terms_from steps at) ≡ unsigned_abs step.weight + size_of (terms_from steps (at + 1)) = ap size_of (split order steps at read inside planned) ∙ size-cons (term_of step) (terms_from steps (at + 1)) in
    let all = sizes steps at in
    let few = planned.sorted.size in
    let own = own-size step.weight in
    subst (λ (r : Step). IsOfSize r.weight (2 ^ 126 - 1)) (sym is) (record { from = omega (arith, ints); upto = omega (arith, ints) })

-- so what is computed of them fits
either : (b : Bool) (x y : ℤ) → FitsSigned w128 x → FitsSigned w128 y → FitsSigned w128 (cond b x y)
either true x y one two = one
either false x y one two = two

module _ (l h w : ℤ) (l_from : (pos 0 -ℤ pos (2 ^ 126)) ≤ℤ l) (l_upto : l ≤ℤ pos (2 ^ 126)) (h_from : (pos 0 -ℤ pos (2 ^ 126)) ≤ℤ h) (h_upto : h ≤ℤ pos (2 ^ 126)) (small : IsOfSize w (2 ^ 126 - 1)) where
  fits_w : FitsSigned w128 w
  fits_w = fits-small w (let bottom = small.from in omega (arith, ints)) (let top = small.upto in omega (arith, ints))

  fits_d : FitsSigned w128 (h -ℤ w)
  fits_d = fits-wide (h -ℤ w) (let top = small.upto in omega (arith, ints)) (let bottom = small.from in omega (arith, ints))

  same : (to_z w128 (of_z w128 h) -ℤ to_z w128 (of_z w128 w)) ≡ (h -ℤ w)
  same = ap (λ (z : ℤ). z -ℤ to_z w128 (of_z w128 w)) (to_z-of_z w128 h (fits-small h h_from h_upto)) ∙ ap (λ (z : ℤ). h -ℤ z) (to_z-of_z w128 w fits_w)

  pub moved-fits : FitsSigned w128 (to_z w128 (of_z w128 h) -ℤ to_z w128 (of_z w128 w))
  moved-fits = subst (λ (z : ℤ). FitsSigned w128 z) (sym same) fits_d

  moved : to_z w128 (of_z w128 (to_z w128 (of_z w128 h) -ℤ to_z w128 (of_z w128 w))) ≡ (h -ℤ w)
  moved = to_z-of_z w128 (to_z w128 (of_z w128 h) -ℤ to_z w128 (of_z w128 w)) moved-fits ∙ same

  pub max-is : (m : ℤ) → m ≡ int_max (to_z w128 (of_z w128 l)) (to_z w128 (of_z w128 (to_z w128 (of_z w128 h) -ℤ to_z w128 (of_z w128 w)))) → to_z w128 (of_z w128 m) ≡ int_max l (h -ℤ w)
  max-is m is =
      let value : m ≡ int_max l (h -ℤ w) = is ∙ ap (λ (z : ℤ). int_max z (to_z w128 (of_z w128 (to_z w128 (of_z w128 h) -ℤ to_z w128 (of_z w128 w))))) (to_z-of_z w128 l (fits-small l l_from l_upto)) ∙ ap (int_max l) moved in
      to_z-of_z w128 m (subst (λ (z : ℤ). FitsSigned w128 z) (sym value) (either (int_lt (h -ℤ w) l) l (h -ℤ w) (fits-small l l_from l_upto) fits_d)) ∙ value

  pub min-is : (m : ℤ) → m ≡ int_min (to_z w128 (of_z w128 l)) (to_z w128 (of_z w128 (to_z w128 (of_z w128 h) -ℤ to_z w128 (of_z w128 w)))) → to_z w128 (of_z w128 m) ≡ int_min l (h -ℤ w)
  min-is m is =
      let value : m ≡ int_min l (h -ℤ w) = is ∙ ap (λ (z : ℤ). int_min z (to_z w128 (of_z w128 (to_z w128 (of_z w128 h) -ℤ to_z w128 (of_z w128 w))))) (to_z-of_z w128 l (fits-small l l_from l_upto)) ∙ ap (int_min l) moved in
      to_z-of_z w128 m (subst (λ (z : ℤ). FitsSigned w128 z) (sym value) (either (int_lt (h -ℤ w) l) (h -ℤ w) l fits_d (fits-small l l_from l_upto))) ∙ value

-- nothing is done
pub nothing-added : (t : Table) (held : List ℕ) (f : Function) (most : ℕ) → IsSound t → 0 < most → Adds t held t held f most
nothing-added t held f most sound some =
    adds-none t t held held f most (keeps_all t sound) (record { each = λ n. refl; total = refl }) refl some

pub some-left : (found : Option Part) (P : Type 0) → P → IfNone found P
some-left None P is = is
some-left (Some part) P is = tt

-- where the bounds differ a step is left
pub step-left : (steps : List Step) (at : ℕ) (l g : ℤ) → l ≡ least_total (terms_from steps at) → g ≡ greatest_total (terms_from steps at) → l <ℤ g → at < length steps
step-left steps at l g least greatest less = elim (none-left steps at) [
  | inr inside ↦ inside
  | inl none ↦ absurd (let same : l ≡ g = least ∙ none ∙ sym greatest in omega (arith, ints))
]

-- the constant is that of the bounds
pub settles-at : (exact : Bool) (s s' l l' g g' : ℤ) (settled : Settled) → s' ≡ s → l' ≡ l → g' ≡ g → Settles exact s' l' g' settled → Settles exact s l g settled
settles-at exact s s' l l' g g' settled one two three is =
    subst (λ (z : ℤ). Settles exact z l g settled) one (subst (λ (z : ℤ). Settles exact s' z g settled) two (subst (λ (z : ℤ). Settles exact s' l' z settled) three is))

-- small numbers in other words
pub small-same : (s s' l l' g g' : ℤ) → s' ≡ s → l' ≡ l → g' ≡ g → AreSmall s l g → AreSmall s' l' g'
small-same s s' l l' g g' one two three is =
    subst (λ (z : ℤ). AreSmall z l' g') (sym one) (subst (λ (z : ℤ). AreSmall s z g') (sym two) (subst (λ (z : ℤ). AreSmall s l z) (sym three) is))

-- a small bound in other words
pub bound-is : (z l : ℤ) → z ≡ l → (pos 0 -ℤ pos (2 ^ 126)) ≤ℤ l → l ≤ℤ pos (2 ^ 126) → to_z w128 (of_z w128 z) ≡ l
bound-is z l is from upto = to_z-of_z w128 z (subst (λ (y : ℤ). FitsSigned w128 y) (sym is) (fits-small l from upto)) ∙ is

pub least-bound : (s l g z : ℤ) → AreSmall s l g → z ≡ l → to_z w128 (of_z w128 z) ≡ l
least-bound s l g z small is = bound-is z l is (let one = small.least_small in omega (arith, ints)) (let one = small.least_is in omega (arith, ints))

pub greatest-bound : (s l g z : ℤ) → AreSmall s l g → z ≡ g → to_z w128 (of_z w128 z) ≡ g
greatest-bound s l g z small is = bound-is z g is (let one = small.greatest_is in omega (arith, ints)) (let one = small.greatest_small in omega (arith, ints))

-- a constant as a part, its interval in other words
pub settled-told : (u : Table) (held : List ℕ) (exact : Bool) (terms : List Term) (s : ℤ) (settled : Settled) (place : ℕ)
    → AreSmall s (least_total terms) (greatest_total terms) → Settles exact s (least_total terms) (greatest_total terms) settled → HasValueAt u held place (λ (a : ℕ → Bool). settled.value)
    → IsPartFor u held exact terms s (record { place = place; least = to_z w128 (of_z w128 settled.least); greatest = to_z w128 (of_z w128 settled.greatest) })
settled-told u held exact terms s settled place small is has =
    let one = is.interval in
    let two = is.now in
    let least : to_z w128 (of_z w128 settled.least) ≡ settled.least = to_z-of_z w128 settled.least (fits-small settled.least one.from (omega (arith, ints))) in
    let greatest : to_z w128 (of_z w128 settled.greatest) ≡ settled.greatest = to_z-of_z w128 settled.greatest (fits-small settled.greatest (omega (arith, ints)) one.upto) in
    subst (λ (z : ℤ). IsPartFor u held exact terms s (record { place = place; least = z; greatest = to_z w128 (of_z w128 settled.greatest) })) (sym least)
    (subst (λ (z : ℤ). IsPartFor u held exact terms s (record { place = place; least = settled.least; greatest = z })) (sym greatest)
    (settled-part u held exact terms s settled place is has))

-- the sum so far with a weight
module _ (s w : ℤ) (fits_s : FitsSigned w128 s) (small_w : IsOfSize w (2 ^ 126 - 1)) (sum : unsigned_abs (s +ℤ w) ≤ 2 ^ 126) where
  same_sum : (to_z w128 (of_z w128 s) +ℤ to_z w128 (of_z w128 w)) ≡ (s +ℤ w)
  same_sum =
      ap (λ (z : ℤ). z +ℤ to_z w128 (of_z w128 w)) (to_z-of_z w128 s fits_s)
      ∙ ap (λ (z : ℤ). s +ℤ z) (to_z-of_z w128 w (fits-small w (let bottom = small_w.from in omega (arith, ints)) (let top = small_w.upto in omega (arith, ints))))

  pub added-fits : FitsSigned w128 (to_z w128 (of_z w128 s) +ℤ to_z w128 (of_z w128 w))
  added-fits = subst (λ (z : ℤ). FitsSigned w128 z) (sym same_sum) (let own = own-size (s +ℤ w) in fits-small (s +ℤ w) (omega (arith, ints)) (omega (arith, ints)))

  pub added-is : to_z w128 (of_z w128 (to_z w128 (of_z w128 s) +ℤ to_z w128 (of_z w128 w))) ≡ (s +ℤ w)
  added-is = to_z-of_z w128 (to_z w128 (of_z w128 s) +ℤ to_z w128 (of_z w128 w)) added-fits ∙ same_sum

-- what is said of an answer, at what it is
pub some-of : (found : Option Part) (part : Part) (P : Part → Type 0) → found ≡ Some part → IfSome found P → P part
some-of found part P is has = subst (λ (o : Option Part). IfSome o P) is has

pub none-of : (found : Option Part) (P : Type 0) → found ≡ None → IfNone found P → P
none-of found P is has = subst (λ (o : Option Part). IfNone o P) is has

pub err-of : (result : Result Part Refusal) (P Q : Refusal → Type 0) → ((r : Refusal) → P r → Q r) → IfErr result P → IfErr result Q
err-of (Ok part) P Q more is = tt
err-of (Err r) P Q more is = more r is
