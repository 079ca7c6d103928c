-- The sweep over the levels, and what is noted behind it.
use Rattle.std.proofs.Common.{◌≡◌, ◌≢◌, ◌⊎◌, ◌↔◌, ◌==◌, ℕ, zero, suc, ◌+◌, ◌<◌, ◌≤◌, Bool, true, false, if◌then◌else◌, IsTrue, List, [], ◌∷◌, length, get_or, slice_index, max, Option, refl, ap, sym, ◌∙◌, subst, inl, inr, arith}
use Rattle.std.proofs.lemmas.Bool.{cases_eq, cases_lt, eqb-true, eq-eqb}
use Rattle.std.proofs.lemmas.List.Elements.{All-cons, All-head, All-tail}
use Rattle.dd_store.specs.declared.row.Var.{Var}
use Rattle.dd_store.specs.Exhausted.{value_at}
use Rattle.dd_store.specs.Follow.{with_value}
use Rattle.dd_store.specs.Order.{level_in, IsDistinct}
use Rattle.dd_store.specs.Table.{Table, top_of, level_of, IsSound, IsVariable}
use Rattle.dd_quant.specs.declared.literal.Literal.{Literal}
use Rattle.dd_quant.specs.declared.offer.Offer.{Offer}
use Rattle.dd_quant.specs.Offers.{AreOffers}
use Rattle.dd_quant.specs.Possible.{literal_of}
use Rattle.dd_quant.specs.steps.Given.{CanTake, Allows, AreGiven, IsContradictory, given_for}
use Rattle.dd_quant.specs.steps.Walk.{CanBe}
use Rattle.dd_quant.specs.steps.Noted.{HasNote, IsPassed, IsNotedFrom, CanHave, NotesMore}
use Rattle.dd_quant.proofs.GivenLemmas.{meets-with}
use Rattle.dd_quant.proofs.StepLemmas.{one-level}
use Rattle.dd_quant.proofs.WalkLemmas.{value-above, with-itself}

-- the variable on a level has the level
pub level-on : (order : List Var) (d : Var) → IsDistinct order → (l : ℕ) → l < length order → level_in order (get_or order l d).0 ≡ l
level-on [] d distinct l inside = absurd (omega arith)
level-on (w ∷ ws) d distinct zero inside = ap (λ (b : Bool). if b then 0 else suc (level_in ws w.0)) (eq-eqb w.0 w.0 refl)
level-on (w ∷ ws) d distinct (suc l) inside = by (w.0 == (get_or ws l d).0) refl (level-on ws d distinct.1 l (omega arith))
  where
    by : (b : Bool) → (w.0 == (get_or ws l d).0) ≡ b → level_in ws (get_or ws l d).0 ≡ l → (if b then 0 else suc (level_in ws (get_or ws l d).0)) ≡ suc l
    by true e rest = absurd (
        let same : level_in ws w.0 ≡ level_in ws (get_or ws l d).0 = ap (level_in ws) (eqb-true w.0 (get_or ws l d).0 e) in
        let first = distinct.0 in omega arith
        )
    by false e rest = ap suc rest

-- and is there
pub variable-on : (t : Table) → IsSound t → (d : Var) (l : ℕ) → l < length t.order → IsVariable t (get_or t.order l d).0
variable-on t sound d l inside = let level = level-on t.order d sound.reduced.rows.distinct l inside in omega arith

-- the same of a list that is the order
pub item-variable : (t : Table) → IsSound t → (vs : List Var) → vs ≡ t.order → (d : Var) (i : ℕ) → i < length vs → IsVariable t (get_or vs i d).0 × (level_of t (get_or vs i d).0 ≡ i)
item-variable t sound vs is d i inside =
    let within : i < length t.order = (let size = ap length is in omega arith) in
    let back : get_or t.order i d ≡ get_or vs i d = ap (λ (us : List Var). get_or us i d) (sym is) in (
      subst (λ (v : Var). IsVariable t v.0) back (variable-on t sound d i within),
      subst (λ (v : Var). level_of t v.0 ≡ i) back (level-on t.order d sound.reduced.rows.distinct i within),
    )

pub item-below : (t : Table) → IsSound t → (vs : List Var) → vs ≡ t.order → (d : Var) (i n : ℕ) → i < length vs → n ≡ length t.order → (get_or vs i d).0 < n
item-below t sound vs is d i n inside size = let less = sound.numbered (get_or vs i d).0 (item-variable t sound vs is d i inside).0 in omega arith

-- how far the edges lead that begin above a level
pub reached-more : (far : List ℕ) (i r r' : ℕ) → r' ≡ max (slice_index far i) r → ((k : ℕ) → (k < r) ↔ ((j : ℕ) × (j < i) × (k < slice_index far j)))
    → (k : ℕ) → (k < r') ↔ ((j : ℕ) × (j < i + 1) × (k < slice_index far j))
reached-more far i r r' most reached k = (forth, back)
  where
    forth : k < r' → (j : ℕ) × (j < i + 1) × (k < slice_index far j)
    forth less = elim (cases_lt k (slice_index far i)) [
      | inl here ↦ (i, (omega arith), here)
      | inr past ↦ (let old = (reached k).0 (omega arith) in (old.0, (let before = old.1 in omega arith), old.2))
    ]

    back : (j : ℕ) × (j < i + 1) × (k < slice_index far j) → k < r'
    back (j, before, less) = elim (cases_eq j i) [
      | inl same ↦ (let here : k < slice_index far i = subst (λ (m : ℕ). k < slice_index far m) same less in omega arith)
      | inr other ↦ (let old = (reached k).1 (j, (omega arith), less) in omega arith)
    ]

module _ (t : Table) (sound : IsSound t) (values : List (Option Bool)) (far : List ℕ) (i r u : ℕ) (inside : IsVariable t u) (level : level_of t u ≡ i)
    (reached : (k : ℕ) → (k < r) ↔ ((j : ℕ) × (j < i + 1) × (k < slice_index far j))) (o0 o o' : List Offer)
    (step : (w : ℕ) (c : Bool) → HasNote o' w c ↔ (HasNote o w c ⊎ ((i < r) × (w ≡ u) × CanTake (given_for values u) c))) where
  abbrev pub IsDone : List Offer → ℕ → Bool → Type 0
  IsDone offers v c = HasNote offers v c ↔ (HasNote o0 v c ⊎ (IsPassed far (level_of t v) × Allows values v c))

  abbrev pub IsLeft : List Offer → ℕ → Bool → Type 0
  IsLeft offers v c = HasNote offers v c ↔ HasNote o0 v c

  other-same : (w : ℕ) (c : Bool) → level_of t w ≢ i → HasNote o' w c ↔ HasNote o w c
  other-same w c apart = (
    (λ has. elim ((step w c).0 has) [ inl before ↦ before | inr new' ↦ absurd (apart (ap (level_of t) new'.1 ∙ level)) ]),
    (λ has. (step w c).1 (inl has)),
  )

  passed-now : IsPassed far i ↔ (i < r)
  passed-now = (
    (λ (j, above, less). (reached i).1 (j, (omega arith), less)),
    (λ less. let some = (reached i).0 less in (some.0, (let before = some.1 in omega arith), some.2)),
  )

  pub swept-done : ((v : ℕ) (c : Bool) → IsVariable t v → level_of t v < i → IsDone o v c) → ((v : ℕ) (c : Bool) → IsVariable t v → i ≤ level_of t v → IsLeft o v c)
      → (v : ℕ) (c : Bool) → IsVariable t v → level_of t v < i + 1 → IsDone o' v c
  swept-done done left v c there below = elim (cases_lt (level_of t v) i) [
    | inl above ↦ (
      (λ has. (done v c there above).0 ((other-same v c (λ same. omega arith)).0 has)),
      (λ either. (other-same v c (λ same. omega arith)).1 ((done v c there above).1 either)),
    )
    | inr at ↦
        let here : level_of t v ≡ i = omega arith in
        let same : v ≡ u = one-level t.order v u there (here ∙ sym level) in (
          (λ has. elim ((step v c).0 has) [
            | inl before ↦ inl ((left v c there at).0 before)
            | inr new' ↦ inr (
              subst (λ (l : ℕ). IsPassed far l) (sym here) (passed-now.1 new'.0),
              subst (λ (w : ℕ). CanTake (given_for values w) c) (sym same) new'.2,
            )
          ]),
          (λ either. (step v c).1 (elim either [
            | inl before ↦ inl ((left v c there at).1 before)
            | inr new' ↦ inr (
              passed-now.0 (subst (λ (l : ℕ). IsPassed far l) here new'.0),
              same,
              subst (λ (w : ℕ). CanTake (given_for values w) c) same new'.1,
            )
          ])),
        )
  ]

  pub swept-left : ((v : ℕ) (c : Bool) → IsVariable t v → i ≤ level_of t v → IsLeft o v c) → (v : ℕ) (c : Bool) → IsVariable t v → i + 1 ≤ level_of t v → IsLeft o' v c
  swept-left left v c there below = (
    (λ has. (left v c there (omega arith)).0 ((other-same v c (λ same. omega arith)).0 has)),
    (λ has. (other-same v c (λ same. omega arith)).1 ((left v c there (omega arith)).1 has)),
  )

-- What is noted behind the walk, the root's levels and the sweep.
module _ (t : Table) (sound : IsSound t) (values : List (Option Bool)) (n : ℕ) (o0 o1 o2 : List Offer) (f0 f1 f2 : List ℕ) (r : Bool)
    (blank : (v : ℕ) (b : Bool) → HasNote o0 v b → ⊥) (fresh : (l : ℕ) → IsPassed f0 l → ⊥)
    (can : IsTrue r ↔ CanBe t values n) (from : IsNotedFrom t values o1 f1 n) (more : NotesMore t values n o0 o1 f0 f1)
    (root : (l : ℕ) → IsPassed f2 l ↔ (IsPassed f1 l ⊎ ((r ≡ true) × (0 ≤ l) × (l < top_of t n))))
    (swept : (v : ℕ) (b : Bool) → IsVariable t v → HasNote o2 v b ↔ (HasNote o1 v b ⊎ (IsPassed f2 (level_of t v) × Allows values v b))) where
  pub noted-all : (v : ℕ) (b : Bool) → IsVariable t v → HasNote o2 v b ↔ CanHave t values n v b
  noted-all v b inside = (forth, back)
    where
      above : IsTrue r → level_of t v < top_of t n → Allows values v b → CanHave t values n v b
      above so less allows =
          let (a, meets, is) = can.0 so in
          (with_value a v b, meets-with values a v b meets allows, value-above t sound n v a b less ∙ is, with-itself a v b)

      forth : HasNote o2 v b → CanHave t values n v b
      forth has = elim ((swept v b inside).0 has) [
        | inl noted ↦ (elim (more.new_noted v b noted) [ inl old ↦ absurd (blank v b old) | inr new' ↦ new'.1 ])
        | inr passed ↦ (elim ((root (level_of t v)).0 passed.0) [
          | inl walked ↦ (elim (more.new_passed v b inside passed.1 walked) [ inl old ↦ absurd (fresh (level_of t v) old) | inr new' ↦ new'.1 ])
          | inr rooted ↦ above rooted.0 rooted.2 passed.1
        ])
      ]

      back : CanHave t values n v b → HasNote o2 v b
      back (a, meets, so, is) = (swept v b inside).1 (elim (cases_lt (level_of t v) (top_of t n)) [
        | inl less ↦ inr ((root (level_of t v)).1 (inr (can.1 (a, meets, so), (omega arith), less)), allowed)
        | inr below ↦ (elim (from a meets so v inside below) [
          | inl has ↦ inl (subst (λ (c : Bool). HasNote o1 v c) is has)
          | inr passed ↦ inr ((root (level_of t v)).1 (inl passed), allowed)
        ])
      ])
        where
          allowed : Allows values v b
          allowed c given = sym is ∙ meets v c given

-- the offers are those that the literals leave
pub all-offers : (t : Table) → IsSound t → (given : List Literal) (values : List (Option Bool)) (n : ℕ) (offers : List Offer) → AreGiven (length t.order) given values → length offers ≡ length t.order
    → ((v : ℕ) (b : Bool) → IsVariable t v → HasNote offers v b ↔ CanHave t values n v b) → AreOffers t.order (value_at t n) given offers
all-offers t sound given values n offers are size each = record {
  number = size;
  each = λ v b less. (
    (λ has. let (a, meets, so, is) = (each v b (sound.has_numbers v less)).0 has in
        (a, All-cons (λ (l : Literal). a l.var.0 ≡ l.value) (literal_of v b) given is ((are.agree a).1 meets), so)),
    (λ (a, agrees, so). (each v b (sound.has_numbers v less)).1
        (a, (are.agree a).0 (All-tail (λ (l : Literal). a l.var.0 ≡ l.value) (literal_of v b) given agrees), so, All-head (λ (l : Literal). a l.var.0 ≡ l.value) (literal_of v b) given agrees)),
  );
}

pub no-offers : (t : Table) (given : List Literal) (n : ℕ) (offers : List Offer) → IsContradictory given → length offers ≡ length t.order
    → ((v : ℕ) (b : Bool) → HasNote offers v b → ⊥) → AreOffers t.order (value_at t n) given offers
no-offers t given n offers against size blank = record {
  number = size;
  each = λ v b less. (
    (λ has. absurd (blank v b has)),
    (λ (a, agrees, so). absurd (against a (All-tail (λ (l : Literal). a l.var.0 ≡ l.value) (literal_of v b) given agrees))),
  );
}
