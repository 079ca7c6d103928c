-- One step of the walk that notes: what is noted of a node's ends is noted of the node.
use Rattle.std.proofs.Common.{◌≡◌, ◌≢◌, ◌↔◌, ◌||◌, ◌==◌, ℕ, suc, ◌<◌, ◌≤◌, Bool, true, false, cond, IsTrue, OnOk, Result, Ok, Err, List, [], ◌∷◌, length, Option, Some, None, refl, ap, sym, ◌∙◌, subst, inl, inr, arith}
use Rattle.std.proofs.lemmas.Bool.{cases_eq, cases_lt, eqb-true, or_left, or_right, or_cases}
use Rattle.dd_store.specs.declared.row.Var.{Var}
use Rattle.dd_store.specs.Follow.{with_value}
use Rattle.dd_store.specs.Order.{level_in, level_of_row, IsIn}
use Rattle.dd_store.specs.Table.{Table, value_of, top_of, level_of, IsSound}
use Rattle.dd_store.proofs.ReadLemmas.{none-constant}
use Rattle.dd_quant.specs.declared.offer.Offer.{Offer}
use Rattle.dd_quant.specs.steps.Given.{Allows}
use Rattle.dd_quant.specs.steps.Marked.{found_of}
use Rattle.dd_quant.specs.steps.Walk.{CanBe, HasOpenEnds}
use Rattle.dd_quant.specs.steps.Noted.{HasNote, IsPassed, IsNotedFrom, AreNoted, CanHave, NotesMore, NotesEdge}
use Rattle.dd_quant.proofs.GivenLemmas.{meets-with}
use Rattle.dd_quant.proofs.WalkLemmas.{value-above, with-itself, with-other, end_for, end-above, taken, lifted, can-be-by, can-be-from}

-- two variables of one level are the same
pub one-level : (vs : List Var) (v w : ℕ) → IsIn vs v → level_in vs v ≡ level_in vs w → v ≡ w
one-level [] v w inside same = absurd (omega arith)
one-level (u ∷ us) v w inside same = by (u.0 == v) (u.0 == w) refl refl inside same (one-level us v w)
  where
    by : (s t : Bool) → (u.0 == v) ≡ s → (u.0 == w) ≡ t → cond s 0 (suc (level_in us v)) < suc (length us)
        → cond s 0 (suc (level_in us v)) ≡ cond t 0 (suc (level_in us w)) → (IsIn us v → level_in us v ≡ level_in us w → v ≡ w) → v ≡ w
    by true true e f inside same rest = sym (eqb-true u.0 v e) ∙ eqb-true u.0 w f
    by true false e f inside same rest = absurd (omega arith)
    by false true e f inside same rest = absurd (omega arith)
    by false false e f inside same rest = rest (omega arith) (omega arith)

-- what was open stays open
pub noted-grows : (t : Table) (values : List (Option Bool)) (offers offers' : List Offer) (far far' : List ℕ) (n : ℕ)
    → ((v : ℕ) (b : Bool) → HasNote offers v b → HasNote offers' v b) → ((l : ℕ) → IsPassed far l → IsPassed far' l)
    → IsNotedFrom t values offers far n → IsNotedFrom t values offers' far' n
noted-grows t values offers offers' far far' n note pass from a meets so v inside below = elim (from a meets so v inside below) [
  | inl has ↦ inl (note v (a v) has)
  | inr is ↦ inr (pass (level_of t v) is)
]

-- so do the marks over an edge
pub edge-marks : (t : Table) (values marks : List (Option Bool)) (r : Bool) (v : ℕ) (b : Bool) (level below : ℕ) (o o' : List Offer) (f f' : List ℕ)
    → NotesEdge r v b level below o o' f f' → AreNoted t values marks o f → AreNoted t values marks o' f'
edge-marks t values marks r v b level below o o' f f' edge noted m c at = noted-grows t values o o' f f' m edge.noted edge.passed (noted m c at)

-- a walk that notes nothing
pub more-none : (t : Table) (values : List (Option Bool)) (n : ℕ) (offers : List Offer) (far : List ℕ) → NotesMore t values n offers offers far far
more-none t values n offers far = record {
  noted = λ v b has. has;
  passed = λ l is. is;
  new_noted = λ v b has. inl has;
  new_passed = λ v b inside allows is. inl is;
  offers_number = refl;
  far_number = refl;
}

-- one behind another
pub more-then : (t : Table) (values : List (Option Bool)) (n : ℕ) (o o' o'' : List Offer) (f f' f'' : List ℕ)
    → NotesMore t values n o o' f f' → NotesMore t values n o' o'' f' f'' → NotesMore t values n o o'' f f''
more-then t values n o o' o'' f f' f'' one two = record {
  noted = λ v b has. two.noted v b (one.noted v b has);
  passed = λ l is. two.passed l (one.passed l is);
  new_noted = λ v b has. elim (two.new_noted v b has) [ inl before ↦ one.new_noted v b before | inr can ↦ inr can ];
  new_passed = λ v b inside allows is. elim (two.new_passed v b inside allows is) [ inl before ↦ one.new_passed v b inside allows before | inr can ↦ inr can ];
  offers_number = two.offers_number ∙ one.offers_number;
  far_number = two.far_number ∙ one.far_number;
}

-- of a constant no variable stands below
pub noted-constant : (t : Table) → IsSound t → (values : List (Option Bool)) (offers : List Offer) (far : List ℕ) (n : ℕ) → n < 2 → IsNotedFrom t values offers far n
noted-constant t sound values offers far n small a meets so v inside below =
    absurd (let none = none-constant t n sound small in
    let top : top_of t n ≡ length t.order = ap (level_of_row t.order) none in omega arith)

-- a node that is marked
pub noted-kept : (t : Table) (values marks marks' : List (Option Bool)) (offers : List Offer) (far : List ℕ) (n : ℕ) → AreNoted t values marks offers far
    → IsNotedFrom t values offers far n → ((m : ℕ) → m ≢ n → found_of marks' m ≡ found_of marks m) → AreNoted t values marks' offers far
noted-kept t values marks marks' offers far n noted is others m b at = elim (cases_eq m n) [
  | inl same ↦ subst (λ (k : ℕ). IsNotedFrom t values offers far k) (sym same) is
  | inr other ↦ noted m b (sym (others m other) ∙ at)
]

pub noted-told : {E : Type 0} (t : Table) (values marks marks' : List (Option Bool)) (offers : List Offer) (far : List ℕ) (n : ℕ) (result : Result Bool E) → AreNoted t values marks offers far
    → IsNotedFrom t values offers far n → ((m : ℕ) → m ≢ n → found_of marks' m ≡ found_of marks m) → OnOk result (AreNoted t values marks' offers far)
noted-told t values marks marks' offers far n (Ok b) noted is others = noted-kept t values marks marks' offers far n noted is others
noted-told t values marks marks' offers far n (Err e) noted is others = tt

pub told-all : {E : Type 0} (P : Type 0) (result : Result Bool E) → P → OnOk result P
told-all P (Ok b) is = is
told-all P (Err e) is = tt

-- at the start no node is marked
pub noted-none : (t : Table) (values marks : List (Option Bool)) (offers : List Offer) (far : List ℕ) → ((n : ℕ) → found_of marks n ≡ None) → AreNoted t values marks offers far
noted-none t values marks offers far none n b at = absurd (let no = none n in let both : None ≡ Some b = sym no ∙ at in cc)

module _ (t : Table) (sound : IsSound t) (values : List (Option Bool)) (n v low high : ℕ) (ends : HasOpenEnds t values n v low high) where
  -- a variable that isn't above an end is another one
  not-own : (b : Bool) (w : ℕ) → top_of t (end_for low high b) ≤ level_of t w → w ≢ v
  not-own b w below same = let above = end-above t sound values n v low high ends b in let level = ap (level_of t) same in omega arith

  -- what an end can have the node can have
  have-lifted : (b : Bool) (w : ℕ) (c : Bool) → w ≢ v → CanHave t values (end_for low high b) w c → CanHave t values n w c
  have-lifted b w c other (a, meets, so, is) =
      let up = lifted t sound values n v low high ends b a meets so in (with_value a v b, up.0, up.1, with-other a v b w other ∙ is)

  pub more-lifted : (b : Bool) (o o' : List Offer) (f f' : List ℕ) → NotesMore t values (end_for low high b) o o' f f' → NotesMore t values n o o' f f'
  more-lifted b o o' f f' more = record {
    noted = more.noted;
    passed = more.passed;
    new_noted = λ w c has. elim (more.new_noted w c has) [ inl before ↦ inl before | inr can ↦ inr (up w c can) ];
    new_passed = λ w c inside allows is. elim (more.new_passed w c inside allows is) [ inl before ↦ inl before | inr can ↦ inr (up w c can) ];
    offers_number = more.offers_number;
    far_number = more.far_number;
  }
    where
      up : (w : ℕ) (c : Bool) → (top_of t (end_for low high b) ≤ level_of t w) × CanHave t values (end_for low high b) w c → (top_of t n ≤ level_of t w) × CanHave t values n w c
      up w c (below, can) = (
        (let above = end-above t sound values n v low high ends b in let top = ends.top in omega arith),
        have-lifted b w c (not-own b w below) can,
      )

  -- an edge to an end that can be true
  pub more-edge : (b r : Bool) (o o' : List Offer) (f f' : List ℕ) → IsTrue r ↔ CanBe t values (end_for low high b)
      → NotesEdge r v b (level_of t v) (top_of t (end_for low high b)) o o' f f' → NotesMore t values n o o' f f'
  more-edge b r o o' f f' can edge = record {
    noted = edge.noted;
    passed = edge.passed;
    new_noted = λ w c has. elim (edge.new_noted w c has) [ inl before ↦ inl before | inr new' ↦ inr (here w c new'.1 new'.2 (can.0 new'.0)) ];
    new_passed = λ w c inside allows is. elim (edge.new_passed (level_of t w) is) [ inl before ↦ inl before | inr new' ↦ inr (past w c new'.1 new'.2 allows (can.0 new'.0)) ];
    offers_number = edge.offers_number;
    far_number = edge.far_number;
  }
    where
      here : (w : ℕ) (c : Bool) → w ≡ v → c ≡ b → CanBe t values (end_for low high b) → (top_of t n ≤ level_of t w) × CanHave t values n w c
      here w c same is (a, meets, so) =
          let up = lifted t sound values n v low high ends b a meets so in (
            (let level = ap (level_of t) same in let top = ends.top in omega arith),
            (with_value a v b, up.0, up.1, ap (with_value a v b) same ∙ with-itself a v b ∙ sym is),
          )

      past : (w : ℕ) (c : Bool) → level_of t v < level_of t w → level_of t w < top_of t (end_for low high b) → Allows values w c → CanBe t values (end_for low high b)
          → (top_of t n ≤ level_of t w) × CanHave t values n w c
      past w c above less allows (a, meets, so) = (
        (let top = ends.top in omega arith),
        have-lifted b w c (λ same. let level = ap (level_of t) same in omega arith)
            (with_value a w c, meets-with values a w c meets allows, value-above t sound (end_for low high b) w a c less ∙ so, with-itself a w c),
      )

  -- The node is noted where each of its ends is and the edges are: of an end that the assignment takes the edge is noted
  -- by o and f.
  pub from-ends : (o : List Offer) (f : List ℕ)
      → ((b : Bool) → CanBe t values (end_for low high b) → HasNote o v b)
      → ((b : Bool) → CanBe t values (end_for low high b) → (l : ℕ) → level_of t v < l → l < top_of t (end_for low high b) → IsPassed f l)
      → ((b : Bool) → IsNotedFrom t values o f (end_for low high b)) → IsNotedFrom t values o f n
  from-ends o f here past below a meets so w inside at =
      let so' : value_of t (end_for low high (a v)) a ≡ true = sym (taken t sound values n v low high ends a meets) ∙ so in
      let can : CanBe t values (end_for low high (a v)) = (a, meets, so') in
      elim (cases_lt (level_of t v) (level_of t w)) [
        | inl lower ↦ elim (cases_lt (level_of t w) (top_of t (end_for low high (a v)))) [
          | inl between ↦ inr (past (a v) can (level_of t w) lower between)
          | inr under ↦ below (a v) a meets so' w inside under
        ]
        | inr not ↦
            let same : v ≡ w = one-level t.order v w ends.variable (let top = ends.top in omega arith) in
            inl (subst (λ (u : ℕ). HasNote o u (a u)) same (here (a v) can))
      ]

  -- whether one of the ends can be true
  pub either-can : (r s q : Bool) → IsTrue r ↔ CanBe t values low → IsTrue s ↔ CanBe t values high → q ≡ (r || s) → IsTrue q ↔ CanBe t values n
  either-can r s q by_low by_high is = (
    (λ so. elim (or_cases r s (sym is ∙ so)) [
      | inl one ↦ can-be-by t sound values n v low high ends false (by_low.0 one)
      | inr two ↦ can-be-by t sound values n v low high ends true (by_high.0 two)
    ]),
    (λ can. is ∙ (elim (can-be-from t sound values n v low high ends can) [
      | inl one ↦ or_left r s (by_low.1 one)
      | inr two ↦ or_right r s (by_high.1 two)
    ])),
  )

  -- The whole step: down the low end, its edge, down the high end, its edge.
  module _ (o0 o1 o2 o3 o4 : List Offer) (f0 f1 f2 f3 f4 : List ℕ) (r s : Bool)
      (by_low : IsTrue r ↔ CanBe t values low) (by_high : IsTrue s ↔ CanBe t values high)
      (first : NotesMore t values low o0 o1 f0 f1) (second : NotesEdge r v false (level_of t v) (top_of t low) o1 o2 f1 f2)
      (third : NotesMore t values high o2 o3 f2 f3) (fourth : NotesEdge s v true (level_of t v) (top_of t high) o3 o4 f3 f4) where
    pub more-whole : NotesMore t values n o0 o4 f0 f4
    more-whole =
        more-then t values n o0 o1 o4 f0 f1 f4 (more-lifted false o0 o1 f0 f1 first)
        (more-then t values n o1 o2 o4 f1 f2 f4 (more-edge false r o1 o2 f1 f2 by_low second)
        (more-then t values n o2 o3 o4 f2 f3 f4 (more-lifted true o2 o3 f2 f3 third) (more-edge true s o3 o4 f3 f4 by_high fourth)))

    note-last : (w : ℕ) (c : Bool) → HasNote o2 w c → HasNote o4 w c
    note-last w c has = fourth.noted w c (third.noted w c has)

    pass-last : (l : ℕ) → IsPassed f2 l → IsPassed f4 l
    pass-last l is = fourth.passed l (third.passed l is)

    pub from-whole : IsNotedFrom t values o1 f1 low → IsNotedFrom t values o3 f3 high → IsNotedFrom t values o4 f4 n
    from-whole one two = from-ends o4 f4 here past below
      where
        here : (b : Bool) → CanBe t values (end_for low high b) → HasNote o4 v b
        here true can = fourth.here (by_high.1 can)
        here false can = note-last v false (second.here (by_low.1 can))

        past : (b : Bool) → CanBe t values (end_for low high b) → (l : ℕ) → level_of t v < l → l < top_of t (end_for low high b) → IsPassed f4 l
        past true can l above less = fourth.past (by_high.1 can) l above less
        past false can l above less = pass-last l (second.past (by_low.1 can) l above less)

        below : (b : Bool) → IsNotedFrom t values o4 f4 (end_for low high b)
        below true = noted-grows t values o3 o4 f3 f4 high fourth.noted fourth.passed two
        below false = noted-grows t values o1 o4 f1 f4 low (λ w c has. note-last w c (second.noted w c has)) (λ l is. pass-last l (second.passed l is)) one

    -- marks from before stay right
    pub marks-whole : (marks : List (Option Bool)) → AreNoted t values marks o3 f3 → AreNoted t values marks o4 f4
    marks-whole marks noted m b at = noted-grows t values o3 o4 f3 f4 m fourth.noted fourth.passed (noted m b at)
