-- A variable is fixed below a node: the halves, what is remembered, and what is known without a recursion.
use Rattle.std.proofs.Common.{◌≡◌, ◌≢◌, ◌⊎◌, ◌==◌, ℕ, zero, suc, ◌-◌, ◌<◌, ◌≤◌, Bool, true, false, if◌then◌else◌, List, [], length, Option, Some, None, IsSome, Result, Ok, Err, IfOk, OnOk, OnErr, refl, ap, sym, ◌∙◌, subst, inl, inr, arith}
use Rattle.std.proofs.lemmas.Bool.{cases_lt, eqb-true, eq-eqb, true≢false}
use Rattle.dd_store.specs.declared.row.NodeNo.{NodeNo}
use Rattle.dd_store.specs.declared.row.Row.{Row}
use Rattle.dd_store.specs.declared.row.Var.{Var}
use Rattle.dd_store.specs.declared.refusal.Refusal.{Refusal}
use Rattle.dd_store.specs.Changes.{Grows, Keeps, KeepsRows, IsFullFor}
use Rattle.dd_store.specs.Exhausted.{value_at}
use Rattle.dd_store.specs.Handles.{GainsHandle, KeepsHandles, LosesHandle}
use Rattle.dd_store.specs.Follow.{IsThere, end_of, step, with_value, value_in}
use Rattle.dd_store.specs.Order.{level_in, level_of_row}
use Rattle.dd_store.specs.Size.{Function, fixed}
use Rattle.dd_store.specs.SizeLaws.{IsFreeOf}
use Rattle.dd_store.specs.Table.{Table, row_of, row_with, value_of, level_of, top_of, IsLive, IsSound, IsVariable, HasEnds}
use Rattle.dd_store.proofs.ChangeLemmas.{keeps_then}
use Rattle.dd_store.proofs.CountLemmas.{live_gained, one_on-itself}
use Rattle.dd_store.proofs.FollowLemmas.{follow-same}
use Rattle.dd_store.proofs.FreeLemmas.{free-fixed}
use Rattle.dd_store.proofs.TopLemmas.{past}
use Rattle.dd_apply.specs.Held.{IsHeld, Stays, HasBoth, Trades}
use Rattle.dd_apply.specs.Room.{HasRoomFor}
use Rattle.dd_apply.proofs.HeldLemmas.{held-stays, held-there}
use Rattle.dd_apply.proofs.RightLemmas.{same-values, room-not-full}
use Rattle.dd_apply.proofs.StepLemmas.{IsHalf, half, value-free}
use Rattle.dd_quant.specs.steps.Remembered.{answer_of, IsAnswer, AreAnswers, IsRemembered}
use Rattle.dd_quant.proofs.StepLemmas.{one-level}
use Rattle.dd_quant.proofs.WalkLemmas.{value-above, constant-value, end_for}

-- two variables may be fixed in either order
pub fixed-both : (f : Function) (v w : ℕ) (b c : Bool) → v ≢ w → fixed (fixed f v b) w c ≡ fixed (fixed f w c) v b
fixed-both f v w b c apart = λ j a. f (λ u. by a u (u == v) (u == w) refl refl j)
  where
    by : (a : ℕ → Bool) (u : ℕ) (s t : Bool) → (u == v) ≡ s → (u == w) ≡ t
        → (if s then b else (if t then c else a u)) ≡ (if t then c else (if s then b else a u))
    by a u true true e g = absurd (apart (sym (eqb-true u v e) ∙ eqb-true u w g))
    by a u true false e g = refl
    by a u false true e g = refl
    by a u false false e g = refl

-- a constant is itself
pub fixed-constant : (t : Table) → IsSound t → (n v : ℕ) (b : Bool) → n < 2 → value_at t n ≡ fixed (value_at t n) v b
fixed-constant t sound n v b small = λ j a. (constant-value t sound n small a ∙ sym (constant-value t sound n small (with_value a v b))) j

-- nothing is remembered at the start
pub no-answers : (t : Table) (v : ℕ) (b : Bool) (answers : List (Option NodeNo)) → answers ≡ [] → AreAnswers t v b answers
no-answers t v b answers empty n r is = absurd (let at : answer_of [] n ≡ Some r = sym (ap (λ (xs : List (Option NodeNo)). answer_of xs n) empty) ∙ is in cc)

-- A node whose level is above the variable's.
module _ (t : Table) (sound : IsSound t) (n w low high : ℕ) (ends : HasEnds t n w low high) where
  pub top-is : top_of t n ≡ level_of t w
  top-is = ap (λ (o : Option Row). level_of_row t.order o) ends.row

  step-is : (c : Bool) → end_for low high c ≡ step (row_of t n) w n c
  step-is c = sym (ap (λ (o : Option Row). step o w n c) ends.row ∙ ap (λ (x : Bool). if x then end_of (row_with w low high) c else n) (eq-eqb w w refl) ∙ by c)
    where
      by : (d : Bool) → end_of (row_with w low high) d ≡ end_for low high d
      by true = refl
      by false = refl

  -- the variable is the node's own, or stands above it
  pub answer-own : (v : ℕ) (b : Bool) (r : ℕ) → IsThere (row_of t) n → level_of t v ≡ level_of t w → IsVariable t v → r ≡ (if b then high else low) → IsAnswer t v b n r
  answer-own v b r there level inside is =
      let same : v ≡ w = one-level t.order v w inside level in
      record {
        asked_there = there;
        there = subst (λ (m : ℕ). IsThere (row_of t) m) (sym is) (end-there b);
        value = ap (value_at t) is ∙ sym (λ j a. (ap (λ (u : ℕ). value_of t n (with_value a u b)) same ∙ past t.order (row_of t) sound.reduced.rows n (row_with w low high) a b ends.row ∙ by a b) j);
      }
    where
      end-there : (d : Bool) → IsThere (row_of t) (if d then high else low)
      end-there true = ends.high_there
      end-there false = ends.low_there

      by : (a : ℕ → Bool) (d : Bool) → value_of t (end_of (row_with w low high) d) a ≡ value_of t (if d then high else low) a
      by a true = refl
      by a false = refl

  pub answer-above : (v : ℕ) (b : Bool) → IsThere (row_of t) n → level_of t v < level_of t w → IsAnswer t v b n n
  answer-above v b there less = record {
    asked_there = there;
    there = there;
    value = sym (λ j a. value-above t sound n v a b (let top = top-is in omega arith) j);
  }

  module _ (v : ℕ) (b : Bool) (held : IsHeld t n) (inside : IsVariable t v) (above : level_of t w < level_of t v) where
    -- what is asked for
    abbrev pub asked : Function
    asked = fixed (value_at t n) v b

    apart : v ≢ w
    apart same = let level = ap (level_of t) same in omega arith

    pub free : (u : ℕ) → level_of t u < level_of t w → IsFreeOf u asked
    free u higher = free-fixed (value_at t n) v b u (value-free t sound w ends.variable n held (let top = top-is in omega arith) u higher)

    module _ (c : Bool) where
      abbrev m : ℕ
      m = end_for low high c

      half' : IsHalf t w n m c
      half' = half t sound w ends.variable n m c held (let top = top-is in omega arith) (step-is c)

      pub half-held : IsHeld t m
      half-held = half'.held

      pub half-fewer : length t.order - top_of t m < length t.order - top_of t n
      half-fewer = let below = half'.below in let top = top-is in let inside' = ends.variable in omega arith

      pub half-value : fixed (value_at t m) v b ≡ fixed asked w c
      half-value = ap (λ (f : Function). fixed f v b) (sym half'.value) ∙ sym (fixed-both (value_at t n) v w b c apart)

      -- also behind the call for the other half
      module _ (u : Table) (keeps : Keeps t u) (live : (k : ℕ) → IsLive t k → IsLive u k) where
        stays : Stays t u m
        stays = held-stays t u sound keeps live m half'.held

        pub after-held : IsHeld u m
        after-held = stays.held

        pub after-inside : IsVariable u v
        after-inside = subst (λ (vs : List Var). level_in vs v < length vs) (sym keeps.order) inside

        same-top : length u.order - top_of u m ≡ length t.order - top_of t m
        same-top = ap (λ (vs : List Var). length vs - level_of_row vs (row_of u m)) keeps.order ∙ ap (λ (o : Option Row). length t.order - level_of_row t.order o) stays.row

        pub after-fewer : length u.order - top_of u m < length t.order - top_of t n
        after-fewer = let same = same-top in let one = half-fewer in omega arith

        pub after-value : fixed (value_at u m) v b ≡ fixed asked w c
        after-value = ap (λ (f : Function). fixed f v b) stays.value ∙ half-value

-- Answers stay right where no node leaves.
module _ (t u : Table) (v : ℕ) (b : Bool) (there : (n : ℕ) → IsThere (row_of t) n → IsThere (row_of u) n)
    (value : (n : ℕ) → IsThere (row_of t) n → value_at u n ≡ value_at t n) where
  answer-stays : (n r : ℕ) → IsAnswer t v b n r → IsAnswer u v b n r
  answer-stays n r is = record {
    asked_there = there n is.asked_there;
    there = there r is.there;
    value = value r is.there ∙ is.value ∙ sym (ap (λ (f : Function). fixed f v b) (value n is.asked_there));
  }

  answers-all : (answers : List (Option NodeNo)) → AreAnswers t v b answers → AreAnswers u v b answers
  answers-all answers right n r at = answer-stays n r.0 (right n r at)

-- where rows and order are those before
pub answers-grow : (t u : Table) (v : ℕ) (b : Bool) (answers : List (Option NodeNo)) → Grows t u 0 → AreAnswers t v b answers → AreAnswers u v b answers
answers-grow t u v b answers grows =
    answers-all t u v b (λ n there. subst (λ (o : Option Row). 2 ≤ n → IsSome o) (sym (grows.none refl n)) there)
    (λ n there. same-values t u (grows.none refl) (sym grows.keeps.order) n) answers

pub answers-stay : (t u : Table) (v : ℕ) (b : Bool) (answers : List (Option NodeNo)) → IsSound t → Keeps t u → KeepsRows t u → AreAnswers t v b answers → AreAnswers u v b answers
answers-stay t u v b answers sound keeps rows = answers-all t u v b there value answers
  where
    same : (n : ℕ) → IsThere (row_of t) n → row_of u n ≡ row_of t n
    same n is = elim (cases_lt n 2) [
      | inl small ↦ constant n small
      | inr large ↦ node n (row_of t n) refl (is large)
    ]
      where
        constant : (n : ℕ) → n < 2 → row_of u n ≡ row_of t n
        constant zero small = keeps.sound.reduced.rows.no_is_constant ∙ sym sound.reduced.rows.no_is_constant
        constant (suc zero) small = keeps.sound.reduced.rows.yes_is_constant ∙ sym sound.reduced.rows.yes_is_constant
        constant (suc (suc n)) small = absurd (omega arith)

        node : (n : ℕ) (o : Option Row) → row_of t n ≡ o → IsSome o → row_of u n ≡ row_of t n
        node n None e none = absurd (true≢false (sym none))
        node n (Some r) e some = rows n r e ∙ sym e

    there : (n : ℕ) → IsThere (row_of t) n → IsThere (row_of u) n
    there n is = subst (λ (o : Option Row). 2 ≤ n → IsSome o) (sym (same n is)) is

    value : (n : ℕ) → IsThere (row_of t) n → value_at u n ≡ value_at t n
    value n is =
        ap (λ (vs : List Var). let f : (ℕ → Bool) → Bool = λ a. value_in vs (row_of u) a n in f) keeps.order
        ∙ (λ j a. ap (λ (m : ℕ). m == 1) (follow-same t.order (row_of t) (row_of u) a same (λ m r b at. sound.reduced.rows.ends_there m r b at) n is) j)

-- over a call of `node`: where it may collect, nothing is remembered
pub answers-node : (t u : Table) (v : ℕ) (b : Bool) (row : Row) (low high : ℕ) (answers answers' : List (Option NodeNo)) → IsSound t → Keeps t u → row.low.0 ≡ low → row.high.0 ≡ high
    → ((HasRoomFor t row × (answers' ≡ answers)) ⊎ (answers' ≡ [])) → (¬ IsFullFor t (row_with row.var.0 low high) → KeepsRows t u)
    → AreAnswers t v b answers → AreAnswers u v b answers'
answers-node t u v b row low high answers answers' sound keeps is_low is_high (inl (room, same)) kept right =
    answers-stay t u v b answers' sound keeps (kept (room-not-full t row low high is_low is_high room)) (subst (λ (xs : List (Option NodeNo)). AreAnswers t v b xs) (sym same) right)
answers-node t u v b row low high answers answers' sound keeps is_low is_high (inr none) kept right = no-answers u v b answers' none

-- one more answer
pub answers-more : (t : Table) (v : ℕ) (b : Bool) (answers answers' : List (Option NodeNo)) (n r : ℕ) → AreAnswers t v b answers → IsAnswer t v b n r → IsRemembered answers answers' n r → AreAnswers t v b answers'
answers-more t v b answers answers' n r right is more m s at = elim (more m s at) [
  | inl before ↦ right m s before
  | inr this ↦ subst (λ (k : ℕ). IsAnswer t v b k s.0) (sym this.0) (subst (λ (k : ℕ). IsAnswer t v b n k) (sym this.1) is)
]

-- over the calls for both halves the node stays
module _ (s m u : Table) (sound : IsSound s) (n : ℕ) (held : IsHeld s n) {h k : ℕ} (keeps : Keeps s m) (gain : GainsHandle s m h) (keeps' : Keeps m u) (gain' : GainsHandle m u k) where
  node-stays : Stays s u n
  node-stays = held-stays s u sound (keeps_then keeps keeps' (λ j first last. live_gained gain j first)) (λ j first. live_gained gain' j (live_gained gain j first)) n held

  pub node-held : IsHeld u n
  node-held = node-stays.held

  pub node-value : value_at u n ≡ value_at s n
  node-value = node-stays.value

pub asked-after : (s m u : Table) → IsSound s → (n v : ℕ) (b : Bool) → IsHeld s n → {h k : ℕ} → Keeps s m → GainsHandle s m h → Keeps m u → GainsHandle m u k
    → fixed (value_at u n) v b ≡ fixed (value_at s n) v b
asked-after s m u sound n v b held keeps gain keeps' gain' = ap (λ (f : Function). fixed f v b) (node-value s m u sound n held keeps gain keeps' gain')

-- the second handle is live behind the release of the first
pub second-live : (t u w : Table) (low high : ℕ) (result : Result ℕ Refusal) → HasBoth t low high → IfOk result (GainsHandle t u) → OnErr result (KeepsHandles t u) → LosesHandle u w low → IsLive w high
second-live t u w low high (Ok h) both gain same lost = let own = one_on-itself high in let two = both high in let each = gain.each high in let less = lost.each high in omega arith
second-live t u w low high (Err r) both gain same lost = let own = one_on-itself high in let two = both high in let each = same.each high in let less = lost.each high in omega arith

-- A node was made of two handles, which were then given back, and is remembered.
module _ (t u x : Table) (sound : IsSound t) (low high : ℕ) (both : HasBoth t low high) (keeps : Keeps t u) (grows : Grows u x 0) where
  pub made-live : (result : Result ℕ Refusal) → IfOk result (Trades t x low high) → IfOk result (IsLive x)
  made-live (Ok h) trade = let each = trade.each h in let two = both h in let own = one_on-itself h in omega arith
  made-live (Err r) trade = tt

  pub joined-right : (v : ℕ) (b : Bool) (n : ℕ) (f : Function) (answers answers' : List (Option NodeNo)) (result : Result ℕ Refusal) → IsHeld t n → f ≡ fixed (value_at t n) v b
      → IfOk result (GainsHandle t u) → IfOk result (IsLive x) → IfOk result (λ h. value_at x h ≡ f) → AreAnswers x v b answers → IfOk result (IsRemembered answers answers' n) → OnOk result (AreAnswers x v b answers')
  joined-right v b n f answers answers' (Ok h) held wanted gain live value right more =
      answers-more x v b answers answers' n h right (record {
        asked_there = subst (λ (o : Option Row). 2 ≤ n → IsSome o) (sym (grows.none refl n)) (held-there u keeps.sound n still.held);
        there = grows.keeps.sound.reduced.live h live;
        value = value ∙ wanted ∙ sym (ap (λ (g : Function). fixed g v b) (same-values u x (grows.none refl) (sym grows.keeps.order) n ∙ still.value));
      }) more
    where
      still : Stays t u n
      still = held-stays t u sound keeps (live_gained gain) n held
  joined-right v b n f answers answers' (Err r) held wanted gain live value right more = tt
