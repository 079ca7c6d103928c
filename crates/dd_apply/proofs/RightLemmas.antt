-- Kept results stay right where what is there keeps its value.
use Rattle.std.proofs.lemmas.Bool.{cases_lt, true≢false}
use Rattle.std.proofs.Common.{◌≡◌, ◌==◌, ℕ, zero, suc, ◌<◌, ◌≤◌, Some, None, [], arith, Bool, List, Option, IsSome, refl, ap, sym, subst, ◌∙◌, inl, inr}
use Rattle.lru.proofs.Splits.{Contains-nil}
use Rattle.dd_store.specs.declared.row.NodeNo.{NodeNo}
use Rattle.dd_store.specs.declared.row.Row.{Row}
use Rattle.dd_store.specs.declared.row.Var.{Var}
use Rattle.dd_store.specs.Changes.{Grows, Keeps, KeepsRows, IsFullFor}
use Rattle.dd_store.specs.Exhausted.{value_at}
use Rattle.dd_store.specs.Follow.{IsThere, value_in}
use Rattle.dd_store.specs.Table.{Table, row_of, row_with, IsSound}
use Rattle.dd_store.proofs.FollowLemmas.{follow-same}
use Rattle.dd_apply.specs.Room.{HasRoomFor}
use Rattle.dd_apply.specs.declared.question.Question.{Question}
use Rattle.dd_apply.specs.declared.question.Question.TheVariants.{Binary, Ite, Implies}
use Rattle.dd_apply.specs.Right.{IsRight, AreRight, DoesImply}
use Rattle.dd_apply.specs.Truth.{applied, chosen}

module _ (t u : Table) (there : (n : ℕ) → IsThere (row_of t) n → IsThere (row_of u) n) (value : (n : ℕ) → IsThere (row_of t) n → value_at u n ≡ value_at t n) where
  implies-same : (a b : ℕ) → IsThere (row_of t) a → IsThere (row_of t) b → DoesImply t a b → DoesImply u a b
  implies-same a b is_a is_b all x is = ap (λ f. f x) (value b is_b) ∙ all x (sym (ap (λ f. f x) (value a is_a)) ∙ is)

  implies-back : (a b : ℕ) → IsThere (row_of t) a → IsThere (row_of t) b → DoesImply u a b → DoesImply t a b
  implies-back a b is_a is_b all x is = sym (ap (λ f. f x) (value b is_b)) ∙ all x (ap (λ f. f x) (value a is_a) ∙ is)

  right-one : (q : Question) (r : ℕ) → IsRight t q r → IsRight u q r
  right-one (Binary op a b) r is = (
    there a.0 is.0,
    there b.0 is.1,
    there r is.2,
    value r is.2 ∙ is.3 ∙ sym (ap (λ f. applied op f (value_at u b.0)) (value a.0 is.0) ∙ ap (λ f. applied op (value_at t a.0) f) (value b.0 is.1)),
  )
  right-one (Ite c a b) r is = (
    there c.0 is.0,
    there a.0 is.1,
    there b.0 is.2,
    there r is.3,
    value r is.3 ∙ is.4 ∙ sym (ap (λ f. chosen f (value_at u a.0) (value_at u b.0)) (value c.0 is.0)
        ∙ ap (λ f. chosen (value_at t c.0) f (value_at u b.0)) (value a.0 is.1) ∙ ap (λ f. chosen (value_at t c.0) (value_at t a.0) f) (value b.0 is.2)),
  )
  right-one (Implies a b) r is = (
    there a.0 is.0,
    there b.0 is.1,
    ((λ one. implies-same a.0 b.0 is.0 is.1 (is.2.0 one)), (λ all. is.2.1 (implies-back a.0 b.0 is.0 is.1 all))),
  )

  pub right-all : (es : List (Question × NodeNo)) → AreRight t es → AreRight u es
  right-all es right q r has = right-one q r.0 (right q r has)

-- where rows and order are those before
pub same-values : (t u : Table) → ((n : ℕ) → row_of u n ≡ row_of t n) → t.order ≡ u.order → (n : ℕ) → value_at u n ≡ value_at t n
same-values t u rows order n =
    let all : row_of u ≡ row_of t = λ j m. rows m j in
    ap (λ (vs : List Var). let f : (ℕ → Bool) → Bool = λ a. value_in vs (row_of u) a n in f) (sym order) ∙ ap (λ (rs : ℕ → Option Row). let f : (ℕ → Bool) → Bool = λ a. value_in t.order rs a n in f) all

pub right-rows : (t u : Table) → ((n : ℕ) → row_of u n ≡ row_of t n) → u.order ≡ t.order → (es : List (Question × NodeNo)) → AreRight t es → AreRight u es
right-rows t u rows order =
    right-all t u (λ n there. subst (λ (o : Option Row). 2 ≤ n → IsSome o) (sym (rows n)) there) (λ n there. same-values t u rows (sym order) n)

pub right-grows : (t u : Table) (es : List (Question × NodeNo)) → Grows t u 0 → AreRight t es → AreRight u es
right-grows t u es grows = right-rows t u (grows.none refl) grows.keeps.order es

-- where no node leaves
pub right-stays : (t u : Table) (es : List (Question × NodeNo)) → IsSound t → Keeps t u → KeepsRows t u → AreRight t es → AreRight u es
right-stays t u es sound keeps rows = right-all t u there value es
  where
    same : (n : ℕ) → IsThere (row_of t) n → row_of u n ≡ row_of t n
    same n is = elim (cases_lt n 2) [
      | inl small ↦ constant n small
      | inr large ↦ node n (row_of t n) refl (is large)
    ]
      where
        constant : (n : ℕ) → n < 2 → row_of u n ≡ row_of t n
        constant zero small = keeps.sound.reduced.rows.no_is_constant ∙ sym sound.reduced.rows.no_is_constant
        constant (suc zero) small = keeps.sound.reduced.rows.yes_is_constant ∙ sym sound.reduced.rows.yes_is_constant
        constant (suc (suc n)) small = absurd (omega arith)

        node : (n : ℕ) (o : Option Row) → row_of t n ≡ o → IsSome o → row_of u n ≡ row_of t n
        node n None e none = absurd (true≢false (sym none))
        node n (Some r) e some = rows n r e ∙ sym e

    there : (n : ℕ) → IsThere (row_of t) n → IsThere (row_of u) n
    there n is = subst (λ (o : Option Row). 2 ≤ n → IsSome o) (sym (same n is)) is

    value : (n : ℕ) → IsThere (row_of t) n → value_at u n ≡ value_at t n
    value n is =
        ap (λ (vs : List Var). let f : (ℕ → Bool) → Bool = λ a. value_in vs (row_of u) a n in f) keeps.order
        ∙ (λ j a. ap (λ (m : ℕ). m == 1) (follow-same t.order (row_of t) (row_of u) a same (λ m r b at. sound.reduced.rows.ends_there m r b at) n is) j)

-- where a node can be had without a collection, the table isn't full for it
pub room-not-full : (t : Table) (r : Row) (low high : ℕ) → r.low.0 ≡ low → r.high.0 ≡ high → HasRoomFor t r → IsFullFor t (row_with r.var.0 low high) → ⊥
room-not-full t r low high is_low is_high room full = elim room [
  | inl ends ↦ full.differ (sym is_low ∙ ends ∙ is_high)
  | inr rest ↦ elim rest [
    | inl fewer ↦ (let all = full.full in omega arith)
    | inr found ↦ full.absent found.0 (found.1 ∙ ap (λ (l : ℕ). Some (row_with r.var.0 l r.high.0)) is_low ∙ ap (λ (h : ℕ). Some (row_with r.var.0 low h)) is_high)
  ]
]

-- nothing is kept
pub right-none : (t : Table) → AreRight t []
right-none t q r has = absurd (Contains-nil (q, r) has)
