-- Joining two handles to a node, which is kept as an answer.
use Rattle.std.proofs.Common.{◌≡◌, ℕ, Bool, true, false, not, if◌then◌else◌, Result, Ok, Err, IfOk, IfErr, OnErr, refl, ap, sym, ◌∙◌, subst, inl, inr, arith}
use Rattle.dd_store.specs.declared.refusal.Refusal.{Refusal}
use Rattle.dd_store.specs.Changes.{Keeps, Grows}
use Rattle.dd_store.specs.Exhausted.{value_at, IsCauseFor}
use Rattle.dd_store.specs.Follow.{IsThere}
use Rattle.dd_store.specs.Handles.{GainsHandle, KeepsHandles, LosesHandle}
use Rattle.dd_store.specs.Size.{Function}
use Rattle.dd_store.specs.Table.{Table, row_of, row_with, value_of, IsLive, IsSound}
use Rattle.dd_store.proofs.ChangeLemmas.{grows_then}
use Rattle.dd_store.proofs.CountLemmas.{live_gained, one_on-itself}
use Rattle.dd_store.proofs.HandleLemmas.{value_of-constant}
use Rattle.dd_apply.specs.declared.operation.Operation.{Operation}
use Rattle.dd_apply.specs.declared.operation.Operation.TheVariants.{And, Or, Xor}
use Rattle.dd_apply.specs.declared.question.Question.{Question}
use Rattle.dd_apply.specs.declared.question.Question.TheVariants.{Binary, Ite, Implies}
use Rattle.dd_apply.specs.Held.{IsHeld, IsCauseWithin, HasBoth, Trades, LosesBoth}
use Rattle.dd_apply.specs.Right.{IsRight, IsAsked}
use Rattle.dd_apply.specs.Settled.{Settles, SettlesChoice}
use Rattle.dd_apply.specs.Split.{fork}
use Rattle.dd_apply.specs.Truth.{table, applied, chosen, opposite}
use Rattle.std.proofs.lemmas.Bool.{true≢false}
use Rattle.dd_apply.proofs.RightLemmas.{same-values}
use Rattle.dd_apply.proofs.HeldLemmas.{held-stays, held-there}
use Rattle.dd_apply.proofs.RoomLemmas.{cause-node, cause-stay}

-- the answer to what is asked is right after a call
pub asked-right : (t u : Table) (q : Question) (f : Function) (r : ℕ) → IsSound t → Keeps t u → ((n : ℕ) → IsLive t n → IsLive u n)
    → IsAsked t q f → IsThere (row_of u) r → value_at u r ≡ f → IsRight u q r
asked-right t u (Binary op a b) f r sound keeps live asked there is =
    let one = held-stays t u sound keeps live a.0 asked.0 in
    let two = held-stays t u sound keeps live b.0 asked.1 in (
      held-there u keeps.sound a.0 one.held,
      held-there u keeps.sound b.0 two.held,
      there,
      is ∙ asked.2 ∙ sym (ap (λ (g : Function). applied op g (value_at u b.0)) one.value ∙ ap (λ (g : Function). applied op (value_at t a.0) g) two.value),
    )
asked-right t u (Ite c a b) f r sound keeps live asked there is =
    let on = held-stays t u sound keeps live c.0 asked.0 in
    let one = held-stays t u sound keeps live a.0 asked.1 in
    let two = held-stays t u sound keeps live b.0 asked.2 in (
      held-there u keeps.sound c.0 on.held,
      held-there u keeps.sound a.0 one.held,
      held-there u keeps.sound b.0 two.held,
      there,
      is ∙ asked.3 ∙ sym (ap (λ (g : Function). chosen g (value_at u a.0) (value_at u b.0)) on.value
          ∙ ap (λ (g : Function). chosen (value_at t c.0) g (value_at u b.0)) one.value ∙ ap (λ (g : Function). chosen (value_at t c.0) (value_at t a.0) g) two.value),
    )
asked-right t u (Implies a b) f r sound keeps live asked there is = absurd asked

pub made-right : (t u : Table) (q : Question) (v low high : ℕ) (result : Result ℕ Refusal) → IsSound t → Keeps t u → IfOk result (GainsHandle t u)
    → IsAsked t q (fork v (value_at t low) (value_at t high))
    → IfOk result (λ h. (a : ℕ → Bool) → value_of u h a ≡ (if a v then value_of t high a else value_of t low a)) → IfOk result (IsRight u q)
made-right t u q v low high (Ok h) sound keeps gain asked value =
    asked-right t u q (fork v (value_at t low) (value_at t high)) h sound keeps (live_gained gain) asked
    (keeps.sound.reduced.live h (let each = gain.each h in let own = one_on-itself h in omega arith)) (λ j a. value a j)
made-right t u q v low high (Err r) sound keeps gain asked value = tt

-- what has live handles is there
pub both-there : (t : Table) (low high : ℕ) → IsSound t → HasBoth t low high → IsThere (row_of t) low × IsThere (row_of t) high
both-there t low high sound has = (
  sound.reduced.live low (let here = has low in let own = one_on-itself low in omega arith),
  sound.reduced.live high (let here = has high in let own = one_on-itself high in omega arith),
)

module _ (t u w x : Table) (low high v : ℕ) (first : LosesHandle u w low) (then' : LosesHandle w x high) where
  pub joined-traded : (result : Result ℕ Refusal) → IfOk result (GainsHandle t u) → IfOk result (Trades t x low high)
  joined-traded (Ok h) gain = record {
    each = λ n. let a = gain.each n in let b = first.each n in let c = then'.each n in omega arith;
    total = let a = gain.total in let b = first.total in let c = then'.total in omega arith;
  }
  joined-traded (Err r) gain = tt

  pub joined-lost : (result : Result ℕ Refusal) → OnErr result (KeepsHandles t u) → OnErr result (LosesBoth t x low high)
  joined-lost (Ok h) same = tt
  joined-lost (Err r) same = record {
    each = λ n. let a = same.each n in let b = first.each n in let c = then'.each n in omega arith;
    total = let a = same.total in let b = first.total in let c = then'.total in omega arith;
  }

  pub both-gone : Grows u w 0 → Grows w x 0 → Grows u x 0
  both-gone one two = grows_then one two (λ n before after. let c = then'.each n in omega arith)

  pub joined-value : (result : Result ℕ Refusal) → Grows u w 0 → Grows w x 0 → IfOk result (λ h. (a : ℕ → Bool) → value_of u h a ≡ (if a v then value_of t high a else value_of t low a))
      → IfOk result (λ h. value_at x h ≡ fork v (value_at t low) (value_at t high))
  joined-value (Ok h) one two value = same-values u x ((both-gone one two).none refl) (sym (both-gone one two).keeps.order) h ∙ (λ j a. value a j)
  joined-value (Err r) one two value = tt

  pub joined-cause : (result : Result ℕ Refusal) → Keeps t u → OnErr result (KeepsHandles t u) → Grows u w 0 → Grows w x 0
      → IfErr result (IsCauseFor t u (row_with v low high)) → IfErr result (IsCauseWithin t x (fork v (value_at t low) (value_at t high)) 0)
  joined-cause (Ok h) keeps same one two cause = tt
  joined-cause (Err r) keeps same one two cause =
      cause-stay t u x (fork v (value_at t low) (value_at t high)) 0 r (both-gone one two)
      (cause-node t u (row_with v low high) r keeps (λ n live. let each = same.each n in omega arith) cause)

-- what is settled for all truths is right for the values
pub settles-right : (t : Table) → IsSound t → (op : Operation) (a b r : ℕ) → IsHeld t a → IsHeld t b → Settles op a b r
    → IsThere (row_of t) a × IsThere (row_of t) b × IsThere (row_of t) r × (value_at t r ≡ applied op (value_at t a) (value_at t b))
settles-right t sound op a b r held_a held_b is =
    let there_a = held-there t sound a held_a in
    let there_b = held-there t sound b held_b in (
      there_a,
      there_b,
      elim is.0 [
        | inl small ↦ (λ large. absurd (omega arith))
        | inr rest ↦ elim rest [
          | inl same ↦ subst (λ (n : ℕ). IsThere (row_of t) n) (sym same) there_a
          | inr same ↦ subst (λ (n : ℕ). IsThere (row_of t) n) (sym same) there_b
        ]
      ],
      λ j x. is.1 (λ n. value_of t n x) (value_of-constant t false x sound) (value_of-constant t true x sound) j,
    )

-- the operations are the same for both orders of their operands
pub table-swapped : (op : Operation) (p q : Bool) → table op p q ≡ table op q p
table-swapped And true true = refl
table-swapped And true false = refl
table-swapped And false true = refl
table-swapped And false false = refl
table-swapped Or true true = refl
table-swapped Or true false = refl
table-swapped Or false true = refl
table-swapped Or false false = refl
table-swapped Xor true true = refl
table-swapped Xor true false = refl
table-swapped Xor false true = refl
table-swapped Xor false false = refl

pub swapped : (op : Operation) (f g : Function) → applied op f g ≡ applied op g f
swapped op f g = λ j x. table-swapped op (f x) (g x) j

pub choice-right : (t : Table) → IsSound t → (c a b r : ℕ) → IsHeld t c → IsHeld t a → IsHeld t b → SettlesChoice c a b r
    → IsThere (row_of t) c × IsThere (row_of t) a × IsThere (row_of t) b × IsThere (row_of t) r × (value_at t r ≡ chosen (value_at t c) (value_at t a) (value_at t b))
choice-right t sound c a b r held_c held_a held_b is =
    let there_c = held-there t sound c held_c in
    let there_a = held-there t sound a held_a in
    let there_b = held-there t sound b held_b in (
      there_c,
      there_a,
      there_b,
      elim is.0 [
        | inl same ↦ subst (λ (n : ℕ). IsThere (row_of t) n) (sym same) there_c
        | inr rest ↦ elim rest [
          | inl same ↦ subst (λ (n : ℕ). IsThere (row_of t) n) (sym same) there_a
          | inr same ↦ subst (λ (n : ℕ). IsThere (row_of t) n) (sym same) there_b
        ]
      ],
      λ j x. is.1 (λ n. value_of t n x) (value_of-constant t false x sound) (value_of-constant t true x sound) j,
    )

-- the opposite is where it differs from yes
pub not-is : (t : Table) (n a : ℕ) → IsSound t → n ≡ a → applied Xor (value_at t n) (value_at t 1) ≡ opposite (value_at t a)
not-is t n a sound same =
    (λ j x. by (value_of t n x) (value_of t 1 x) (value_of-constant t true x sound) j) ∙ ap (λ (m : ℕ). opposite (value_at t m)) same
  where
    by : (p q : Bool) → q ≡ true → table Xor p q ≡ not p
    by true true is = refl
    by false true is = refl
    by p false is = absurd (true≢false (sym is))

pub not-told : (t u : Table) (n a : ℕ) (result : Result ℕ Refusal) → IsSound t → n ≡ a
    → IfOk result (λ h. (x : ℕ → Bool) → value_of u h x ≡ table Xor (value_of t n x) (value_of t 1 x)) → IfOk result (λ h. (x : ℕ → Bool) → value_of u h x ≡ not (value_of t a x))
not-told t u n a (Ok h) sound same is = λ x. is x ∙ ap (λ (f : Function). f x) (not-is t n a sound same)
not-told t u n a (Err r) sound same is = tt
