-- What is live after a call that makes a handle, and after handles are given back.
use Rattle.std.proofs.Common.{◌≡◌, ℕ, ◌<◌, ◌≤◌, Bool, Result, Ok, Err, IfOk, OnErr, refl, ap, sym, ◌∙◌, subst, inl, inr, arith}
use Rattle.std.proofs.lemmas.Bool.{cases_eq}
use Rattle.dd_store.specs.declared.refusal.Refusal.{Refusal}
use Rattle.dd_store.specs.Changes.{Grows, Keeps}
use Rattle.dd_store.specs.Exhausted.{value_at}
use Rattle.dd_store.specs.Handles.{GainsHandle, KeepsHandles, LosesHandle, one_on}
use Rattle.dd_store.specs.Size.{Function}
use Rattle.dd_store.specs.Table.{Table, IsLive, handles_on, value_of}
use Rattle.dd_store.proofs.ChangeLemmas.{keeps_then}
use Rattle.dd_store.proofs.CountLemmas.{live_gained, one_on-itself}
use Rattle.dd_store.proofs.HandleLemmas.{one_on-other}
use Rattle.dd_apply.specs.Held.{HasBoth}
use Rattle.dd_apply.proofs.RightLemmas.{same-values}
use Rattle.uvl_functions.specs.Trade.{Replaces}

-- the value stays where handles alone change
pub value-grown : (t u : Table) (n : ℕ) → Grows t u 0 → value_at u n ≡ value_at t n
value-grown t u n grows = same-values t u (grows.none refl) (sym grows.keeps.order) n

-- also of a handle that a call answers
pub value-told : (t u : Table) (f : Function) (result : Result ℕ Refusal) → Grows t u 0 → IfOk result (λ h. (a : ℕ → Bool) → value_of t h a ≡ f a)
    → IfOk result (λ h. value_at u h ≡ f)
value-told t u f (Ok h) grows value = value-grown t u h grows ∙ (λ i a. value a i)
value-told t u f (Err r) grows value = tt

pub value-after : (t u : Table) (f : Function) (result : Result ℕ Refusal) → Grows t u 0 → IfOk result (λ h. value_at t h ≡ f) → IfOk result (λ h. value_at u h ≡ f)
value-after t u f (Ok h) grows value = value-grown t u h grows ∙ value
value-after t u f (Err r) grows value = tt

-- one handle is among those on its number
pub one-within : (t : Table) (a n : ℕ) → IsLive t a → one_on a n ≤ handles_on t n
one-within t a n live = elim (cases_eq n a) [
  | inl same ↦ let one = ap (one_on a) same ∙ one_on-itself a in let here : 0 < handles_on t n = subst (λ (m : ℕ). 0 < handles_on t m) (sym same) live in omega arith
  | inr other ↦ let none = one_on-other a n other in omega arith
]

-- of two live handles each is live
pub first-live : (t : Table) (a b : ℕ) → HasBoth t a b → IsLive t a
first-live t a b both = let one = one_on-itself a in let each = both a in omega arith

pub second-live : (t : Table) (a b : ℕ) → HasBoth t a b → IsLive t b
second-live t a b both = let one = one_on-itself b in let each = both b in omega arith

-- one of two is live where the other is given back
pub other-live : (t u : Table) (a b : ℕ) → HasBoth t a b → LosesHandle t u a → IsLive u b
other-live t u a b both lost = let one = one_on-itself b in let each = both b in let less = lost.each b in omega arith

-- a live handle and one that is made
pub made-both : (t u : Table) (a h : ℕ) → IsLive t a → GainsHandle t u h → HasBoth u a h
made-both t u a h live gain n = let less = one-within t a n live in let each = gain.each n in omega arith

-- a call that makes a handle or is refused
pub still-live : (t u : Table) (result : Result ℕ Refusal) → IfOk result (GainsHandle t u) → OnErr result (KeepsHandles t u) → (n : ℕ) → IsLive t n → IsLive u n
still-live t u (Ok h) gain same n live = live_gained gain n live
still-live t u (Err r) gain same n live = let each = same.each n in omega arith

pub still-both : (t u : Table) (result : Result ℕ Refusal) (a b : ℕ) → IfOk result (GainsHandle t u) → OnErr result (KeepsHandles t u) → HasBoth t a b → HasBoth u a b
still-both t u (Ok h) a b gain same both n = let one = both n in let each = gain.each n in omega arith
still-both t u (Err r) a b gain same both n = let one = both n in let each = same.each n in omega arith

-- behind it one handle is given back
module _ (t u v : Table) (a : ℕ) (lost : LosesHandle u v a) where
  pub replaced : (result : Result ℕ Refusal) → IfOk result (GainsHandle t u) → IfOk result (Replaces t v a)
  replaced (Ok h) gain = record {
    each = λ n. let one = gain.each n in let two = lost.each n in omega arith;
    total = let one = gain.total in let two = lost.total in omega arith;
  }
  replaced (Err r) gain = tt

  pub lost-one : (result : Result ℕ Refusal) → OnErr result (KeepsHandles t u) → OnErr result (LosesHandle t v a)
  lost-one (Ok h) same = tt
  lost-one (Err r) same = record {
    lost = let one = same.each a in let two = lost.each a in let own = one_on-itself a in omega arith;
    each = λ n. let one = same.each n in let two = lost.each n in omega arith;
    total = let one = same.total in let two = lost.total in omega arith;
  }

  pub keeps-less : Keeps t u → Keeps u v → Keeps t v
  keeps-less one two = keeps_then one two (λ n before after. let less = lost.each n in omega arith)

-- behind a handle that is held besides
module _ (s t u v : Table) (a : ℕ) (gain : GainsHandle s t a) (lost : LosesHandle u v a) where
  pub gained-between : (result : Result ℕ Refusal) → IfOk result (GainsHandle t u) → IfOk result (GainsHandle s v)
  gained-between (Ok h) more = record {
    gained = let one = more.each h in let two = lost.each h in let three = gain.each h in let own = one_on-itself h in omega arith;
    each = λ n. let one = more.each n in let two = lost.each n in let three = gain.each n in omega arith;
    total = let one = more.total in let two = lost.total in let three = gain.total in omega arith;
  }
  gained-between (Err r) more = tt

  pub refused-between : (result : Result ℕ Refusal) → OnErr result (KeepsHandles t u) → OnErr result (KeepsHandles s v)
  refused-between (Ok h) same = tt
  refused-between (Err r) same = record {
    each = λ n. let one = same.each n in let two = lost.each n in let three = gain.each n in omega arith;
    total = let one = same.total in let two = lost.total in let three = gain.total in omega arith;
  }

  pub keeps-between : Keeps s t → Keeps t u → Keeps u v → ((n : ℕ) → IsLive t n → IsLive u n) → Keeps s v
  keeps-between one two three still =
      keeps_then one (keeps_then two three (λ n before after. still n before)) (λ n before after. live_gained gain n before)
