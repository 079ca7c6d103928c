-- What is live, what stands for what, and why a refusal comes, where a handle is made of two that are held.
use Rattle.std.proofs.Common.{◌≡◌, ℕ, ◌+◌, Bool, true, false, if◌then◌else◌, List, [], ◌∷◌, Result, Ok, Err, IfOk, IfErr, OnErr, refl, ap, sym, ◌∙◌, subst, inl, inr, arith}
use Rattle.std.specs.Bool.{beq}
use Rattle.dd_store.specs.declared.refusal.Refusal.{Refusal}
use Rattle.dd_store.specs.declared.row.Var.{Var}
use Rattle.dd_store.specs.Changes.{Keeps, Grows}
use Rattle.dd_store.specs.Exhausted.{value_at}
use Rattle.dd_store.specs.Handles.{GainsHandle, KeepsHandles, LosesHandle, one_on}
use Rattle.dd_store.specs.Short.{literal, literals}
use Rattle.dd_store.specs.Size.{Function}
use Rattle.dd_store.specs.Table.{Table, IsLive, IsVariable, handles_on, value_of}
use Rattle.dd_store.proofs.ChangeLemmas.{keeps_then}
use Rattle.dd_store.proofs.CountLemmas.{live_gained, one_on-itself}
use Rattle.dd_store.proofs.SizeLemmas.{In}
use Rattle.dd_store.proofs.StayLemmas.{value-kept}
use Rattle.dd_apply.specs.Cause.{IsCause}
use Rattle.dd_apply.specs.Held.{HasBoth, LosesBoth, Trades}
use Rattle.dd_apply.specs.Split.{fork}
use Rattle.dd_apply.specs.Truth.{chosen}
use Rattle.uvl_functions.specs.Cause.{IsShortFor}
use Rattle.uvl_functions.proofs.ShortLemmas.{IsBeside, AreCovered, cause-behind, cause-covered, cause-told, held-covered}
use Rattle.uvl_functions.proofs.TableLemmas.{value-grown}
use Rattle.uvl_functions.proofs.LiteralLemmas.{literal-in}

literal-same : (p : Bool) → beq p true ≡ p
literal-same true = refl
literal-same false = refl

-- a call behind one more live handle, whose value is that of a variable
pub told-behind_literal : (t u : Table) (h x : ℕ) (groups : List (List Function)) (result : Result ℕ Refusal) → Keeps t u → GainsHandle t u h → IsVariable t x
    → ((a : ℕ → Bool) → value_of u h a ≡ a x) → IfErr result (IsShortFor u groups) → IfErr result (IsShortFor t groups)
told-behind_literal t u h x groups (Ok k) keeps gain inside is cause = tt
told-behind_literal t u h x groups (Err r) keeps gain inside is cause =
    cause-behind t u h groups groups r keeps gain
    (λ held. held-covered t.order (value_at u h) held groups
    (λ group i. inr (inl (subst (λ (f : Function). In f (literals t.order)) same (literal-in t.order x inside)))))
    cause
  where
    same : literal x true ≡ value_at u h
    same = λ j a. (literal-same (a x) ∙ sym (is a)) j

-- the one group with more functions
pub more-covered : (order : List Var) (held few more : List Function) → ((f : Function) → In f few → In f more) → AreCovered order held held (few ∷ []) (more ∷ [])
more-covered order held few more all group (inl same) = (
  more,
  inl refl,
  (λ f h. inl h),
  λ f h. inr (inr (inl (all f (subst (λ (g : List Function). In f g) (sym same) h)))),
)
more-covered order held few more all group (inr none) = absurd none

pub cause-more : (t : Table) (few more : List Function) (r : Refusal) → ((f : Function) → In f few → In f more) → IsShortFor t (few ∷ []) r → IsShortFor t (more ∷ []) r
cause-more t few more r all cause = cause-covered t (few ∷ []) (more ∷ []) r (λ held. more-covered t.order held few more all) cause

pub told-more : (t : Table) (few more : List Function) (result : Result ℕ Refusal) → ((f : Function) → In f few → In f more)
    → IfErr result (IsShortFor t (few ∷ [])) → IfErr result (IsShortFor t (more ∷ []))
told-more t few more (Ok h) all cause = tt
told-more t few more (Err r) all cause = cause-more t few more r all cause

-- behind one more live handle whose value is in the group
pub cause-behind_member : (t u : Table) (h : ℕ) (group : List Function) (r : Refusal) → Keeps t u → GainsHandle t u h → In (value_at u h) group
    → IsShortFor u (group ∷ []) r → IsShortFor t (group ∷ []) r
cause-behind_member t u h group r keeps gain is cause =
    cause-behind t u h (group ∷ []) (group ∷ []) r keeps gain (λ held. held-covered t.order (value_at u h) held (group ∷ []) (here held)) cause
  where
    here : (held : List Function) (g : List Function) → In g (group ∷ []) → IsBeside t.order held g (value_at u h)
    here held g (inl same) = inr (inr (inl (subst (λ (k : List Function). In (value_at u h) k) same is)))
    here held g (inr none) = absurd none

-- The choice by a variable: its handle is made from s to t, the choice from t to u, and the variable's is given back to w.
module _ (s t u w : Table) (x c with' without : ℕ) (keeps : Keeps s t) (gain : GainsHandle s t c) (live : IsLive s with') (live' : IsLive s without)
    (is : (a : ℕ → Bool) → value_of t c a ≡ a x) (grows : Grows u w 0) where
  asked-is : chosen (value_at t c) (value_at t with') (value_at t without) ≡ fork x (value_at s without) (value_at s with')
  asked-is = (λ j a. ap (λ (b : Bool). if b then value_of t with' a else value_of t without a) (is a) j)
      ∙ ap (λ (f : Function). fork x (value_at t without) f) (value-kept s t keeps with' live (live_gained gain with' live))
      ∙ ap (λ (f : Function). fork x f (value_at s with')) (value-kept s t keeps without live' (live_gained gain without live'))

  pub choice-value : (result : Result ℕ Refusal) → IfOk result (λ h. (a : ℕ → Bool) → value_of u h a ≡ (if value_of t c a then value_of t with' a else value_of t without a))
      → IfOk result (λ h. value_at w h ≡ fork x (value_at s without) (value_at s with'))
  choice-value (Ok h) value = value-grown u w h grows ∙ (λ j a. value a j) ∙ asked-is
  choice-value (Err r) value = tt

  pub choice-cause : (v : Table) (result : Result ℕ Refusal) → IsVariable s x → IfErr result (IsCause t v (chosen (value_at t c) (value_at t with') (value_at t without)))
      → IfErr result (IsShortFor s ((fork x (value_at s without) (value_at s with') ∷ []) ∷ []))
  choice-cause v result inside cause =
      told-behind_literal s t c x ((fork x (value_at s without) (value_at s with') ∷ []) ∷ []) result keeps gain inside is
      (cause-told t v (chosen (value_at t c) (value_at t with') (value_at t without)) (fork x (value_at s without) (value_at s with') ∷ []) result
      (λ held. inr (inr (inl (inl (sym asked-is))))) cause)

-- A handle is made from t to u, and two others are given back to w and x.
module _ (t u w x : Table) (a b : ℕ) (first : LosesHandle u w a) (second : LosesHandle w x b) where
  pub both-traded : (result : Result ℕ Refusal) → IfOk result (GainsHandle t u) → IfOk result (Trades t x a b)
  both-traded (Ok h) gain = record {
    each = λ n. let one = gain.each n in let two = first.each n in let three = second.each n in omega arith;
    total = let one = gain.total in let two = first.total in let three = second.total in omega arith;
  }
  both-traded (Err r) gain = tt

  pub both-lost : (result : Result ℕ Refusal) → OnErr result (KeepsHandles t u) → OnErr result (LosesBoth t x a b)
  both-lost (Ok h) same = tt
  both-lost (Err r) same = record {
    each = λ n. let one = same.each n in let two = first.each n in let three = second.each n in omega arith;
    total = let one = same.total in let two = first.total in let three = second.total in omega arith;
  }

  pub both-keeps : Keeps t u → Keeps u w → Keeps w x → Keeps t x
  both-keeps one two three =
      keeps_then one (keeps_then two three (λ n before after. let less = second.each n in omega arith))
      (λ n before after. let less = first.each n in let less' = second.each n in omega arith)

  pub both-value : (f : Function) (result : Result ℕ Refusal) → Grows u w 0 → Grows w x 0 → IfOk result (λ h. value_at u h ≡ f) → IfOk result (λ h. value_at x h ≡ f)
  both-value f (Ok h) one two is = value-grown w x h two ∙ value-grown u w h one ∙ is
  both-value f (Err r) one two is = tt

-- Two handles are made, a from t to u and b from u to v, and then traded for one, to w.
module _ (t u v w : Table) (a b : ℕ) (keeps : Keeps t u) (gain : GainsHandle t u a) (keeps' : Keeps u v) (gain' : GainsHandle u v b) where
  pub two-both : HasBoth v a b
  two-both n = let one = gain.each n in let two = gain'.each n in omega arith

  live-a : IsLive u a
  live-a = let own = one_on-itself a in let one = gain.each a in omega arith

  pub first-value : value_at v a ≡ value_at u a
  first-value = value-kept u v keeps' a live-a (live_gained gain' a live-a)

  pub two-gained : (result : Result ℕ Refusal) → IfOk result (Trades v w a b) → IfOk result (GainsHandle t w)
  two-gained (Ok h) trade =
      let each : (n : ℕ) → handles_on w n ≡ handles_on t n + one_on h n = (λ n. let one = gain.each n in let two = gain'.each n in let now = trade.each n in omega arith) in
      record {
        gained = (let here = each h in let own = one_on-itself h in omega arith);
        each = each;
        total = (let one = gain.total in let two = gain'.total in let now = trade.total in omega arith);
      }
  two-gained (Err r) trade = tt

  pub two-refused : (result : Result ℕ Refusal) → OnErr result (LosesBoth v w a b) → OnErr result (KeepsHandles t w)
  two-refused (Ok h) lost = tt
  two-refused (Err r) lost = record {
    each = λ n. let one = gain.each n in let two = gain'.each n in let now = lost.each n in omega arith;
    total = let one = gain.total in let two = gain'.total in let now = lost.total in omega arith;
  }

  pub two-keeps : Keeps v w → Keeps t w
  two-keeps last = keeps_then (keeps_then keeps keeps' (λ n first end. live_gained gain n first)) last
      (λ n first end. live_gained gain' n (live_gained gain n first))

  pub two-cause : (group few : List Function) (r : Refusal) → In (value_at u a) group → In (value_at v b) group → ((f : Function) → In f few → In f group)
      → IsShortFor v (few ∷ []) r → IsShortFor t (group ∷ []) r
  two-cause group few r in_a in_b all cause =
      cause-behind_member t u a group r keeps gain in_a (cause-behind_member u v b group r keeps' gain' in_b (cause-more v few group r all cause))

  pub two-told : (group few : List Function) (result : Result ℕ Refusal) → In (value_at u a) group → In (value_at v b) group → ((f : Function) → In f few → In f group)
      → IfErr result (IsShortFor v (few ∷ [])) → IfErr result (IsShortFor t (group ∷ []))
  two-told group few (Ok h) in_a in_b all cause = tt
  two-told group few (Err r) in_a in_b all cause = two-cause group few r in_a in_b all cause

-- where the second one is refused, and the first is given back
pub second-refused : (t u v w : Table) (a : ℕ) → GainsHandle t u a → KeepsHandles u v → LosesHandle v w a → KeepsHandles t w
second-refused t u v w a gain same lost = record {
  each = λ n. let one = gain.each n in let two = same.each n in let three = lost.each n in omega arith;
  total = let one = gain.total in let two = same.total in let three = lost.total in omega arith;
}

pub second-keeps : (t u v w : Table) (a : ℕ) → Keeps t u → GainsHandle t u a → Keeps u v → KeepsHandles u v → Keeps v w → Keeps t w
second-keeps t u v w a one gain two same last =
    keeps_then (keeps_then one two (λ n first end. live_gained gain n first)) last
    (λ n first end. let each = gain.each n in let now = same.each n in omega arith)

pub second-live : (u v : Table) (a : ℕ) → KeepsHandles u v → IsLive u a → IsLive v a
second-live u v a same live = let each = same.each a in omega arith

pub gained-live : (t u : Table) (a : ℕ) → GainsHandle t u a → IsLive u a
gained-live t u a gain = let own = one_on-itself a in let each = gain.each a in omega arith

-- where a call is refused, and another handle is given back
pub refused-lost : (t u v : Table) (a : ℕ) → KeepsHandles t u → LosesHandle u v a → LosesHandle t v a
refused-lost t u v a same lost = record {
  lost = let one = same.each a in let two = lost.lost in omega arith;
  each = λ n. let one = same.each n in let two = lost.each n in omega arith;
  total = let one = same.total in let two = lost.total in omega arith;
}

pub refused-keeps : (t u v : Table) → Keeps t u → KeepsHandles t u → Keeps u v → Keeps t v
refused-keeps t u v one same two = keeps_then one two (λ n before after. let each = same.each n in omega arith)
