-- Equal questions are one question, and what is found in a cache under a question answers it.
use Rattle.std.proofs.Common.{◌≡◌, ◌⊎◌, ◌++◌, ℕ, Bool, true, false, List, Option, Some, None, IfSome, Result, Ok, Err, ap, refl, sym, subst, ◌∙◌, inl, inr, ◌&&◌, nat_eq}
use Rattle.std.specs.List.{Contains}
use Rattle.std.specs.Map.{lookup}
use Rattle.std.specs.Result.{OnOk, OnErr}
use Rattle.std.proofs.lemmas.List.Elements.{Contains-append_left, Contains-append_right, Contains-append_cases}
use Rattle.std.proofs.lemmas.Bool.{eqb-true, true≢false}
use Rattle.lru.specs.LruCache.{LruCache, lru_cache, put_entries}
use Rattle.lru.proofs.CallerLemmas.{Contains-lookup, Contains-put_entries}
use Rattle.dd_store.specs.declared.row.NodeNo.{NodeNo}
use Rattle.dd_apply.specs.declared.operation.Operation.TheVariants.{And, Or, Xor}
use Rattle.dd_apply.specs.declared.question.Question.{Question}
use Rattle.dd_apply.specs.declared.question.Question.TheVariants.{Binary, Ite, Implies}
use Rattle.dd_apply.specs.contracts.question.QuestionPartialEq.TheImpl.{eq-value}

node : (a b : NodeNo) → nat_eq a.0 b.0 ≡ true → a ≡ b
node a b e = ap (λ (n : ℕ). let m : NodeNo = record { 0 = n } in m) (eqb-true a.0 b.0 e)

two : (p q : Bool) → (p && q) ≡ true → (p ≡ true) × (q ≡ true)
two true q e = (refl, e)
two false q e = absurd (true≢false (sym e))

-- questions that are equal by the test are one
pub one-question : (x y : Question) → (eq-value).it x y ≡ true → x ≡ y
one-question (Binary And a b) (Binary And c d) e = let h = two (nat_eq a.0 c.0) (nat_eq b.0 d.0) e in let one = node a c h.0 in let other = node b d h.1 in cc
one-question (Binary Or a b) (Binary Or c d) e = let h = two (nat_eq a.0 c.0) (nat_eq b.0 d.0) e in let one = node a c h.0 in let other = node b d h.1 in cc
one-question (Binary Xor a b) (Binary Xor c d) e = let h = two (nat_eq a.0 c.0) (nat_eq b.0 d.0) e in let one = node a c h.0 in let other = node b d h.1 in cc
one-question (Implies a b) (Implies c d) e = let h = two (nat_eq a.0 c.0) (nat_eq b.0 d.0) e in let one = node a c h.0 in let other = node b d h.1 in cc
one-question (Ite a b c) (Ite x y z) e = let h = two (nat_eq a.0 x.0) (nat_eq b.0 y.0 && nat_eq c.0 z.0) e in let g = two (nat_eq b.0 y.0) (nat_eq c.0 z.0) h.1 in let one = node a x h.0 in let other = node b y g.0 in let last = node c z g.1 in cc
one-question x y e = cc

-- what is found under a question is kept with it
pub recalled : (es : List (Question × NodeNo)) (q : Question) (o : Option NodeNo) → o ≡ lookup ((eq-value).it q) es → IfSome o (λ r. Contains es (q, r))
recalled es q None is = tt
recalled es q (Some r) is =
    let found = Contains-lookup ((eq-value).it q) es r (sym is) in
    subst (λ (k : Question). Contains es (k, r)) (sym (one-question q found.0 found.2)) found.1

-- what is kept after a pair is put was kept before, or is that pair
pub kept : (cache : LruCache Question NodeNo) (q : Question) (r : NodeNo) (p : Question × NodeNo) → Contains (put_entries (eq-value).it cache q r) p
    → Contains cache.entries p ⊎ (p ≡ (q, r))
kept cache q r p has = elim (Contains-put_entries (eq-value).it cache q r p has) [
  | inl before ↦ inl before
  | inr is ↦ inr (elim is.1 [
    | inl same ↦ ap (λ (k : Question). let u : Question × NodeNo = (k, p.1) in u) same ∙ ap (λ (s : NodeNo). let u : Question × NodeNo = (q, s) in u) is.0
    | inr found ↦ ap (λ (k : Question). let u : Question × NodeNo = (k, p.1) in u) (sym (one-question q p.0 found.2)) ∙ ap (λ (s : NodeNo). let u : Question × NodeNo = (q, s) in u) is.0
  ])
]

-- and where there was no memory for it, it was kept before
pub kept-or-not : {E : Type 0} (old new : LruCache Question NodeNo) (q : Question) (r : NodeNo) (result : Result (Option NodeNo) E)
    → OnOk result (new ≡ lru_cache (put_entries (eq-value).it old q r) old.cap) → OnErr result (new ≡ old)
    → (p : Question × NodeNo) → Contains new.entries p → Contains old.entries p ⊎ (p ≡ (q, r))
kept-or-not old new q r (Ok o) is not p has = kept old q r p (subst (λ (c : LruCache Question NodeNo). Contains c.entries p) is has)
kept-or-not old new q r (Err e) is not p has = inl (subst (λ (c : LruCache Question NodeNo). Contains c.entries p) not has)

-- what is kept in a list is kept behind other pairs
pub recalled-behind : (ps es : List (Question × NodeNo)) (q : Question) (o : Option NodeNo) → IfSome o (λ r. Contains es (q, r)) → IfSome o (λ r. Contains (ps ++ es) (q, r))
recalled-behind ps es q None has = tt
recalled-behind ps es q (Some r) has = Contains-append_right ps es (q, r) has

pub kept-behind : (ps old new : List (Question × NodeNo)) (x : Question × NodeNo)
    → ((p : Question × NodeNo) → Contains new p → Contains old p ⊎ (p ≡ x)) → (p : Question × NodeNo) → Contains (ps ++ new) p → Contains (ps ++ old) p ⊎ (p ≡ x)
kept-behind ps old new x each p has = elim (Contains-append_cases ps new p has) [
  | inl front ↦ inl (Contains-append_left ps old p front)
  | inr back ↦ elim (each p back) [ inl was ↦ inl (Contains-append_right ps old p was) | inr is ↦ inr is ]
]

pub kept-front : (old new es : List (Question × NodeNo)) (x : Question × NodeNo)
    → ((p : Question × NodeNo) → Contains new p → Contains old p ⊎ (p ≡ x)) → (p : Question × NodeNo) → Contains (new ++ es) p → Contains (old ++ es) p ⊎ (p ≡ x)
kept-front old new es x each p has = elim (Contains-append_cases new es p has) [
  | inl front ↦ elim (each p front) [ inl was ↦ inl (Contains-append_left old es p was) | inr is ↦ inr is ]
  | inr back ↦ inl (Contains-append_right old es p back)
]

-- what is kept after one was put in front and the one that stood there into the list was kept before, or is the new one
pub kept-both : (old new es last : List (Question × NodeNo)) (x displaced : Question × NodeNo)
    → ((p : Question × NodeNo) → Contains new p → Contains old p ⊎ (p ≡ x)) → Contains old displaced
    → ((p : Question × NodeNo) → Contains last p → Contains (new ++ es) p ⊎ (p ≡ displaced))
    → (p : Question × NodeNo) → Contains last p → Contains (old ++ es) p ⊎ (p ≡ x)
kept-both old new es last x displaced each was listed p has = elim (listed p has) [
  | inl before ↦ kept-front old new es x each p before
  | inr is ↦ inl (subst (λ (q : Question × NodeNo). Contains (old ++ es) q) (sym is) (Contains-append_left old es displaced was))
]
