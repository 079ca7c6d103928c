-- The pairs in places: what stands in a place is among them, and another result in a place brings no other pair.
use Rattle.std.proofs.Common.{◌≡◌, ◌⊎◌, ℕ, zero, suc, List, [], ◌∷◌, ◌++◌, length, Option, Some, None, IfSome, get_or, replicate, take, ◌≤◌, Result, Ok, Err, is_ok, if◌then◌else◌, refl, sym, ap, ◌∙◌, subst, inl, inr, arith}
use Rattle.std.proofs.Math.ListN.{set}
use Rattle.std.proofs.lemmas.List.{take_all}
use Rattle.std.specs.List.{Contains}
use Rattle.std.proofs.lemmas.List.Elements.{Contains-append_cases, Contains-append_left, Contains-append_right, Contains-push, Contains-push_cases}
use Rattle.dd_store.specs.declared.row.NodeNo.{NodeNo}
use Rattle.dd_apply.specs.declared.question.Question.{Question}
use Rattle.dd_apply.specs.declared.results.places.Kept.{Kept}
use Rattle.dd_apply.specs.Kept.{pairs_in}

abbrev Pair : Type 0
Pair = Question × NodeNo

-- nothing is in the empty list, and one thing alone in a list of one
pub none-there : (p : Pair) → Contains {X = Pair} [] p → ⊥
none-there p has = absurd (omega (arith, has.1))

only : (x p : Pair) → Contains (x ∷ []) p → p ≡ x
only x p has = elim (Contains-push_cases [] x p has) [ inl none ↦ absurd (none-there p none) | inr is ↦ sym is ]

first : (x : Pair) (xs : List Pair) → Contains (x ∷ xs) x
first x xs = Contains-append_left (x ∷ []) xs x (Contains-push [] x)

behind : (x : Pair) (xs : List Pair) (p : Pair) → Contains xs p → Contains (x ∷ xs) p
behind x xs p has = Contains-append_right (x ∷ []) xs p has

cases : (x : Pair) (xs : List Pair) (p : Pair) → Contains (x ∷ xs) p → (p ≡ x) ⊎ Contains xs p
cases x xs p has = elim (Contains-append_cases (x ∷ []) xs p has) [ inl one ↦ inl (only x p one) | inr rest ↦ inr rest ]

-- the pair in a place is among the pairs
abbrev there : List (Option Kept) → Option Kept → Type 0
there ps o = IfSome o (λ k. Contains (pairs_in ps) (k.question, k.answer))

there-behind : (x o : Option Kept) (ps : List (Option Kept)) → there ps o → there (x ∷ ps) o
there-behind x None ps has = tt
there-behind None (Some k) ps has = has
there-behind (Some j) (Some k) ps has = behind (j.question, j.answer) (pairs_in ps) (k.question, k.answer) has

pub pairs-at : (ps : List (Option Kept)) (i : ℕ) → IfSome (get_or ps i None) (λ k. Contains (pairs_in ps) (k.question, k.answer))
pairs-at [] i = tt
pairs-at (None ∷ ps) zero = tt
pairs-at (Some k ∷ ps) zero = first (k.question, k.answer) (pairs_in ps)
pairs-at (o ∷ ps) (suc i) = there-behind o (get_or ps i None) ps (pairs-at ps i)

-- what is among the pairs after a result is put into a place was among them, or is the new pair
pub pairs-set : (ps : List (Option Kept)) (i : ℕ) (k : Kept) (p : Question × NodeNo) → Contains (pairs_in (set ps i (Some k))) p
    → Contains (pairs_in ps) p ⊎ (p ≡ (k.question, k.answer))
pairs-set [] i k p has = inl has
pairs-set (None ∷ ps) zero k p has = elim (cases (k.question, k.answer) (pairs_in ps) p has) [ inl is ↦ inr is | inr rest ↦ inl rest ]
pairs-set (Some j ∷ ps) zero k p has = elim (cases (k.question, k.answer) (pairs_in ps) p has) [
  | inl is ↦ inr is
  | inr rest ↦ inl (behind (j.question, j.answer) (pairs_in ps) p rest)
]
pairs-set (None ∷ ps) (suc i) k p has = pairs-set ps i k p has
pairs-set (Some j ∷ ps) (suc i) k p has = elim (cases (j.question, j.answer) (pairs_in (set ps i (Some k))) p has) [
  | inl is ↦ inl (subst (λ (x : Pair). Contains ((j.question, j.answer) ∷ pairs_in ps) x) (sym is) (first (j.question, j.answer) (pairs_in ps)))
  | inr rest ↦ elim (pairs-set ps i k p rest) [ inl old ↦ inl (behind (j.question, j.answer) (pairs_in ps) p old) | inr new ↦ inr new ]
]

-- a result that is put where its own pair stands changes no pair
pub pairs-same : (ps : List (Option Kept)) (i : ℕ) (j k : Kept) → get_or ps i None ≡ Some j → j.question ≡ k.question → j.answer ≡ k.answer
    → pairs_in (set ps i (Some k)) ≡ pairs_in ps
pairs-same [] i j k is question answer = refl
pairs-same (None ∷ ps) zero j k is question answer = cc
pairs-same (Some x ∷ ps) zero j k is question answer = cc
pairs-same (None ∷ ps) (suc i) j k is question answer = pairs-same ps i j k is question answer
pairs-same (Some x ∷ ps) (suc i) j k is question answer = ap (λ (xs : List Pair). (x.question, x.answer) ∷ xs) (pairs-same ps i j k is question answer)

-- empty places have no pair
pub pairs-none : (n : ℕ) → pairs_in (replicate n None) ≡ []
pairs-none zero = refl
pairs-none (suc n) = pairs-none n

pub pairs-more : (ps : List (Option Kept)) (n : ℕ) → pairs_in (ps ++ replicate n None) ≡ pairs_in ps
pairs-more [] n = pairs-none n
pairs-more (None ∷ ps) n = pairs-more ps n
pairs-more (Some k ∷ ps) n = ap (λ (xs : List Pair). (k.question, k.answer) ∷ xs) (pairs-more ps n)

pub pairs-widened : {U E : Type 0} (old new : List (Option Kept)) (wider more : ℕ) (result : Result U E) → length old ≤ wider
    → new ≡ (if is_ok result then take wider old ++ replicate more None else old) → pairs_in new ≡ pairs_in old
pairs-widened old new wider more (Ok o) short is =
    ap pairs_in is ∙ pairs-more (take wider old) more ∙ ap pairs_in (take_all wider old short)
pairs-widened old new wider more (Err e) short is = ap pairs_in is

-- what was chosen from a place was there
pub one-of : (chosen o : Option Kept) (ps : List (Option Kept)) (i : ℕ) → o ≡ get_or ps i None → IfSome chosen (λ k. o ≡ Some k)
    → IfSome chosen (λ k. Contains (pairs_in ps) (k.question, k.answer))
one-of None o ps i is was = tt
one-of (Some k) o ps i is was = subst (λ (x : Option Kept). IfSome x (λ j. Contains (pairs_in ps) (j.question, j.answer))) (sym is ∙ was) (pairs-at ps i)
