-- Chains before and after the move to larger heads.
use Rattle.std.proofs.Common.{◌≡◌, ℕ, ◌<◌, List, length, Option, Some, None, replicate, refl, ap, sym, ◌∙◌, subst, arith}
use Rattle.std.proofs.lemmas.List.{get_or-replicate, length-replicate}
use Rattle.dd_store.specs.declared.row.Row.{Row}
use Rattle.dd_store.specs.declared.row.NodeNo.{NodeNo}
use Rattle.dd_store.specs.Chains.{IsChainOf, AreChained, AreMoved, HangsIn, HangsBelow, bucket_of, head_at}
use Rattle.dd_store.proofs.ChainLemmas.{keeps, empty}

-- each row hangs in one of the chains
pub bucket-within : (r : Row) (size : ℕ) → 0 < size → bucket_of r size < size
unfolding bucket_of
bucket-within r size some = grind arith

-- all chains are empty
pub heads-empty : (heads : List NodeNo) (n : ℕ) → heads ≡ replicate n (record { 0 = 0 }) → (c : ℕ) → c < length heads → head_at heads c ≡ 0
heads-empty heads n is c within =
    let size : length heads ≡ n = ap length is ∙ length-replicate n _ in
    ap (λ xs. head_at xs c) is ∙ ap (λ (x : NodeNo). x.0) (get_or-replicate n c (record { 0 = 0 }) _ (omega arith))

pub moved-none : (next : ℕ → ℕ) (rows : ℕ → Option Row) (v : ℕ) (old new : List NodeNo) (n : ℕ) → AreChained next rows v old
    → new ≡ replicate n (record { 0 = 0 }) → AreMoved next rows v old 0 new
moved-none next rows v old new n chained is = record {
  still = λ d more within. chained d within;
  moved = λ c within. subst (λ h. IsChainOf next h (λ k. HangsIn v (length new) (rows k) c × HangsBelow (length old) (rows k) 0)) (sym (heads-empty new n is c within))
      (empty next _ (λ k p. not-below (rows k) p.1));
}
  where
    not-below : (o : Option Row) → HangsBelow (length old) o 0 → ⊥
    not-below None below = below
    not-below (Some r) below = omega (arith, below)

pub moved-all : (next : ℕ → ℕ) (rows : ℕ → Option Row) (v : ℕ) (old new : List NodeNo) → 0 < length old
    → AreMoved next rows v old (length old) new → AreChained next rows v new
moved-all next rows v old new some moved c within =
    keeps (moved.moved c within) next _ (λ n p. refl) (λ n p. p.0) (λ n q. (q, below (rows n) q))
  where
    below : (o : Option Row) → HangsIn v (length new) o c → HangsBelow (length old) o (length old)
    below None hangs = hangs
    below (Some r) hangs = bucket-within r (length old) some

-- a move of one variable's nodes keeps the chains of the others
