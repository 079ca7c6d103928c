-- Changes of a table, one after another.
use Rattle.std.proofs.Common.{◌≡◌, ℕ, ◌+◌, ◌≤◌, Bool, true, false, cond, ◌==◌, List, [], ◌∷◌, ◌++◌, Option, Some, None, refl, ap, ◌∙◌, subst, arith}
use Rattle.std.specs.List.{All}
use Rattle.std.proofs.lemmas.List.Elements.{All-append, All-weaker, All-nil, All-cons, All-head, All-tail}
use Rattle.dd_store.specs.declared.row.Row.{Row}
use Rattle.dd_store.specs.declared.row.Var.{Var}
use Rattle.dd_store.specs.Follow.{end_of, step, IsThere}
use Rattle.dd_store.specs.Reached.{reached, KeepsReached}
use Rattle.dd_store.specs.Table.{Table, row_of, IsLive, IsSound}
use Rattle.dd_store.specs.Changes.{Keeps, Grows}

-- the parts of a list
pub All-front : {X : Type 0} (P : X → Type 0) (xs ys : List X) → All P (xs ++ ys) → All P xs
All-front P [] ys h = All-nil P
All-front P (x ∷ xs) ys h = All-cons P x xs (All-head P x (xs ++ ys) h) (All-front P xs ys (All-tail P x (xs ++ ys) h))

pub All-back : {X : Type 0} (P : X → Type 0) (xs ys : List X) → All P (xs ++ ys) → All P ys
All-back P [] ys h = h
All-back P (x ∷ xs) ys h = All-back P xs ys (All-tail P x (xs ++ ys) h)

-- where each reached number keeps its row, the same numbers are reached after
pub reached-same : (vs : List Var) (old new : ℕ → Option Row) (n : ℕ) → KeepsReached vs old new n → reached vs new n ≡ reached vs old n
reached-same [] old new n keeps = refl
reached-same (v ∷ vs) old new n keeps =
    let P : ℕ → Type 0 = λ m. new m ≡ old m in
    let low = reached vs old (step (old n) v.0 n false) in
    let high = reached vs old (step (old n) v.0 n true) in
    let here : new n ≡ old n = All-head P n (low ++ high) keeps in
    let rest = All-tail P n (low ++ high) keeps in
    let one = reached-same vs old new (step (old n) v.0 n false) (All-front P low high rest) in
    let two = reached-same vs old new (step (old n) v.0 n true) (All-back P low high rest) in
    ap (λ (o : Option Row). n ∷ (reached vs new (step o v.0 n false) ++ reached vs new (step o v.0 n true))) here
    ∙ ap (λ (ms : List ℕ). n ∷ (ms ++ reached vs new (step (old n) v.0 n true))) one
    ∙ ap (λ (ms : List ℕ). n ∷ (low ++ ms)) two

-- what is reached from a constant or a node is one
pub reached-there : (vs : List Var) (rows : ℕ → Option Row) → ((n : ℕ) (r : Row) (b : Bool) → rows n ≡ Some r → IsThere rows (end_of r b))
    → (n : ℕ) → IsThere rows n → All (IsThere rows) (reached vs rows n)
reached-there [] rows closed n there = All-cons (IsThere rows) n [] there (All-nil (IsThere rows))
reached-there (v ∷ vs) rows closed n there =
    All-cons (IsThere rows) n _ there
    (All-append (IsThere rows) _ _ (reached-there vs rows closed _ (past false (rows n) refl)) (reached-there vs rows closed _ (past true (rows n) refl)))
  where
    past : (b : Bool) (o : Option Row) → rows n ≡ o → IsThere rows (step o v.0 n b)
    past b None e = there
    past b (Some r) e = within (v.0 == r.var.0)
      where
        within : (t : Bool) → IsThere rows (cond t (end_of r b) n)
        within true = closed n r b e
        within false = there

-- rows that are the same at each constant and node are so wherever a live handle reaches
pub keeps-reached : (t : Table) (new : ℕ → Option Row) → IsSound t → ((n : ℕ) → IsThere (row_of t) n → new n ≡ row_of t n)
    → (n : ℕ) → IsLive t n → KeepsReached t.order (row_of t) new n
keeps-reached t new sound same n live =
    let there = reached-there t.order (row_of t) (λ m r b is. sound.reduced.rows.ends_there m r b is) n (sound.reduced.live n live) in
    All-weaker (IsThere (row_of t)) (λ m. new m ≡ row_of t m) same (reached t.order (row_of t) n) there

-- nothing changed
pub keeps_all : (t : Table) → IsSound t → Keeps t t
keeps_all t sound = record {
  values = λ n a before after. refl;
  kept_alive = λ n before after k d within. refl;
  order = refl;
  budget = refl;
  sound = sound;
}

pub grows_none : (t : Table) (most : ℕ) → IsSound t → Grows t t most
grows_none t most sound = record {
  keeps = keeps_all t sound;
  count = omega arith;
  rows = λ room n r is. is;
  none = λ no n. refl;
}

-- one change after another, where what is live at both ends is so between them
pub keeps_then : {a b c : Table} → Keeps a b → Keeps b c → ((n : ℕ) → IsLive a n → IsLive c n → IsLive b n) → Keeps a c
keeps_then {a} {b} {c} one two live = record {
  values = λ n x before after. two.values n x (live n before after) after ∙ one.values n x before (live n before after);
  kept_alive = λ n before after.
      let between = live n before after in
      let first = one.kept_alive n before between in
      let same = ap (λ (o : List Var). reached o (row_of b) n) one.order ∙ reached-same a.order (row_of a) (row_of b) n first in
      let second = subst (λ (ms : List ℕ). All (λ (m : ℕ). row_of c m ≡ row_of b m) ms) same (two.kept_alive n between after) in
      λ k d within. second k d within ∙ first k d within;
  order = two.order ∙ one.order;
  budget = two.budget ∙ one.budget;
  sound = two.sound;
}

pub grows_then : {a b c : Table} {k j : ℕ} → Grows a b k → Grows b c j → ((n : ℕ) → IsLive a n → IsLive c n → IsLive b n) → Grows a c (k + j)
grows_then one two live = record {
  keeps = keeps_then one.keeps two.keeps live;
  count = let first = one.count in let second = two.count in omega arith;
  rows = λ room n r is.
      let first = one.count in
      let budget = one.keeps.budget in
      two.rows (omega arith) n r (one.rows (omega arith) n r is);
  none = λ no n. two.none (omega arith) n ∙ one.none (omega arith) n;
}

-- more nodes might have been asked for
pub grows_more : {a b : Table} {k : ℕ} (j : ℕ) → Grows a b k → k ≤ j → Grows a b j
grows_more j one more = record {
  keeps = one.keeps;
  count = let count = one.count in omega arith;
  rows = λ room n r is. one.rows (omega arith) n r is;
  none = λ no n. one.none (omega arith) n;
}
