-- Slots stay linked when a number is put into a chain.
use Rattle.std.proofs.Common.{◌≡◌, ◌≢◌, ℕ, ◌+◌, ◌<◌, ◌≤◌, List, length, cond, Some, None, refl, ap, sym, ◌∙◌, subst, inl, inr, arith, get_or-set_other, get_or-set_same}
use Rattle.std.proofs.Math.ListN.{set, length-set}
use Rattle.std.proofs.lemmas.Bool.{cases_eq, eq-eqb, ne_eqb}
use Rattle.dd_store.specs.declared.row.Row.{Row}
use Rattle.dd_store.specs.declared.row.NodeNo.{NodeNo}
use Rattle.dd_store.specs.declared.slots.slot.Slot.{Slot}
use Rattle.dd_store.specs.Limits.{most_budget}
use Rattle.dd_store.specs.Table.{rows_in}
use Rattle.dd_store.specs.Slots.{rows_testing}
use Rattle.dd_store.specs.Chains.{Heads, IsChainOf, AreChained, HangsIn, bucket_of, head_at, width}
use Rattle.dd_store.specs.Linked.{AreLinked, IsFree, row_in, next_in, next_of_slot, row_of_slot, slot_at, rows_of, heads_of, with_first}
use Rattle.dd_store.proofs.ChainLemmas.{keeps, puts-one}
use Rattle.dd_store.proofs.RowCounts.{one_testing}

-- a node with this row is put under the number n, which had none, first in its chain
pub record PutsNode (xs ys : List Slot) (variables : List Heads) (n : ℕ) (r : Row) (heads : Heads) : Type 0 where
  pub no_constant : 2 ≤ n
  pub free : row_in xs n ≡ None
  pub known : r.var.0 < length variables
  pub others : (m : ℕ) → m ≢ n → slot_at ys m ≡ slot_at xs m
  pub row : row_in ys n ≡ Some r
  pub next : next_in ys n ≡ head_at (heads_of variables r.var.0).heads (bucket_of r (width (heads_of variables r.var.0)))
  pub within : bucket_of r (width (heads_of variables r.var.0)) < width (heads_of variables r.var.0)
  pub heads_are : heads.heads ≡ with_first (heads_of variables r.var.0).heads r n
  pub nodes_are : heads.nodes ≡ (heads_of variables r.var.0).nodes + 1
  pub longer : length xs ≤ length ys
  pub few : length ys ≤ most_budget + 2
  pub counts : rows_in (rows_of ys) ≡ rows_in (rows_of xs) + 1
  pub each_count : (v : ℕ) → rows_testing v (rows_of ys) ≡ rows_testing v (rows_of xs) + one_testing v r

-- what hangs somewhere isn't the free number
hangs-other : (xs : List Slot) (n v size c : ℕ) → row_in xs n ≡ None → (m : ℕ) → HangsIn v size (row_in xs m) c → m ≢ n
hangs-other xs n v size c free m hangs same = subst (λ o. HangsIn v size o c) (ap (row_in xs) same ∙ free) hangs

-- the chains of its variable
chained-here : (xs ys : List Slot) (variables : List Heads) (n : ℕ) (r : Row) (heads : Heads) → PutsNode xs ys variables n r heads
    → AreChained (next_in xs) (row_in xs) r.var.0 (heads_of variables r.var.0).heads → AreChained (next_in ys) (row_in ys) r.var.0 heads.heads
chained-here xs ys variables n r heads put chained =
    subst (AreChained (next_in ys) (row_in ys) r.var.0) (sym put.heads_are)
    (subst (λ l. (c : ℕ) → c < length (with_first old r n) → IsChainOf (next_in ys) (head_at (with_first old r n) c) (λ m. HangsIn r.var.0 l (row_in ys m) c)) (sym (length-set old _ _))
    (puts-one (next_in xs) (next_in ys) old (λ c m. HangsIn r.var.0 (length old) (row_in xs m) c) (λ c m. HangsIn r.var.0 (length old) (row_in ys m) c) n (bucket_of r (length old))
    chained (λ zero'. let two = put.no_constant in omega arith) put.within (λ m other. ap next_of_slot (put.others m other)) put.next
    (λ c p. hangs-other xs n _ _ c put.free n p refl)
    (subst (λ o. HangsIn r.var.0 (length old) o (bucket_of r (length old))) (sym put.row) (refl, refl))
    (λ c q. sym (subst (λ o. HangsIn r.var.0 (length old) o c) put.row q).1)
    (λ c m p. subst (λ o. HangsIn r.var.0 (length old) o c) (ap row_of_slot (sym (put.others m (hangs-other xs n _ _ c put.free m p)))) p)
    (λ c m other q. subst (λ o. HangsIn r.var.0 (length old) o c) (ap row_of_slot (put.others m other)) q)))
  where
    old : List NodeNo
    old = (heads_of variables r.var.0).heads

-- the chains of another variable
chained-there : (xs ys : List Slot) (n w : ℕ) (r : Row) (heads : List NodeNo) → row_in xs n ≡ None → row_in ys n ≡ Some r → r.var.0 ≢ w
    → ((m : ℕ) → m ≢ n → slot_at ys m ≡ slot_at xs m) → AreChained (next_in xs) (row_in xs) w heads → AreChained (next_in ys) (row_in ys) w heads
chained-there xs ys n w r heads free row other others chained c within =
    keeps (chained c within) (next_in ys) _
    (λ m p. ap next_of_slot (others m (hangs-other xs n _ _ c free m p)))
    (λ m p. subst (λ o. HangsIn w (length heads) o c) (ap row_of_slot (sym (others m (hangs-other xs n _ _ c free m p)))) p)
    (λ m q. subst (λ o. HangsIn w (length heads) o c) (ap row_of_slot (others m (λ same. other (subst (λ o. HangsIn w (length heads) o c) (ap (row_in ys) same ∙ row) q).0))) q)

pub puts-node : (xs ys : List Slot) (free free' nodes : ℕ) (variables : List Heads) (n : ℕ) (r : Row) (heads : Heads)
    → AreLinked xs free variables nodes → PutsNode xs ys variables n r heads → IsChainOf (next_in ys) free' (IsFree ys)
    → AreLinked ys free' (set variables r.var.0 heads) (nodes + 1)
puts-node xs ys free free' nodes variables n r heads linked put chain = record {
  constants = let two = linked.constants in let longer = put.longer in omega arith;
  few = put.few;
  no_rows = λ m small. ap row_of_slot (put.others m (λ same. let two = put.no_constant in omega arith)) ∙ linked.no_rows m small;
  known = λ m s is. subst (λ l. s.var.0 < l) (sym (length-set variables r.var.0 heads)) (elim (cases_eq m n) [
    | inl same ↦ (let both : Some s ≡ Some r = sym is ∙ ap (row_in ys) same ∙ put.row in let e : s ≡ r = cc in subst (λ q. q.var.0 < length variables) (sym e) put.known)
    | inr other ↦ linked.known m s (ap row_of_slot (sym (put.others m other)) ∙ is)
  ]);
  free_chain = chain;
  chains = λ w inside. elim (cases_eq w r.var.0) [
    | inl same ↦ subst (λ v. AreChained (next_in ys) (row_in ys) v (heads_of (set variables r.var.0 heads) v).heads) (sym same)
        (subst (λ h. AreChained (next_in ys) (row_in ys) r.var.0 h.heads) (sym (get_or-set_same variables r.var.0 heads _ put.known)) (chained-here xs ys variables n r heads put (linked.chains r.var.0 put.known)))
    | inr other ↦ subst (λ h. AreChained (next_in ys) (row_in ys) w h.heads) (sym (get_or-set_other variables r.var.0 w heads _ other))
        (chained-there xs ys n w r _ put.free put.row (λ same. other (sym same)) put.others (linked.chains w (inside' w inside)))
  ];
  each_count = λ w inside. elim (cases_eq w r.var.0) [
    | inl same ↦ subst (λ v. (heads_of (set variables r.var.0 heads) v).nodes ≡ rows_testing v (rows_of ys)) (sym same)
        (ap (λ (h : Heads). h.nodes) (get_or-set_same variables r.var.0 heads _ put.known) ∙ put.nodes_are ∙ ap (λ k. k + 1) (linked.each_count r.var.0 put.known)
        ∙ sym (put.each_count r.var.0 ∙ ap (λ b. rows_testing r.var.0 (rows_of xs) + cond b 1 0) (eq-eqb r.var.0 r.var.0 refl)))
    | inr other ↦ ap (λ (h : Heads). h.nodes) (get_or-set_other variables r.var.0 w heads _ other) ∙ linked.each_count w (inside' w inside)
        ∙ sym (put.each_count w ∙ ap (λ b. rows_testing w (rows_of xs) + cond b 1 0) (ne_eqb r.var.0 w (λ same. other (sym same))) ∙ (omega arith))
  ];
  count = ap (λ k. k + 1) linked.count ∙ sym put.counts;
}
  where
    inside' : (w : ℕ) → w < length (set variables r.var.0 heads) → w < length variables
    inside' w inside = subst (λ l. w < l) (length-set variables r.var.0 heads) inside
