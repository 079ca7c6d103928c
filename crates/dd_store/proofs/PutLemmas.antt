-- The three ways in which a number comes into a chain: a node behind the last slot, a node in a free slot, and a free slot.
use Rattle.std.proofs.Common.{◌≡◌, ◌≢◌, ◌⊎◌, ℕ, false, ◌+◌, ◌<◌, List, [], ◌∷◌, ◌++◌, length, Some, is_some, get_or, ap, sym, ◌∙◌, subst, inl, inr, arith, get_or-set_other, get_or-set_same, length-append}
use Rattle.std.proofs.Math.ListN.{set, length-set}
use Rattle.std.proofs.lemmas.Bool.{cases_eq, true≢false}
use Rattle.std.proofs.lemmas.List.{map-append, map-set, length-map, get_or_default}
use Rattle.dd_store.specs.declared.row.Row.{Row}
use Rattle.dd_store.specs.declared.row.NodeNo.{NodeNo}
use Rattle.dd_store.specs.declared.slots.slot.Slot.{Slot}
use Rattle.dd_store.specs.declared.slots.slot.Slot.TheVariants.{Free, Node}
use Rattle.dd_store.specs.Limits.{most_budget}
use Rattle.dd_store.specs.Table.{rows_in}
use Rattle.dd_store.specs.Slots.{rows_testing}
use Rattle.dd_store.specs.Chains.{Heads, IsChainOf, HangsIn, bucket_of, head_at, width}
use Rattle.dd_store.specs.Linked.{AreLinked, IsFree, row_in, next_in, next_of_slot, row_of_slot, slot_at, rows_of, heads_of, with_first, IsPlace}
use Rattle.dd_store.proofs.ChainLemmas.{keeps, puts, takes}
use Rattle.dd_store.proofs.RowCounts.{rows_in-some, testing-some, rows_in-none, testing-none, rows_in-set, testing-set}
use Rattle.dd_store.proofs.SlotLemmas.{row-at, slot-push_other, slot-push_same, row-past}
use Rattle.dd_store.proofs.LinkLemmas.{puts-node}

-- a node behind the last slot
pub push-node : (xs : List Slot) (free nodes : ℕ) (variables : List Heads) (n : ℕ) (r : Row) (next : NodeNo) (heads : Heads)
    → AreLinked xs free variables nodes → length xs ≡ n → n < most_budget + 2 → IsPlace variables n r next heads
    → AreLinked (xs ++ Node false r next ∷ []) free (set variables r.var.0 heads) (nodes + 1)
push-node xs free nodes variables n r next heads linked is few place =
    puts-node xs (xs ++ s ∷ []) free free nodes variables n r heads linked (record {
      no_constant = let two = linked.constants in omega arith;
      free = row-past xs n (omega arith);
      known = place.known;
      others = λ m other. slot-push_other xs s n m is other;
      row = ap row_of_slot (slot-push_same xs s n is);
      next = ap next_of_slot (slot-push_same xs s n is) ∙ place.first;
      within = place.within;
      heads_are = place.heads_are;
      nodes_are = place.nodes_are;
      longer = let more = length-append xs (s ∷ []) in omega arith;
      few = let more = length-append xs (s ∷ []) in omega arith;
      counts = ap rows_in rows ∙ rows_in-some (rows_of xs) r;
      each_count = λ v. ap (rows_testing v) rows ∙ testing-some v (rows_of xs) r;
    }) (keeps linked.free_chain (next_in (xs ++ s ∷ [])) (IsFree (xs ++ s ∷ []))
    (λ m p. ap next_of_slot (slot-push_other xs s n m is (λ same. let inside = p.1 in omega arith)))
    (λ m p. (p.0, (let more = length-append xs (s ∷ []) in let inside = p.1 in omega arith), ap row_of_slot (slot-push_other xs s n m is (λ same. let inside = p.1 in omega arith)) ∙ p.2))
    (λ m q. back m q (cases_eq m n)))
  where
    s : Slot
    s = Node false r next

    rows : rows_of (xs ++ s ∷ []) ≡ rows_of xs ++ Some r ∷ []
    rows = map-append row_of_slot xs (s ∷ [])

    back : (m : ℕ) → IsFree (xs ++ s ∷ []) m → (m ≡ n) ⊎ (m ≢ n) → IsFree xs m
    back m q (inl same) = absurd (true≢false (ap is_some (sym (ap row_of_slot (slot-push_same xs s n is)) ∙ sym (ap (row_in (xs ++ s ∷ [])) same) ∙ q.2)))
    back m q (inr other) = (q.0, (let more = length-append xs (s ∷ []) in let inside = q.1 in omega arith), ap row_of_slot (sym (slot-push_other xs s n m is other)) ∙ q.2)

-- a free slot behind the last one
pub push-free : (xs : List Slot) (free nodes : ℕ) (variables : List Heads) (n : ℕ) (next : NodeNo)
    → AreLinked xs free variables nodes → length xs ≡ n → n < most_budget + 2 → next.0 ≡ free
    → AreLinked (xs ++ Free next ∷ []) n variables nodes
push-free xs free nodes variables n next linked is few first = record {
  constants = let two = linked.constants in let more = length-append xs (s ∷ []) in omega arith;
  few = let more = length-append xs (s ∷ []) in omega arith;
  no_rows = λ m small. rows m ∙ linked.no_rows m small;
  known = λ m r row. linked.known m r (sym (rows m) ∙ row);
  free_chain = puts linked.free_chain (next_in ys) (IsFree ys) n
      (λ zero'. let two = linked.constants in omega arith)
      (λ p. let inside = p.1 in omega arith)
      (ap next_of_slot (slot-push_same xs s n is) ∙ first)
      (λ m p. ap next_of_slot (slot-push_other xs s n m is (λ same. let inside = p.1 in omega arith)))
      ((let two = linked.constants in omega arith), (let more = length-append xs (s ∷ []) in omega arith), ap row_of_slot (slot-push_same xs s n is))
      (λ m p. (p.0, (let more = length-append xs (s ∷ []) in let inside = p.1 in omega arith), rows m ∙ p.2))
      (λ m other q. (q.0, (let more = length-append xs (s ∷ []) in let inside = q.1 in omega arith), sym (rows m) ∙ q.2));
  chains = λ v inside c within. keeps (linked.chains v inside c within) (next_in ys) _
      (λ m p. ap next_of_slot (slot-push_other xs s n m is (other v _ c m p)))
      (λ m p. subst (λ o. HangsIn v (length (heads_of variables v).heads) o c) (sym (rows m)) p)
      (λ m q. subst (λ o. HangsIn v (length (heads_of variables v).heads) o c) (rows m) q);
  each_count = λ v inside. linked.each_count v inside ∙ sym (ap (rows_testing v) (map-append row_of_slot xs (s ∷ [])) ∙ testing-none v (rows_of xs));
  count = linked.count ∙ sym (ap rows_in (map-append row_of_slot xs (s ∷ [])) ∙ rows_in-none (rows_of xs));
}
  where
    s : Slot
    s = Free next

    ys : List Slot
    ys = xs ++ s ∷ []

    rows : (m : ℕ) → row_in ys m ≡ row_in xs m
    rows m = elim (cases_eq m n) [
      | inl same ↦ ap (row_in ys) same ∙ ap row_of_slot (slot-push_same xs s n is) ∙ sym (ap (row_in xs) same ∙ row-past xs n (omega arith))
      | inr other ↦ ap row_of_slot (slot-push_other xs s n m is other)
    ]

    other : (v size c m : ℕ) → HangsIn v size (row_in xs m) c → m ≢ n
    other v size c m p same = subst (λ o. HangsIn v size o c) (ap (row_in xs) same ∙ row-past xs n (omega arith)) p

-- a node in the first free slot
pub reuse-node : (xs : List Slot) (free nodes : ℕ) (variables : List Heads) (r : Row) (next : NodeNo) (heads : Heads)
    → AreLinked xs free variables nodes → free ≢ 0 → IsPlace variables free r next heads
    → AreLinked (set xs free (Node false r next)) (next_in xs free) (set variables r.var.0 heads) (nodes + 1)
reuse-node xs free nodes variables r next heads linked some place =
    puts-node xs (set xs free s) free (next_in xs free) nodes variables free r heads linked (record {
      no_constant = first.0;
      free = first.2;
      known = place.known;
      others = λ m other. get_or-set_other xs free m s _ other;
      row = ap row_of_slot here;
      next = ap next_of_slot here ∙ place.first;
      within = place.within;
      heads_are = place.heads_are;
      nodes_are = place.nodes_are;
      longer = let same = length-set xs free s in omega arith;
      few = let same = length-set xs free s in let few' = linked.few in omega arith;
      counts = ap rows_in rows ∙ rows_in-set (rows_of xs) free r inside (row-at xs free ∙ first.2);
      each_count = λ v. ap (rows_testing v) rows ∙ testing-set v (rows_of xs) free r inside (row-at xs free ∙ first.2);
    }) (keeps taken.1 (next_in (set xs free s)) (IsFree (set xs free s))
    (λ m p. ap next_of_slot (get_or-set_other xs free m s _ p.1))
    (λ m p. (p.0.0, (let same = length-set xs free s in let within = p.0.1 in omega arith), ap row_of_slot (get_or-set_other xs free m s _ p.1) ∙ p.0.2))
    (λ m q. back m q (cases_eq m free)))
  where
    s : Slot
    s = Node false r next

    taken : IsFree xs free × IsChainOf (next_in xs) (next_in xs free) (λ m. IsFree xs m × (m ≢ free))
    taken = takes linked.free_chain some

    first : IsFree xs free
    first = taken.0

    here : slot_at (set xs free s) free ≡ s
    here = get_or-set_same xs free s _ first.1

    rows : rows_of (set xs free s) ≡ set (rows_of xs) free (Some r)
    rows = map-set row_of_slot xs free s

    inside : free < length (rows_of xs)
    inside = subst (λ l. free < l) (sym (length-map xs row_of_slot)) first.1

    back : (m : ℕ) → IsFree (set xs free s) m → (m ≡ free) ⊎ (m ≢ free) → IsFree xs m × (m ≢ free)
    back m q (inl same) = absurd (true≢false (ap is_some (sym (ap row_of_slot here) ∙ sym (ap (row_in (set xs free s)) same) ∙ q.2)))
    back m q (inr other) = ((q.0, (let same = length-set xs free s in let within = q.1 in omega arith), ap row_of_slot (sym (get_or-set_other xs free m s _ other)) ∙ q.2), other)

-- the place that `put` gives
place-is : (variables : List Heads) (n : ℕ) (r : Row) (next : NodeNo) (old new : Heads) → r.var.0 < length variables → old ≡ heads_of variables r.var.0
    → next.0 ≡ head_at old.heads (bucket_of r (width old)) → bucket_of r (width old) < width old → new.heads ≡ with_first old.heads r n → new.nodes ≡ old.nodes + 1
    → IsPlace variables n r next new
place-is variables n r next old new known is first within heads nodes = record {
  known = known;
  first = subst (λ h. next.0 ≡ head_at h.heads (bucket_of r (width h))) is first;
  within = subst (λ h. bucket_of r (width h) < width h) is within;
  heads_are = subst (λ h. new.heads ≡ with_first h.heads r n) is heads;
  nodes_are = subst (λ h. new.nodes ≡ h.nodes + 1) is nodes;
}

pub hang-same : (variables : List Heads) (v : ℕ) (new : Heads) → v < length variables → new ≡ heads_of (set variables v new) v
hang-same variables v new known = sym (get_or-set_same variables v new _ known)

pub hang-place : (variables : List Heads) (n : ℕ) (r : Row) (next : NodeNo) (x new : Heads) → r.var.0 < length variables
    → next.0 ≡ head_at (get_or variables r.var.0 x).heads (bucket_of r (width (get_or variables r.var.0 x)))
    → bucket_of r (width (get_or variables r.var.0 x)) < width (get_or variables r.var.0 x)
    → new.heads ≡ with_first (get_or variables r.var.0 x).heads r n → new.nodes ≡ (get_or variables r.var.0 x).nodes + 1
    → IsPlace variables n r next (heads_of (set variables r.var.0 new) r.var.0)
hang-place variables n r next x new known first within heads nodes =
    subst (IsPlace variables n r next) (hang-same variables r.var.0 new known)
    (place-is variables n r next (get_or variables r.var.0 x) new known (get_or_default variables r.var.0 _ _ known) first within heads nodes)
