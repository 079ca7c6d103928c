-- Chains while their nodes are moved to other heads.
use Rattle.std.proofs.Common.{◌≡◌, ◌≢◌, ◌⊎◌, ℕ, ◌+◌, ◌<◌, ◌≤◌, List, [], ◌∷◌, length, Option, Some, None, refl, ap, sym, ◌∙◌, subst, inl, inr, arith}
use Rattle.std.proofs.Math.ListN.{length-set}
use Rattle.std.proofs.lemmas.Bool.{cases_lt}
use Rattle.dd_store.specs.declared.row.Row.{Row}
use Rattle.dd_store.specs.declared.row.NodeNo.{NodeNo}
use Rattle.dd_store.specs.declared.slots.slot.Slot.{Slot}
use Rattle.dd_store.specs.Chains.{Has, IsChain, IsChainOf, AreMoved, HangsIn, HangsBelow, bucket_of, head_at}
use Rattle.dd_store.specs.Linked.{row_in, next_in, next_of_slot, KeepsSlots, PutsFirst, with_first}
use Rattle.dd_store.proofs.ChainLemmas.{chain-same, keeps, puts-one, few}
use Rattle.dd_store.proofs.FindLemmas.{row-within, hangs-row}
use Rattle.dd_store.proofs.SlotLemmas.{keeps-rows}

-- a row hangs in one chain
pub hangs-once : (v size : ℕ) (o : Option Row) (b d : ℕ) → HangsIn v size o b → HangsIn v size o d → b ≡ d
hangs-once v size None b d one two = absurd one
hangs-once v size (Some r) b d one two = sym one.1 ∙ two.1

hangs-not-below : (v size : ℕ) (o : Option Row) (b : ℕ) → HangsIn v size o b → HangsBelow size o b → ⊥
hangs-not-below v size None b hangs below = hangs
hangs-not-below v size (Some r) b hangs below = let is = hangs.1 in omega (arith, is, below)

below-more : (v size : ℕ) (o : Option Row) (b : ℕ) → HangsBelow size o b ⊎ HangsIn v size o b → HangsBelow size o (b + 1)
below-more v size None b (inl below) = below
below-more v size None b (inr hangs) = hangs
below-more v size (Some r) b (inl below) = omega (arith, below)
below-more v size (Some r) b (inr hangs) = let is = hangs.1 in omega (arith, is)

-- a row that hangs in the first b + 1 chains hangs in the first b or in the next one
below-cases : (v size size' c : ℕ) (o : Option Row) (b : ℕ) → HangsIn v size' o c → HangsBelow size o (b + 1) → HangsBelow size o b ⊎ HangsIn v size o b
below-cases v size size' c None b hangs below = absurd below
below-cases v size size' c (Some r) b hangs below = elim (cases_lt (bucket_of r size) b) [ inl less ↦ inl less | inr more ↦ inr (hangs.0, omega (arith, more, below)) ]

-- a node hangs in the chain c, and is of the first b old chains, or of the next one and not among what is left of it
abbrev pub WasMoved : (ℕ → Option Row) → ℕ → ℕ → ℕ → ℕ → List ℕ → ℕ → ℕ → Type 0
WasMoved rows v size size' b ns c n = HangsIn v size' (rows n) c × (HangsBelow size (rows n) b ⊎ (HangsIn v size (rows n) b × (Has ns n → ⊥)))

-- these numbers are left of the chain b, from this one on; the others of that chain were moved
pub record Moving (next : ℕ → ℕ) (rows : ℕ → Option Row) (v : ℕ) (old : List NodeNo) (b : ℕ) (new : List NodeNo) (node : ℕ) (ns : List ℕ) : Type 0 where
  pub chain : IsChain next node ns
  pub each : (n : ℕ) → Has ns n → HangsIn v (length old) (rows n) b
  pub still : (d : ℕ) → b < d → d < length old → IsChainOf next (head_at old d) (λ n. HangsIn v (length old) (rows n) d)
  pub moved : (c : ℕ) → c < length new → IsChainOf next (head_at new c) (WasMoved rows v (length old) (length new) b ns c)

-- at most as many are left as turns
pub record Moves (slots : List Slot) (v : ℕ) (old : List NodeNo) (b : ℕ) (new : List NodeNo) (node i : ℕ) : Type 0 where
  pub numbers : List ℕ
  pub moving : Moving (next_in slots) (row_in slots) v old b new node numbers
  pub few : length numbers + i ≤ length slots

-- a step: the node is put first in its new chain
record IsPut (next next' : ℕ → ℕ) (rows : ℕ → Option Row) (new : List NodeNo) (node : ℕ) (r : Row) : Type 0 where
  pub row : rows node ≡ Some r
  pub others : (n : ℕ) → n ≢ node → next' n ≡ next n
  pub first : next' node ≡ head_at new (bucket_of r (length new))
  pub within : bucket_of r (length new) < length new

moving-step : (next next' : ℕ → ℕ) (rows : ℕ → Option Row) (v : ℕ) (old : List NodeNo) (b : ℕ) (new : List NodeNo) (node : ℕ) (r : Row) (n : ℕ) (ns : List ℕ)
    → Moving next rows v old b new node (n ∷ ns) → IsPut next next' rows new node r → Moving next' rows v old b (with_first new r node) (next node) ns
moving-step next next' rows v old b new node r n ns m put = record {
  chain = chain-same next next' (next node) ns (λ k has. put.others k (λ same. m.chain.2 (subst (Has ns) (same ∙ m.chain.0) has))) (subst (λ k. IsChain next (next k) ns) (sym m.chain.0) m.chain.3);
  each = λ k has. m.each k (inr has);
  still = λ d more inside. keeps (m.still d more inside) next' _ (λ k hangs. put.others k (λ same. absurd (not-still d more (subst (λ x. HangsIn v (length old) (rows x) d) same hangs)))) (λ k p. p) (λ k q. q);
  moved = subst (λ l. (c : ℕ) → c < length (with_first new r node) → IsChainOf next' (head_at (with_first new r node) c) (WasMoved rows v (length old) l b ns c)) (sym (length-set new (bucket_of r (length new)) (record { 0 = node }))) moved';
}
  where
    first : Has (n ∷ ns) node
    first = inl (sym m.chain.0)

    here : HangsIn v (length old) (rows node) b
    here = m.each node first

    not-still : (d : ℕ) → b < d → HangsIn v (length old) (rows node) d → ⊥
    not-still d more hangs = let same = hangs-once v (length old) (rows node) b d here hangs in omega (arith, more, same)

    hangs' : HangsIn v (length new) (rows node) (bucket_of r (length new))
    hangs' = subst (λ o. HangsIn v (length new) o (bucket_of r (length new))) (sym put.row) ((subst (λ o. HangsIn v (length old) o b) put.row here).0, refl)

    last : (k : ℕ) → k ≢ node → (Has ns k → ⊥) → Has (n ∷ ns) k → ⊥
    last k other not (inl same) = other (sym same ∙ sym m.chain.0)
    last k other not (inr has) = not has

    moved' : (c : ℕ) → c < length (with_first new r node) → IsChainOf next' (head_at (with_first new r node) c) (WasMoved rows v (length old) (length new) b ns c)
    moved' = puts-one next next' new (WasMoved rows v (length old) (length new) b (n ∷ ns)) (WasMoved rows v (length old) (length new) b ns)
        node (bucket_of r (length new)) m.moved (λ zero'. m.chain.1 (sym m.chain.0 ∙ zero')) put.within put.others put.first
        (λ c p. elim p.1 [ inl below ↦ hangs-not-below v (length old) (rows node) b here below | inr gone ↦ gone.1 first ])
        (hangs', inr (here, λ has. m.chain.2 (subst (Has ns) m.chain.0 has)))
        (λ c q. hangs-once v (length new) (rows node) c (bucket_of r (length new)) q.0 hangs')
        (λ c k p. (p.0, elim p.1 [ inl below ↦ inl below | inr gone ↦ inr (gone.0, λ has. gone.1 (inr has)) ]))
        (λ c k other q. (q.0, elim q.1 [ inl below ↦ inl below | inr gone ↦ inr (gone.0, last k other gone.1) ]))

-- the beginning: nothing of the chain was moved
pub moves-start : (slots : List Slot) (v : ℕ) (old : List NodeNo) (b : ℕ) (new : List NodeNo) (node : ℕ)
    → AreMoved (next_in slots) (row_in slots) v old b new → b < length old → node ≡ head_at old b → Moves slots v old b new node 0
moves-start slots v old b new node are within is =
    let chain = are.still b (omega arith) within in
    let inside : (n : ℕ) → Has chain.numbers n → n < length slots = λ n has. (let there = hangs-row v (length old) b slots n (chain.each n has) in row-within slots n there.0 there.1) in
    let most = few (next_in slots) (head_at old b) chain.numbers (length slots) chain.chain inside in
    record {
      numbers = chain.numbers;
      moving = record {
        chain = subst (λ k. IsChain (next_in slots) k chain.numbers) (sym is) chain.chain;
        each = chain.each;
        still = λ d more. are.still d (omega (arith, more));
        moved = λ c inside'. keeps (are.moved c inside') (next_in slots) _ (λ n p. refl) (λ n p. (p.0, inl p.1)) (λ n q. (q.0, elim q.1 [ inl below ↦ below | inr left ↦ absurd (left.1 (chain.all n left.0)) ]));
      };
      few = omega arith;
    }

-- the end: all of it was moved
pub moves-end : (slots : List Slot) (v : ℕ) (old : List NodeNo) (b : ℕ) (new : List NodeNo) (node i : ℕ)
    → Moves slots v old b new node i → (node ≡ 0) ⊎ (length slots ≤ i) → AreMoved (next_in slots) (row_in slots) v old (b + 1) new
moves-end slots v old b new node i moves end = by moves.numbers moves.moving moves.few end
  where
    by : (ns : List ℕ) → Moving (next_in slots) (row_in slots) v old b new node ns → length ns + i ≤ length slots → (node ≡ 0) ⊎ (length slots ≤ i) → AreMoved (next_in slots) (row_in slots) v old (b + 1) new
    by [] m few' end' = record {
      still = λ d more. m.still d (omega (arith, more));
      moved = λ c inside. keeps (m.moved c inside) (next_in slots) _ (λ n p. refl)
          (λ n p. (p.0, below-more v (length old) (row_in slots n) b (elim p.1 [ inl below ↦ inl below | inr gone ↦ inr gone.0 ])))
          (λ n q. (q.0, elim (below-cases v (length old) (length new) c (row_in slots n) b q.0 q.1) [ inl below ↦ inl below | inr hangs ↦ inr (hangs, λ has. has) ]));
    }
    by (n ∷ ns) m few' (inl zero') = absurd (m.chain.1 (sym m.chain.0 ∙ zero'))
    by (n ∷ ns) m few' (inr past) = absurd (omega arith)

-- what is left begins at a node with a row
pub moves-row : (slots : List Slot) (v : ℕ) (old : List NodeNo) (b : ℕ) (new : List NodeNo) (node i : ℕ)
    → Moves slots v old b new node i → node ≢ 0 → HangsIn v (length old) (row_in slots node) b
moves-row slots v old b new node i moves some = by moves.numbers moves.moving
  where
    by : (ns : List ℕ) → Moving (next_in slots) (row_in slots) v old b new node ns → HangsIn v (length old) (row_in slots node) b
    by [] m = absurd (some m.chain)
    by (n ∷ ns) m = m.each node (inl (sym m.chain.0))

-- and goes on behind it
pub moves-step : (slots slots' : List Slot) (v : ℕ) (old : List NodeNo) (b : ℕ) (new new' : List NodeNo) (node node' i : ℕ)
    → Moves slots v old b new node i → node ≢ 0 → KeepsSlots slots slots' → ((r : Row) → row_in slots node ≡ Some r → PutsFirst slots slots' new new' node r)
    → node' ≡ next_in slots node → Moves slots' v old b new' node' (i + 1)
moves-step slots slots' v old b new new' node node' i moves some keeps' puts' is =
    let there = hangs-row v (length old) b slots node (moves-row slots v old b new node i moves some) in
    let put = puts' there.0 there.1 in
    let is-put : IsPut (next_in slots) (next_in slots') (row_in slots) new node there.0 = record { row = there.1; others = λ n other. ap next_of_slot (put.slots n other); first = put.next; within = put.within } in
    subst (λ k. Moves slots' v old b new' k (i + 1)) (sym is) (subst (λ xs. Moves slots' v old b xs (next_in slots node) (i + 1)) (sym put.heads) (by there.0 is-put moves.numbers moves.moving moves.few))
  where
    by : (r : Row) → IsPut (next_in slots) (next_in slots') (row_in slots) new node r → (ns : List ℕ) → Moving (next_in slots) (row_in slots) v old b new node ns → length ns + i ≤ length slots
        → Moves slots' v old b (with_first new r node) (next_in slots node) (i + 1)
    by r put [] m few' = absurd (some m.chain)
    by r put (n ∷ ns) m few' = record {
      numbers = ns;
      moving = subst (λ rows. Moving (next_in slots') rows v old b (with_first new r node) (next_in slots node) ns) (sym (keeps-rows keeps'))
          (moving-step (next_in slots) (next_in slots') (row_in slots) v old b new node r n ns m put);
      few = let size = keeps'.size in omega arith;
    }
