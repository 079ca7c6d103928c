-- Chains when a number is put first, when the first is taken, and when numbers of no chain change.
use Rattle.std.proofs.Common.{◌≡◌, ◌≢◌, ℕ, true, false, ◌<◌, ◌≤◌, List, [], ◌∷◌, length, refl, ap, sym, ◌∙◌, subst, inl, inr, arith, eqb, get_or-set_other, get_or-set_same}
use Rattle.std.proofs.Math.ListN.{set, length-set}
use Rattle.std.specs.List.{AllByRecursion, IsDistinct, list_any}
use Rattle.std.proofs.lemmas.Bool.{cases_eq, eqb-true, ne_eqb, or_cases}
use Rattle.std.proofs.lemmas.Map.Steps.{length-le_from_distinct_below}
use Rattle.dd_store.specs.declared.row.NodeNo.{NodeNo}
use Rattle.dd_store.specs.Chains.{Has, IsChain, IsChainOf, head_at}

-- a chain stays where its numbers keep what is next
pub chain-same : (next next' : ℕ → ℕ) (h : ℕ) (ns : List ℕ) → ((n : ℕ) → Has ns n → next' n ≡ next n) → IsChain next h ns → IsChain next' h ns
chain-same next next' h [] same chain = chain
chain-same next next' h (n ∷ ns) same chain =
    (chain.0, chain.1, chain.2, subst (λ k. IsChain next' k ns) (sym (same n (inl refl))) (chain-same next next' (next n) ns (λ m i. same m (inr i)) chain.3))

pub keeps : {next : ℕ → ℕ} {h : ℕ} {P : ℕ → Type 0} → IsChainOf next h P → (next' : ℕ → ℕ) (Q : ℕ → Type 0) → ((n : ℕ) → P n → next' n ≡ next n) → ((n : ℕ) → P n → Q n) → ((n : ℕ) → Q n → P n) → IsChainOf next' h Q
keeps {next} {h} {P} c next' Q same forth back = record {
  numbers = c.numbers;
  chain = chain-same next next' h c.numbers (λ n i. same n (c.each n i)) c.chain;
  each = λ n i. forth n (c.each n i);
  all = λ n q. c.all n (back n q);
}

-- a number that is put first
pub puts : {next : ℕ → ℕ} {h : ℕ} {P : ℕ → Type 0} → IsChainOf next h P → (next' : ℕ → ℕ) (Q : ℕ → Type 0) (n : ℕ)
    → n ≢ 0 → (P n → ⊥) → next' n ≡ h → ((m : ℕ) → P m → next' m ≡ next m)
    → Q n → ((m : ℕ) → P m → Q m) → ((m : ℕ) → m ≢ n → Q m → P m) → IsChainOf next' n Q
puts {next} {h} {P} c next' Q n some new is same here forth back = record {
  numbers = n ∷ c.numbers;
  chain = (refl, some, λ i. new (c.each n i), subst (λ k. IsChain next' k c.numbers) (sym is) (chain-same next next' h c.numbers (λ m i. same m (c.each m i)) c.chain));
  each = each';
  all = λ m q. elim (cases_eq m n) [ inl e ↦ inl (sym e) | inr other ↦ inr (c.all m (back m other q)) ];
}
  where
    each' : (m : ℕ) → Has (n ∷ c.numbers) m → Q m
    each' m (inl e) = subst Q e here
    each' m (inr i) = forth m (c.each m i)

-- the first number, and the chain behind it
pub takes : {next : ℕ → ℕ} {h : ℕ} {P : ℕ → Type 0} → IsChainOf next h P → h ≢ 0 → P h × IsChainOf next (next h) (λ m. P m × (m ≢ h))
takes {next} {h} {P} c some = by c.numbers c.chain c.each c.all
  where
    by : (ns : List ℕ) → IsChain next h ns → ((n : ℕ) → Has ns n → P n) → ((n : ℕ) → P n → Has ns n) → P h × IsChainOf next (next h) (λ m. P m × (m ≢ h))
    by [] chain each all = absurd (some chain)
    by (n ∷ ns) chain each all = (
      subst P (sym chain.0) (each n (inl refl)),
      record {
        numbers = ns;
        chain = subst (λ k. IsChain next (next k) ns) (sym chain.0) chain.3;
        each = λ m i. (each m (inr i), λ same. chain.2 (subst (Has ns) (same ∙ chain.0) i));
        all = λ m p. elim (all m p.0) [ inl is ↦ absurd (p.1 (sym is ∙ sym chain.0)) | inr i ↦ i ];
      },
    )

-- a chain of nothing
pub empty : (next : ℕ → ℕ) (P : ℕ → Type 0) → ((n : ℕ) → P n → ⊥) → IsChainOf next 0 P
empty next P none = record { numbers = []; chain = refl; each = λ n i. absurd i; all = λ n p. absurd (none n p) }

pub ended : {next : ℕ → ℕ} {h : ℕ} {P : ℕ → Type 0} → IsChainOf next h P → h ≡ 0 → (n : ℕ) → P n → ⊥
ended {next} {h} {P} c is n p = by c.numbers c.chain (c.all n p)
  where
    by : (ns : List ℕ) → IsChain next h ns → Has ns n → ⊥
    by [] chain i = i
    by (m ∷ ms) chain i = chain.1 (sym chain.0 ∙ is)

-- a chain of numbers below k has at most k of them
distinct : (next : ℕ → ℕ) (h : ℕ) (ns : List ℕ) → IsChain next h ns → IsDistinct eqb ns
unfolding IsDistinct
distinct next h [] chain = tt
distinct next h (n ∷ ns) chain = (apart ns chain.2, distinct next (next n) ns chain.3)
  where
    apart : (ms : List ℕ) → (Has ms n → ⊥) → AllByRecursion (λ m. eqb n m ≡ false) ms
    apart [] new = tt
    apart (m ∷ ms) new = (ne_eqb n m (λ same. new (inl (sym same))), apart ms (λ i. new (inr i)))

has_from : (ns : List ℕ) (q : ℕ) → list_any (eqb q) ns ≡ true → Has ns q
has_from [] q is = absurd (grind arith)
has_from (n ∷ ns) q is = elim (or_cases (eqb q n) (list_any (eqb q) ns) is) [ inl e ↦ inl (sym (eqb-true q n e)) | inr rest ↦ inr (has_from ns q rest) ]

pub few : (next : ℕ → ℕ) (h : ℕ) (ns : List ℕ) (k : ℕ) → IsChain next h ns → ((n : ℕ) → Has ns n → n < k) → length ns ≤ k
few next h ns k chain below = length-le_from_distinct_below ns k (distinct next h ns chain) (λ q is. below q (has_from ns q is))

-- a number that is put first in one of several chains
pub puts-one : (next next' : ℕ → ℕ) (heads : List NodeNo) (P Q : ℕ → ℕ → Type 0) (n b : ℕ)
    → ((c : ℕ) → c < length heads → IsChainOf next (head_at heads c) (P c))
    → n ≢ 0 → b < length heads → ((m : ℕ) → m ≢ n → next' m ≡ next m) → next' n ≡ head_at heads b
    → ((c : ℕ) → P c n → ⊥) → Q b n → ((c : ℕ) → Q c n → c ≡ b) → ((c m : ℕ) → P c m → Q c m) → ((c m : ℕ) → m ≢ n → Q c m → P c m)
    → (c : ℕ) → c < length (set heads b (record { 0 = n })) → IsChainOf next' (head_at (set heads b (record { 0 = n })) c) (Q c)
puts-one next next' heads P Q n b chains some within others first new here only forth back c inside =
    elim (cases_eq c b) [
      | inl same ↦
          let head : head_at (set heads b (record { 0 = n })) c ≡ n = ap (λ k. head_at (set heads b (record { 0 = n })) k) same ∙ ap (λ (x : NodeNo). x.0) (get_or-set_same heads b (record { 0 = n }) _ within) in
          subst (λ h. IsChainOf next' h (Q c)) (sym head)
          (puts (chains c inside') next' (Q c) n some (new c) (first ∙ ap (head_at heads) (sym same)) (kept c) (subst (λ k. Q k n) (sym same) here) (forth c) (back c))
      | inr other ↦
          let head : head_at (set heads b (record { 0 = n })) c ≡ head_at heads c = ap (λ (x : NodeNo). x.0) (get_or-set_other heads b c (record { 0 = n }) _ other) in
          subst (λ h. IsChainOf next' h (Q c)) (sym head)
          (keeps (chains c inside') next' (Q c) (kept c) (forth c) (λ m q. back c m (λ same. other (only c (subst (Q c) same q))) q))
    ]
  where
    inside' : c < length heads
    inside' = subst (λ l. c < l) (length-set heads b (record { 0 = n })) inside

    kept : (d m : ℕ) → P d m → next' m ≡ next m
    kept d m p = others m (λ same. new d (subst (P d) same p))
