-- The states of a count over calls: what is live, what each stands for, and why a fork is refused.
use Rattle.std.proofs.Common.{◌≡◌, ◌≢◌, ◌⊎◌, ℕ, zero, suc, ◌+◌, ◌*◌, ◌<◌, ◌≤◌, Bool, List, [], ◌∷◌, ◌++◌, length, set, slice_index, Option, refl, ap, sym, ◌∙◌, subst, inl, inr, arith}
use Rattle.std.specs.List.{Contains}
use Rattle.std.proofs.lemmas.Bool.{cases_lt, cases_eq}
use Rattle.std.proofs.lemmas.List.{length-set, get_or_append_left, get_or_push}
use Rattle.std.proofs.lemmas.List.Elements.{All-contains}
use Rattle.dd_store.specs.declared.refusal.Refusal.{Refusal}
use Rattle.dd_store.specs.declared.refusal.Refusal.TheVariants.{OverBudget, OutOfMemory}
use Rattle.dd_store.specs.declared.row.Row.{Row}
use Rattle.dd_store.specs.declared.row.Var.{Var}
use Rattle.dd_store.specs.Changes.{Keeps, Grows}
use Rattle.dd_store.specs.Exhausted.{value_at, IsCauseFor, IsPartialResult}
use Rattle.dd_store.specs.Handles.{GainsHandle, LosesHandle, KeepsHandles, HoldsLess, one_on, count_on}
use Rattle.dd_store.specs.Order.{level_in, level_of_row}
use Rattle.dd_store.specs.Reached.{reached}
use Rattle.dd_store.specs.Size.{Function, cofactors}
use Rattle.dd_store.specs.Table.{Table, row_of, row_with, level_of, handles_on, node_count, value_of, IsLive, IsSound, IsAbove}
use Rattle.dd_store.proofs.ChangeLemmas.{keeps_then, keeps_all}
use Rattle.dd_store.proofs.CountLemmas.{live_more, live_gained, one_on-itself, count_on-at, count_on-push, length-push}
use Rattle.dd_store.proofs.HandleLemmas.{one_on-other}
use Rattle.dd_store.proofs.MarkLemmas.{reached-itself}
use Rattle.dd_store.proofs.SizeLemmas.{contains_from}
use Rattle.dd_store.proofs.StayLemmas.{value-kept, refusals-stay}
use Rattle.dd_apply.specs.Cause.{IsCause}
use Rattle.dd_apply.specs.Held.{IsWithin, IsCauseWithin}
use Rattle.dd_apply.specs.Split.{fork}
use Rattle.dd_apply.proofs.RightLemmas.{same-values}
use Rattle.dd_apply.proofs.RoomLemmas.{cause-node}
use Rattle.dd_count.specs.States.{AreStates, counted, AreHeld, AreBelow, AreForked, AreParts, HoldsStates, GoesOn, IsCauseOver}

-- a handle in place of another
count_on-set : (states : List ℕ) (c h n : ℕ) → c < length states → count_on (set states c h) n + one_on (slice_index states c) n ≡ count_on states n + one_on h n
count_on-set [] c h n inside = absurd (omega arith)
count_on-set (s ∷ ss) zero h n inside = omega arith
count_on-set (s ∷ ss) (suc c) h n inside = let rest = count_on-set ss c h n (omega arith) in omega arith

-- a number on which a handle of the list stands has a place in it
count_on-place : (states : List ℕ) (n : ℕ) → 0 < count_on states n → (c : ℕ) × (c < length states) × (slice_index states c ≡ n)
count_on-place [] n some = absurd (omega arith)
count_on-place (s ∷ ss) n some = elim (cases_eq n s) [
  | inl same ↦ (0, omega arith, sym same)
  | inr other ↦
      let none = one_on-other s n other in
      let rest = count_on-place ss n (omega arith) in
      (suc rest.0, (let inside = rest.1 in omega arith), rest.2)
]

-- a handle of the list is live
pub held-live : (t : Table) (states : List ℕ) (c : ℕ) → AreHeld t states → c < length states → IsLive t (slice_index states c)
held-live t states c held inside = let some = count_on-at states c inside in let each = held (slice_index states c) in omega arith

-- where the states of a call are live beside those before, they are live
pub states-held : (begun t : Table) (states : List ℕ) → HoldsStates begun t states → AreHeld t states
states-held begun t states holds n = let each = holds.more.each n in omega arith

-- nothing is held yet
pub holds-none : (t : Table) → IsSound t → HoldsStates t t []
holds-none t sound = record {
  keeps = keeps_all t sound;
  more = record { each = λ n. omega arith; total = omega arith };
}

-- one more state
pub holds-push : (begun t u : Table) (states : List ℕ) (h : ℕ) → HoldsStates begun t states → Keeps t u → GainsHandle t u h → HoldsStates begun u (states ++ h ∷ [])
holds-push begun t u states h holds keeps gain = record {
  keeps = keeps_then holds.keeps keeps (λ n first last. live_more holds.more n first);
  more = record {
    each = λ n. let before = holds.more.each n in let now = gain.each n in let counts = count_on-push states h n in omega arith;
    total = let before = holds.more.total in let now = gain.total in let size = length-push states h in omega arith;
  };
}

-- which stands for one more true member above
pub states-push : (begun t u : Table) (members : List Var) (low high : ℕ) (states : List ℕ) (h : ℕ) → HoldsStates begun t states → Keeps t u → GainsHandle t u h
    → AreStates t members low high states → value_at u h ≡ counted members low high (length states) → AreStates u members low high (states ++ h ∷ [])
states-push begun t u members low high states h holds keeps gain are is c inside = elim (cases_lt c (length states)) [
  | inl before ↦
      let live = held-live t states c (states-held begun t states holds) before in
      ap (λ (n : ℕ). value_at u n) (get_or_append_left states (h ∷ []) 0 c before)
      ∙ value-kept t u keeps (slice_index states c) live (live_gained gain (slice_index states c) live) ∙ are c before
  | inr past ↦
      let same : length states ≡ c = (let size = length-push states h in omega arith) in
      ap (λ (n : ℕ). value_at u n) (get_or_push states h 0 c same) ∙ is ∙ ap (λ (n : ℕ). counted members low high n) same
]

-- the last one is live
pub last-live : (t : Table) (states rest : List ℕ) (s : ℕ) → states ≡ rest ++ s ∷ [] → AreHeld t states → IsLive t s
last-live t states rest s is held =
    let each = held s in
    let counts : count_on states s ≡ count_on rest s + one_on s s = ap (λ (ss : List ℕ). count_on ss s) is ∙ count_on-push rest s s in
    let own = one_on-itself s in
    omega arith

-- all of them are given back
pub released-keeps : (begun t u : Table) (states : List ℕ) → HoldsStates begun t states → Grows t u 0 → Keeps begun u
released-keeps begun t u states holds grows = keeps_then holds.keeps grows.keeps (λ n first last. live_more holds.more n first)

pub released-handles : (begun t u : Table) (states : List ℕ) → HoldsStates begun t states → HoldsLess t u states → KeepsHandles begun u
released-handles begun t u states holds less = record {
  each = λ n. let one = holds.more.each n in let two = less.each n in omega arith;
  total = let one = holds.more.total in let two = less.total in omega arith;
}

-- nothing changed but a list that is equal
pub goes-on-same : (t u : Table) (states states' : List ℕ) → Keeps t u → KeepsHandles t u → states' ≡ states → GoesOn t states u states'
goes-on-same t u states states' keeps same is = λ begun holds. subst (λ (ss : List ℕ). HoldsStates begun u ss) (sym is) (record {
  keeps = keeps_then holds.keeps keeps (λ n first last. live_more holds.more n first);
  more = record {
    each = λ n. let one = holds.more.each n in let two = same.each n in omega arith;
    total = let one = holds.more.total in let two = same.total in omega arith;
  };
})

-- A state is made anew from t to u, and the old one is given back to w.
module _ (t u w : Table) (states states' : List ℕ) (c s h : ℕ) (inside : c < length states) (is_s : s ≡ slice_index states c) (is_new : states' ≡ set states c h)
    (keeps : Keeps t u) (gain : GainsHandle t u h) (lost : LosesHandle u w s) (grows : Grows u w 0) where
  counts : (n : ℕ) → count_on states' n + one_on s n ≡ count_on states n + one_on h n
  counts n =
      ap (λ (ss : List ℕ). count_on ss n + one_on s n) is_new ∙ ap (λ (k : ℕ). count_on (set states c h) n + one_on k n) is_s ∙ count_on-set states c h n inside

  pub anew-goes-on : GoesOn t states w states'
  anew-goes-on = λ begun holds. record {
    keeps = keeps_then (keeps_then holds.keeps keeps (λ n first last. live_more holds.more n first)) grows.keeps
        (λ n first last. live_gained gain n (live_more holds.more n first));
    more = record {
      each = λ n.
          let one = holds.more.each n in let two = gain.each n in let three = lost.each n in let four = counts n in omega arith;
      total =
          let one = holds.more.total in
          let two = gain.total in
          let three = lost.total in
          let size : length states' ≡ length states = ap length is_new ∙ length-set states c h in
          omega arith;
    };
  }

  pub anew-held : AreHeld t states → AreHeld w states'
  anew-held held n = let one = held n in let two = gain.each n in let three = lost.each n in let four = counts n in omega arith

  pub anew-keeps : Keeps t w
  anew-keeps = keeps_then keeps grows.keeps (λ n first last. live_gained gain n first)

  pub anew-value : (f : Function) → ((a : ℕ → Bool) → value_of u h a ≡ f a) → slice_index states' c ≡ h → value_at w (slice_index states' c) ≡ f
  anew-value f value place = ap (λ (n : ℕ). value_at w n) place ∙ same-values u w (grows.none refl) (sym grows.keeps.order) h ∙ (λ j a. value a j)

-- why a fork is refused
pub fork-cause : (t u : Table) (v low high : ℕ) (r : Refusal) → Keeps t u → KeepsHandles t u → IsCauseFor t u (row_with v low high) r
    → IsCauseWithin t u (fork v (value_at t low) (value_at t high)) 0 r
fork-cause t u v low high r keeps same cause = cause-node t u (row_with v low high) r keeps (λ n live. let each = same.each n in omega arith) cause

-- what stays live keeps its row, and stands as deep as before
pub above-kept : (t u : Table) (v n : ℕ) → Keeps t u → IsLive t n → IsLive u n → IsAbove t v n → IsAbove u v n
above-kept t u v n keeps before after above =
    let row = All-contains (λ (m : ℕ). row_of u m ≡ row_of t m) (reached t.order (row_of t) n) n (keeps.kept_alive n before after)
    (contains_from n (reached t.order (row_of t) n) (reached-itself t.order (row_of t) n)) in
    subst (λ (vs : List Var). level_in vs v < level_of_row vs (row_of u n)) (sym keeps.order)
    (subst (λ (o : Option Row). level_of t v < level_of_row t.order o) (sym row) above)

-- The states from `begun` on up to t: the first k are forked, and the others are as they were.
pub record IsForkedTo (start t : Table) (v : ℕ) (before states : List ℕ) (k : ℕ) : Type 0 where
  pub size : length states ≡ length before
  pub goes_on : GoesOn start before t states
  pub held : AreHeld t states
  pub order : t.order ≡ start.order
  pub sound : IsSound t
  pub nodes : node_count t ≤ node_count start + k
  pub done : (c : ℕ) → c < k → c < length before → value_at t (slice_index states c)
      ≡ fork v (value_at start (slice_index before c)) (value_at start (slice_index before (c + 1)))
  pub left : (c : ℕ) → k ≤ c → c < length before → value_at t (slice_index states c) ≡ value_at start (slice_index before c)
  pub below : (c : ℕ) → k ≤ c → c < length before → IsAbove t v (slice_index states c)

-- none is forked yet
pub forked-none : (t : Table) (v : ℕ) (states : List ℕ) → IsSound t → AreHeld t states → AreBelow t v states → IsForkedTo t t v states states 0
forked-none t v states sound held below = record {
  size = refl;
  goes_on = λ begun holds. holds;
  held = held;
  order = refl;
  sound = sound;
  nodes = omega arith;
  done = λ c none inside. absurd (omega arith);
  left = λ c past inside. refl;
  below = λ c past inside. below c inside;
}

-- one more is forked
pub forked-more : (start t u : Table) (v : ℕ) (before states states' : List ℕ) (k : ℕ) → k + 1 < length before → IsForkedTo start t v before states k
    → value_at u (slice_index states' k) ≡ fork v (value_at t (slice_index states k)) (value_at t (slice_index states (k + 1)))
    → ((c : ℕ) → c ≢ k → slice_index states' c ≡ slice_index states c) → length states' ≡ length states → AreHeld u states' → Keeps t u → GoesOn t states u states' → node_count u ≤ node_count t + 1
    → IsForkedTo start u v before states' (k + 1)
forked-more start t u v before states states' k inside at value others size held keeps goes_on nodes = record {
  size = size ∙ at.size;
  goes_on = λ begun holds. goes_on begun (at.goes_on begun holds);
  held = held;
  order = keeps.order ∙ at.order;
  sound = keeps.sound;
  nodes = let before' = at.nodes in omega arith;
  done = done';
  left = λ c past within. value-same c (omega arith) within ∙ at.left c (omega arith) within;
  below = λ c past within.
      subst (λ (n : ℕ). IsAbove u v n) (sym (others c (omega arith))) (above-kept t u v (slice_index states c) keeps (live c within) (live' c (omega arith) within) (at.below c (omega arith) within));
}
  where
    live : (c : ℕ) → c < length before → IsLive t (slice_index states c)
    live c within = held-live t states c at.held (let same = at.size in omega arith)

    live' : (c : ℕ) → c ≢ k → c < length before → IsLive u (slice_index states c)
    live' c other within =
        subst (λ (n : ℕ). IsLive u n) (others c other) (held-live u states' c held (let same = at.size in omega arith))

    value-same : (c : ℕ) → c ≢ k → c < length before → value_at u (slice_index states' c) ≡ value_at t (slice_index states c)
    value-same c other within = ap (λ (n : ℕ). value_at u n) (others c other) ∙ value-kept t u keeps (slice_index states c) (live c within) (live' c other within)

    done' : (c : ℕ) → c < k + 1 → c < length before → value_at u (slice_index states' c)
        ≡ fork v (value_at start (slice_index before c)) (value_at start (slice_index before (c + 1)))
    done' c less within = elim (cases_lt c k) [
      | inl lower ↦ value-same c (omega arith) within ∙ at.done c lower within
      | inr past ↦ subst (λ (n : ℕ). value_at u (slice_index states' n) ≡ fork v (value_at start (slice_index before n)) (value_at start (slice_index before (n + 1))))
          (let same : k ≡ c = omega arith in same)
          (value ∙ ap (λ (f : Function). fork v f (value_at t (slice_index states (k + 1)))) (at.left k (omega arith) (omega arith))
          ∙ ap (λ (f : Function). fork v (value_at start (slice_index before k)) f) (at.left (k + 1) (omega arith) (omega arith)))
    ]

-- all but the last one are forked
pub forked-all : (start t : Table) (v : ℕ) (before states : List ℕ) (k : ℕ) → length before ≤ k + 1 → k < length before → IsForkedTo start t v before states k → AreForked start t v before states
forked-all start t v before states k all some at = record {
  each = λ c inside. at.done c (omega arith) (omega arith);
  last = λ c is. at.left c (omega arith) (omega arith);
}

-- A fork is refused where the first k are forked: no call that has come to the start has room.
module _ (start t u : Table) (v : ℕ) (before states : List ℕ) (k : ℕ) (inside : k + 1 < length before) (at : IsForkedTo start t v before states k) where
  part : (asked : Function) (parts : AreParts start v before asked) (c : ℕ) → c < length before → Contains (cofactors t.order asked) (value_at t (slice_index states c))
  part asked parts c within = subst (λ (vs : List Var). Contains (cofactors vs asked) (value_at t (slice_index states c))) (sym at.order) (elim (cases_lt c k) [
    | inl lower ↦ subst (λ (f : Function). Contains (cofactors start.order asked) f) (sym (at.done c lower within)) (parts.next c (omega arith))
    | inr past ↦ subst (λ (f : Function). Contains (cofactors start.order asked) f) (sym (at.left c past within)) (parts.now c within)
  ])

  held-part : (begun : Table) (asked : Function) → HoldsStates begun t states → AreParts start v before asked → (n : ℕ) → IsLive t n → IsLive begun n ⊎ IsPartialResult t asked n
  held-part begun asked holds parts n live = elim (cases_lt 0 (handles_on begun n)) [
    | inl first ↦ inl first
    | inr none ↦ inr (
        let place = count_on-place states n (let each = holds.more.each n in omega arith) in
        subst (λ (m : ℕ). IsPartialResult t asked m) place.2 (part asked parts place.0 (let within = place.1 in let same = at.size in omega arith))
        )
  ]

  within-begun : (begun : Table) (asked : Function) → HoldsStates begun t states → AreParts start v before asked → IsWithin begun t asked
  within-begun begun asked holds parts = record {
    keeps = holds.keeps;
    stay = λ n first. live_more holds.more n first;
    held = held-part begun asked holds parts;
  }

  pub forked-cause : (r : Refusal) → IsCauseWithin t u (fork v (value_at t (slice_index states k)) (value_at t (slice_index states (k + 1)))) 0 r → IsCauseOver start v before u r
  forked-cause (OverBudget nodes roots) lacks begun asked sound holds parts few =
      let now = at.goes_on begun holds in
      let same : fork v (value_at t (slice_index states k)) (value_at t (slice_index states (k + 1)))
      ≡ fork v (value_at start (slice_index before k)) (value_at start (slice_index before (k + 1)))
      = ap (λ (f : Function). fork v f (value_at t (slice_index states (k + 1)))) (at.left k (omega arith) (omega arith))
      ∙ ap (λ (f : Function). fork v (value_at start (slice_index before k)) f) (at.left (k + 1) (omega arith) (omega arith)) in
      let of = subst (λ (vs : List Var). Contains (cofactors vs asked) (fork v (value_at t (slice_index states k)) (value_at t (slice_index states (k + 1))))) holds.keeps.order
      (subst (λ (f : Function). Contains (cofactors start.order asked) f) (sym same) (parts.next k inside)) in
      lacks begun asked (2 * (length begun.order + 1)) (within-begun begun asked now parts) of (let total = now.more.total in let size = at.size in omega arith)
  forked-cause OutOfMemory lacks begun asked sound holds parts few = tt

-- a cause stays where handles alone change
pub cause-stays : (begun t u : Table) (asked : Function) (r : Refusal) → Grows t u 0 → IsCause begun t asked r → IsCause begun u asked r
cause-stays begun t u asked (OverBudget nodes roots) grows cause = refusals-stay begun t u asked (2 * (length begun.order + 1)) nodes roots grows cause
cause-stays begun t u asked OutOfMemory grows cause = tt

-- the last of the states is given back
pub dropped-goes-on : (t u : Table) (states rest : List ℕ) (s : ℕ) → states ≡ rest ++ s ∷ [] → LosesHandle t u s → Grows t u 0 → GoesOn t states u rest
dropped-goes-on t u states rest s is lost grows = λ begun holds. record {
  keeps = keeps_then holds.keeps grows.keeps (λ n first last. live_more holds.more n first);
  more = record {
    each = λ n.
        let one = holds.more.each n in
        let two = lost.each n in
        let three : count_on states n ≡ count_on rest n + one_on s n = ap (λ (ss : List ℕ). count_on ss n) is ∙ count_on-push rest s n in
        omega arith;
    total = let one = holds.more.total in let two = lost.total in let three : length states ≡ length rest + 1 = ap length is ∙ length-push rest s in omega arith;
  };
}
