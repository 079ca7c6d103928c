-- One member after the other is counted, from the last one up.
use Rattle.std.proofs.Common.{◌≡◌, ℕ, suc, ◌+◌, ◌-◌, ◌*◌, ◌<◌, ◌≤◌, Bool, List, [], ◌∷◌, ◌++◌, length, min, take, drop, get_or, slice_index, Result, Ok, Err, IfOk, refl, ap, sym, ◌∙◌, subst, inl, inr, arith, nat_lt, if◌then◌else◌, true, false, suc-mul}
use Rattle.std.specs.List.{All, Contains}
use Rattle.std.proofs.Math.Nat.{mul-le-mul_right}
use Rattle.std.proofs.lemmas.Bool.{cases_lt, ltb-false}
use Rattle.std.proofs.lemmas.List.{drop_more, drop_all, length-drop, get_or-take, length-take-le}
use Rattle.std.proofs.lemmas.List.Elements.{All-head, All-tail, All-drop}
use Rattle.dd_store.specs.declared.refusal.Refusal.{Refusal}
use Rattle.dd_store.specs.declared.row.Var.{Var}
use Rattle.dd_store.specs.Changes.{Grows}
use Rattle.dd_store.specs.Exhausted.{value_at}
use Rattle.dd_store.specs.Handles.{GainsHandle}
use Rattle.dd_store.specs.Law.{DependsOnNoneAbove}
use Rattle.dd_store.specs.Order.{level_in, IsIn, IsDistinct}
use Rattle.dd_store.specs.Size.{Function, cofactors}
use Rattle.dd_store.specs.SizeLaws.{IsFreeOf}
use Rattle.dd_store.specs.Table.{Table, row_of, value_of, node_count, IsLive, IsSound}
use Rattle.dd_store.proofs.CountLemmas.{gains_one, length-push}
use Rattle.dd_store.proofs.StayLemmas.{value-kept}
use Rattle.dd_store.proofs.TopLemmas.{tell-levels}
use Rattle.dd_apply.specs.Cause.{IsCause}
use Rattle.dd_apply.specs.Split.{fork}
use Rattle.dd_count.specs.Cardinality.{cardinality, is_within, true_count}
use Rattle.dd_count.specs.Levels.{variable_on, variables_on, IsFallingFrom, AreLevelsOf}
use Rattle.dd_count.specs.States.{AreStates, AreBelow, AreForked, AreParts, HoldsStates, GoesOn, IsCauseOver, counted, last_state}
use Rattle.dd_count.proofs.CountedLemmas.{level-on, falling-drop, falling-few, counted-free, counted-fork, counted-last, part-left}
use Rattle.dd_count.proofs.StatesLemmas.{held-live, states-held}

-- what is left to count of all members where none stands before them
pub counted-all : (members : List Var) (low high : ℕ) → counted members low high 0 ≡ cardinality members low high
counted-all members low high = λ j a. (ap (is_within low high) (none a)) j
  where
    none : (a : ℕ → Bool) → 0 + true_count members a ≡ true_count members a
    none a = omega arith

-- The states are those of the members from the number `left` on.
pub record AreCountedTo (begun t : Table) (levels : List ℕ) (low high left : ℕ) (states : List ℕ) : Type 0 where
  pub held : HoldsStates begun t states
  pub states_are : AreStates t (variables_on begun.order (drop left levels)) low high states
  pub number : length states ≡ min left (last_state (length levels) low high) + 1
  pub inside : left ≤ length levels
  -- for each member that is counted so many nodes are asked for at most
  pub nodes : node_count t ≤ node_count begun + (length levels - left) * (high + 1)

nodes-sum : (m t b p q l h : ℕ) → m + 1 ≤ t + l → t ≤ b + p → l ≤ h + 2 → q ≡ p + (h + 1) → m ≤ b + q
nodes-sum m t b p q l h one so_far few is = omega arith

at-most : (m b p q : ℕ) → m ≤ b + p → p ≤ q → m ≤ b + q
at-most m b p q so_far all = omega arith

pub no-fewer : (a b c : ℕ) → a ≤ b → a ≤ b + c
no-fewer a b c less = omega arith

-- a state more than are forked
states-most : (k low high left : ℕ) → left ≤ k → min left (last_state k low high) ≤ high + 1
states-most k low high left less = by (nat_lt high k) refl
  where
    by : (b : Bool) → nat_lt high k ≡ b → min left (if b then high + 1 else low) ≤ high + 1
    by true e = omega arith
    by false e = let top : k ≤ high = ltb-false high k e in omega arith

-- no member is counted yet
pub counted-to-none : (begun t : Table) (levels : List ℕ) (low high last : ℕ) (states : List ℕ) → HoldsStates begun t states → AreStates t [] low high states
    → length states ≡ last + 1 → last ≡ min (length levels) (last_state (length levels) low high) → node_count t ≤ node_count begun → AreCountedTo begun t levels low high (length levels) states
counted-to-none begun t levels low high last states holds are number is nodes = record {
  held = holds;
  states_are = subst (λ (ls : List ℕ). AreStates t (variables_on begun.order ls) low high states) (sym (drop_all (length levels) levels (omega arith))) are;
  number = number ∙ ap (λ (n : ℕ). n + 1) is;
  inside = omega arith;
  nodes = no-fewer (node_count t) (node_count begun) ((length levels - length levels) * (high + 1)) nodes;
}

-- so many nodes were asked for at most
pub nodes-counted : (begun t : Table) (levels : List ℕ) (low high left : ℕ) (states : List ℕ) → AreCountedTo begun t levels low high left states
    → node_count t ≤ node_count begun + length levels * (high + 1)
nodes-counted begun t levels low high left states at =
    at-most (node_count t) (node_count begun) ((length levels - left) * (high + 1)) (length levels * (high + 1)) at.nodes (mul-le-mul_right (high + 1) (omega arith))

-- all members are counted: one state is left
pub counted-to-all : (begun t : Table) (levels : List ℕ) (low high left : ℕ) (states rest : List ℕ) (h : ℕ) → left ≤ 0 → states ≡ rest ++ h ∷ []
    → AreCountedTo begun t levels low high left states → (states ≡ h ∷ []) × (value_at t h ≡ cardinality (variables_on begun.order levels) low high)
counted-to-all begun t levels low high left states rest h none is at =
    let number : length states ≡ 1 = (let all = at.number in omega arith) in
    let one : states ≡ h ∷ [] = is ∙ ap (λ (hs : List ℕ). hs ++ h ∷ []) (empty rest (let size = ap length is ∙ length-push rest h in omega arith)) in
    let first : value_at t (slice_index states 0) ≡ counted (variables_on begun.order (drop left levels)) low high 0 = at.states_are 0 (omega arith) in
    let zero' : left ≡ 0 = omega arith in (
      one,
      sym (ap (λ (hs : List ℕ). value_at t (slice_index hs 0)) one) ∙ first
          ∙ ap (λ (n : ℕ). counted (variables_on begun.order (drop n levels)) low high 0) zero' ∙ counted-all (variables_on begun.order levels) low high,
    )
  where
    empty : (hs : List ℕ) → length hs ≡ 0 → hs ≡ []
    empty [] none' = refl
    empty (x ∷ xs) none' = absurd (omega arith)

pub counted-gains : (begun t : Table) (states : List ℕ) (h : ℕ) → HoldsStates begun t states → states ≡ h ∷ [] → GainsHandle begun t h
counted-gains begun t states h holds one = gains_one holds.more one

module _ (begun t : Table) (levels : List ℕ) (low high left left' : ℕ) (states : List ℕ) (sound : IsSound begun) (falling : IsFallingFrom 0 levels)
    (within : All (λ (l : ℕ). l < length begun.order) levels) (at : AreCountedTo begun t levels low high left states) (one_less : left' + 1 ≡ left) where
  abbrev l : ℕ
  l = get_or levels left' 0

  abbrev rest : List ℕ
  rest = drop left levels

  abbrev order : List Var
  order = begun.order

  distinct : IsDistinct order
  distinct = sound.reduced.rows.distinct

  split : drop left' levels ≡ l ∷ rest
  split = drop_more levels left' 0 (let inside = at.inside in omega arith) ∙ ap (λ (n : ℕ). l ∷ drop n levels) one_less

  falling' : IsFallingFrom l (l ∷ rest)
  falling' = (omega arith, (subst (λ (ls : List ℕ). IsFallingFrom 0 ls) split (falling-drop 0 levels left' falling)).1)

  within' : All (λ (l : ℕ). l < length order) (l ∷ rest)
  within' = subst (λ (ls : List ℕ). All (λ (l : ℕ). l < length order) ls) split (All-drop (λ (l : ℕ). l < length order) left' levels within)

  here : l < length order
  here = All-head (λ (l : ℕ). l < length order) l rest within'

  same-order : t.order ≡ order
  same-order = at.held.keeps.order

  level : level_in t.order (variable_on order l).0 ≡ l
  level = ap (λ (vs : List Var). level_in vs (variable_on order l).0) same-order ∙ level-on order distinct l here

  -- for one more member
  pub nodes-more : (m : ℕ) → m + 1 ≤ node_count t + length states → m ≤ node_count begun + (length levels - left') * (high + 1)
  nodes-more m few =
      let number = at.number in
      let most = states-most (length levels) low high left at.inside in
      let one : length levels - left' ≡ suc (length levels - left) = (let inside = at.inside in omega arith) in
      nodes-sum m (node_count t) (node_count begun) ((length levels - left) * (high + 1)) ((length levels - left') * (high + 1)) (length states) high few at.nodes (omega arith)
      (ap (λ (n : ℕ). n * (high + 1)) one ∙ suc-mul (length levels - left) (high + 1))

  pub nodes-refused : (m : ℕ) → m + 1 ≤ node_count t + length states → m ≤ node_count begun + length levels * (high + 1)
  nodes-refused m few =
      let so_far = nodes-more m few in
      let all : (length levels - left') * (high + 1) ≤ length levels * (high + 1) = mul-le-mul_right (high + 1) (omega arith) in
      at-most m (node_count begun) ((length levels - left') * (high + 1)) (length levels * (high + 1)) so_far all

  number-few : length states ≤ left + 1
  number-few = let number = at.number in omega arith

  -- the member's variable is there
  pub member-there : IsIn t.order (variable_on order l).0
  member-there = let is = level in let inside = here in let size = ap length same-order in omega arith

  -- and each state stands below it
  pub member-above : AreBelow t (variable_on order l).0 states
  member-above c inside =
      let n = slice_index states c in
      let there = at.held.keeps.sound.reduced.live n (held-live t states c (states-held begun t states at.held) inside) in
      let none : DependsOnNoneAbove t.order (row_of t) (suc l) n = λ w above a b.
      subst (λ (f : Function). IsFreeOf w f) (sym (at.states_are c inside))
      (counted-free order distinct (suc l) rest low high c falling'.1 (All-tail (λ (l : ℕ). l < length order) l rest within') w
      (subst (λ (vs : List Var). level_in vs w < suc l) same-order above))
      a b in
      let stands = (tell-levels t.order (row_of t) at.held.keeps.sound.reduced.rows n (suc l) there (let size = ap length same-order in let inside' = here in omega arith)).1 none in
      let is = level in
      omega arith

  -- what a state is to be
  forked-is : (c : ℕ) → c + 1 < length states
      → fork (variable_on order l).0 (value_at t (slice_index states c)) (value_at t (slice_index states (c + 1))) ≡ counted (variables_on order (drop left' levels)) low high c
  forked-is c inside =
      ap (λ (f : Function). fork (variable_on order l).0 f (value_at t (slice_index states (c + 1)))) (at.states_are c (omega arith))
      ∙ ap (λ (f : Function). fork (variable_on order l).0 (counted (variables_on order rest) low high c) f) (at.states_are (c + 1) inside)
      ∙ counted-fork order l rest low high c
      ∙ ap (λ (ls : List ℕ). counted (variables_on order ls) low high c) (sym split)

  part-of : (n c : ℕ) → n ≤ length levels → c ≤ n
      → Contains (cofactors t.order (cardinality (variables_on order levels) low high)) (counted (variables_on order (drop n levels)) low high c)
  part-of n c few less =
      let same : 0 + c ≡ c = omega arith in
      subst (λ (vs : List Var). Contains (cofactors vs (cardinality (variables_on order levels) low high)) (counted (variables_on order (drop n levels)) low high c)) (sym same-order)
      (subst (λ (f : Function). Contains (cofactors order f) (counted (variables_on order (drop n levels)) low high c)) (counted-all (variables_on order levels) low high)
      (subst (λ (d : ℕ). Contains (cofactors order (counted (variables_on order levels) low high 0)) (counted (variables_on order (drop n levels)) low high d)) same
      (part-left order distinct 0 levels low high n c 0 falling within few less)))

  -- all of them are partial results
  pub member-parts : AreParts t (variable_on order l).0 states (cardinality (variables_on order levels) low high)
  member-parts = record {
    now = λ c inside.
        subst (λ (f : Function). Contains (cofactors t.order (cardinality (variables_on order levels) low high)) f) (sym (at.states_are c inside))
        (part-of left c at.inside (let few = number-few in omega arith));
    next = λ c inside.
        subst (λ (f : Function). Contains (cofactors t.order (cardinality (variables_on order levels) low high)) f) (sym (forked-is c inside))
        (part-of left' c (let all = at.inside in omega arith) (let few = number-few in omega arith));
  }

  pub states-few : length states ≤ 2 * (length order + 1)
  states-few = let few = number-few in let all = at.inside in let levels-few = falling-few 0 (length order) levels falling within (omega arith) in omega arith

  module _ (u : Table) (v : ℕ) (before after : List ℕ) (is_v : v ≡ (variable_on order l).0) (same : before ≡ states) where
    holds-before : HoldsStates begun t before
    holds-before = subst (λ (hs : List ℕ). HoldsStates begun t hs) (sym same) at.held

    pub member-holds : GoesOn t before u after → HoldsStates begun u after
    member-holds goes_on = goes_on begun holds-before

    -- no room for the member
    pub member-cause : (r : Refusal) → IsCauseOver t v before u r → IsCause begun u (cardinality (variables_on order levels) low high) r
    member-cause r cause =
        cause begun (cardinality (variables_on order levels) low high) sound holds-before
        (subst (λ (hs : List ℕ). AreParts t v hs (cardinality (variables_on order levels) low high)) (sym same)
        (subst (λ (k : ℕ). AreParts t k states (cardinality (variables_on order levels) low high)) (sym is_v) member-parts))
        (let few = states-few in let size = ap length same in omega arith)

    module _ (forked : AreForked t u v before after) (size : length after ≡ length before) where
      forked' : AreForked t u (variable_on order l).0 states after
      forked' = subst (λ (k : ℕ). AreForked t u k states after) is_v (subst (λ (hs : List ℕ). AreForked t u v hs after) same forked)

      size' : length after ≡ length states
      size' = size ∙ ap length same

      -- all but the last state take the member in
      member-state : (c : ℕ) → c + 1 < length after → value_at u (slice_index after c) ≡ counted (variables_on order (drop left' levels)) low high c
      member-state c inside = let all = size' in forked'.each c (omega arith) ∙ forked-is c (omega arith)

      -- where no state is without number of members any more, the last one is that from which on it makes no difference
      pub member-counted : GoesOn t before u after → length after ≤ left' + 1 → node_count u + 1 ≤ node_count t + length before → AreCountedTo begun u levels low high left' after
      member-counted goes_on short few = record {
        held = member-holds goes_on;
        states_are = λ c inside. elim (cases_lt (c + 1) (length after)) [
          | inl lower ↦ member-state c lower
          | inr past ↦ last c inside past
        ];
        number = let all = size' in let number = at.number in omega arith;
        inside = let all = at.inside in omega arith;
        nodes = nodes-more (node_count u) (let all = ap length same in omega arith);
      }
        where
          last : (c : ℕ) → c < length after → length after ≤ c + 1 → value_at u (slice_index after c) ≡ counted (variables_on order (drop left' levels)) low high c
          last c inside past =
              let all = size' in
              let number = at.number in
              let is : last_state (length levels) low high ≡ c = omega arith in
              let left-few : length rest ≡ length levels - left = length-drop left levels in
              let most = at.inside in
              forked'.last c (omega arith) ∙ at.states_are c (omega arith)
              ∙ sym (subst (λ (n : ℕ). counted (variables_on order (l ∷ rest)) low high n ≡ counted (variables_on order rest) low high n) is
              (counted-last order l rest (length levels) low high (omega arith)))
              ∙ ap (λ (ls : List ℕ). counted (variables_on order ls) low high c) (sym split)

      -- where it is that of more members than stand above, it goes
      pub member-counted-short : (w : Table) (last : List ℕ) → last ≡ take (length after - 1) after → GoesOn t before u after → GoesOn u after w last → Grows u w 0 → left' + 1 < length after
          → node_count u + 1 ≤ node_count t + length before → AreCountedTo begun w levels low high left' last
      member-counted-short w last is goes_on goes_on' grows long few = record {
        held = holds';
        states_are = λ c inside.
            let inside' : c + 1 < length after = (let few = size-last in let all = size' in omega arith) in
            let place : slice_index last c ≡ slice_index after c = ap (λ (hs : List ℕ). slice_index hs c) is ∙ get_or-take (length after - 1) after c 0 (omega arith) in
            let live = held-live w last c (states-held begun w last holds') inside in
            let live' = held-live u after c (states-held begun u after (member-holds goes_on)) (omega arith) in
            ap (λ (n : ℕ). value_at w n) place
            ∙ value-kept u w grows.keeps (slice_index after c) live' (subst (λ (n : ℕ). IsLive w n) place live) ∙ member-state c inside';
        number = let few = size-last in let all = size' in let number = at.number in omega arith;
        inside = let all = at.inside in omega arith;
        nodes = nodes-more (node_count w) (let all = ap length same in let none = grows.count in omega arith);
      }
        where
          holds' : HoldsStates begun w last
          holds' = goes_on' begun (member-holds goes_on)

          size-last : length last + 1 ≡ length after
          size-last = let short : length last ≡ length after - 1 = ap length is ∙ length-take-le (length after - 1) after (omega arith) in omega arith

-- the members by their levels have the cardinality of the members
pub same-cardinality : (order members : List Var) (levels ls : List ℕ) (low high : ℕ) → AreLevelsOf order members levels → ls ≡ levels
    → cardinality (variables_on order ls) low high ≡ cardinality members low high
same-cardinality order members levels ls low high are is =
    ap (λ (ks : List ℕ). cardinality (variables_on order ks) low high) is ∙ (λ j a. ap (is_within low high) (are.count a) j)

pub value-told : (u : Table) (f g : Function) (result : Result ℕ Refusal) → f ≡ g → IfOk result (λ h. value_at u h ≡ f) → IfOk result (λ h. (a : ℕ → Bool) → value_of u h a ≡ g a)
value-told u f g (Ok h) same is = λ a. ap (λ (k : Function). k a) (is ∙ same)
value-told u f g (Err r) same is = tt
