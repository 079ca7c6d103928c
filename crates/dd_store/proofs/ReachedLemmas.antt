-- In reduced rows as many nodes are reached as the functions need.
use Rattle.std.proofs.Common.{◌≡◌, ℕ, suc, ◌<◌, nat_le, nat_eq, Bool, true, false, not, ◌==◌, List, [], ◌∷◌, ◌++◌, length, map, filter, Option, Some, None, get_or, zero, if◌then◌else◌, refl, ap, sym, ◌∙◌, arith}
use Rattle.std.specs.List.{All, AllByRecursion, flat_map}
use Rattle.std.specs.Set.{distinct_count}
use Rattle.std.proofs.lemmas.Bool.{eqb-true, eq-eqb, true≢false}
use Rattle.std.proofs.lemmas.Bool.Decides.{nat_tests}
use Rattle.std.proofs.lemmas.List.Elements.{All-append, All-nil, All-head, All-tail, recursion_from_All}
use Rattle.dd_store.specs.declared.row.Row.{Row}
use Rattle.dd_store.specs.declared.row.Var.{Var}
use Rattle.dd_store.specs.Order.{level_in, IsDistinct}
use Rattle.dd_store.specs.Follow.{step, follow, value_in, with_value, IsThere}
use Rattle.dd_store.specs.Reached.{reached}
use Rattle.dd_store.specs.Size.{Function, fixed, cofactors, alike, is_constant}
use Rattle.dd_store.specs.SizeLaws.{function_of, ReachedIsSize}
use Rattle.dd_store.specs.Table.{AreReduced}
use Rattle.dd_store.proofs.FollowLemmas.{follow-none}
use Rattle.dd_store.proofs.Canonical.{IsAmong, IsOrderedFrom, among-step, ordered-rest, moved, reduced-among, reduced-ordered, canonical, not_first}
use Rattle.dd_store.proofs.ChangeLemmas.{reached-there}
use Rattle.dd_store.proofs.AlikeLemmas.{alike-same, alike-tells, within}
use Rattle.dd_store.proofs.SizeLemmas.{count_stands}

-- a map over lists that are put together
pub map-both : {X Y : Type 0} (h : X → Y) (xs ys : List X) → map h (xs ++ ys) ≡ map h xs ++ map h ys
map-both h [] ys = refl
map-both h (x ∷ xs) ys = ap (λ zs. h x ∷ zs) (map-both h xs ys)

-- what is among the rest is among all, and stands below the first variable
pub among-all : (v : Var) (vs : List Var) (o : Option Row) (n : ℕ) → level_in vs v.0 ≡ length vs → IsAmong vs o n → IsAmong (v ∷ vs) o n
among-all v vs None n absent among = among
among-all v vs (Some r) n absent among = rw (not_first v vs r.var.0 absent among) (omega arith)

pub stays : (v : Var) (vs : List Var) (o : Option Row) (n : ℕ) (b : Bool) → level_in vs v.0 ≡ length vs → IsAmong vs o n → step o v.0 n b ≡ n
stays v vs None n b absent among = refl
stays v vs (Some r) n b absent among = rw (not_first v vs r.var.0 absent among) refl

-- the values of what is reached are the cofactors of the value
reached-cofactors : (vs : List Var) (rows : ℕ → Option Row) (h : ℕ → Function) → IsDistinct vs → IsOrderedFrom vs rows
    → ((m : ℕ) → IsAmong vs (rows m) m → (a : ℕ → Bool) → h m a ≡ value_in vs rows a m)
    → (n : ℕ) → IsAmong vs (rows n) n → map h (reached vs rows n) ≡ cofactors vs (h n)
reached-cofactors [] rows h distinct ordered means n among = refl
reached-cofactors (v ∷ vs) rows h distinct ordered means n among =
    ap (λ fs. h n ∷ fs)
    (map-both h (reached vs rows (step (rows n) v.0 n false)) (reached vs rows (step (rows n) v.0 n true))
    ∙ ap (λ fs. fs ++ map h (reached vs rows (step (rows n) v.0 n true))) (end false (reached-cofactors vs rows h distinct.1 later means'))
    ∙ ap (λ fs. cofactors vs (fixed (h n) v.0 false) ++ fs) (end true (reached-cofactors vs rows h distinct.1 later means')))
  where
    later : IsOrderedFrom vs rows
    later = ordered-rest v vs rows distinct.0 ordered

    means' : (m : ℕ) → IsAmong vs (rows m) m → (a : ℕ → Bool) → h m a ≡ value_in vs rows a m
    means' m there a =
        means m (among-all v vs (rows m) m distinct.0 there) a
        ∙ ap (λ k. follow vs rows a k == 1) (stays v vs (rows m) m (a v.0) distinct.0 there)

    end : (b : Bool) → ((m : ℕ) → IsAmong vs (rows m) m → map h (reached vs rows m) ≡ cofactors vs (h m))
        → map h (reached vs rows (step (rows n) v.0 n b)) ≡ cofactors vs (fixed (h n) v.0 b)
    end b rest =
        let m = step (rows n) v.0 n b in
        let there = among-step v vs rows n b ordered among in
        let same : (a : ℕ → Bool) → h m a ≡ fixed (h n) v.0 b a
        = λ a. means' m there a ∙ moved v vs rows distinct.0 b a n ∙ sym (means n among (with_value a v.0 b)) in
        rest m there ∙ ap (cofactors vs) (λ j a. same a j)

-- following asks for the variables of the order alone
follow-asks : (vs : List Var) (rows : ℕ → Option Row) (a b : ℕ → Bool) → All (λ (v : Var). a v.0 ≡ b v.0) vs → (n : ℕ) → follow vs rows a n ≡ follow vs rows b n
follow-asks [] rows a b same n = refl
follow-asks (v ∷ vs) rows a b same n =
    let P : Var → Type 0 = λ w. a w.0 ≡ b w.0 in
    follow-asks vs rows a b (All-tail P v vs same) (step (rows n) v.0 n (a v.0))
    ∙ ap (λ x. follow vs rows b (step (rows n) v.0 n x)) (All-head P v vs same)

-- which have their value within the order
within-same : (vs : List Var) (a : ℕ → Bool) → All (λ (v : Var). within vs a v.0 ≡ a v.0) vs
within-same [] a = λ k d inside. absurd (omega arith)
within-same (w ∷ ws) a = at (within-same ws a)
  where
    given : (v : ℕ) (x : Bool) → (v == w.0) ≡ x → within ws a v ≡ a v → (if x then a w.0 else within ws a v) ≡ a v
    given v true e rest = sym (ap a (eqb-true v w.0 e))
    given v false e rest = rest

    itself : with_value (within ws a) w.0 (a w.0) w.0 ≡ a w.0
    itself = rw (eq-eqb w.0 w.0 refl) refl

    at : All (λ (v : Var). within ws a v.0 ≡ a v.0) ws → (k : ℕ) (d : Var) → k < length (w ∷ ws)
        → within (w ∷ ws) a (get_or (w ∷ ws) k d).0 ≡ a (get_or (w ∷ ws) k d).0
    at rest zero d inside = itself
    at rest (suc k) d inside = given (get_or ws k d).0 ((get_or ws k d).0 == w.0) refl (rest k d (omega arith))

module _ (order : List Var) (rows : ℕ → Option Row) (reduced : AreReduced order rows) where
  -- values that are alike over the order are those of one node
  one-node : (m n : ℕ) → IsThere rows m → IsThere rows n → alike order (function_of order rows m) (function_of order rows n) ≡ true → m ≡ n
  one-node m n there_m there_n same = canonical order rows reduced m n there_m there_n (λ a.
      let asked = within-same order a in
      ap (λ k. k == 1) (sym (follow-asks order rows (within order a) a asked m))
      ∙ alike-tells order (function_of order rows m) (function_of order rows n) same a
      ∙ ap (λ k. k == 1) (follow-asks order rows (within order a) a asked n))

  pub tell : (m n : ℕ) → IsThere rows m → IsThere rows n → alike order (function_of order rows m) (function_of order rows n) ≡ nat_eq m n
  tell m n there_m there_n = by (nat_eq m n) refl (alike order (function_of order rows m) (function_of order rows n)) refl
    where
      by : (b : Bool) → nat_eq m n ≡ b → (c : Bool) → alike order (function_of order rows m) (function_of order rows n) ≡ c → c ≡ b
      by true e true f = refl
      by false e false f = refl
      by true e false f =
          let one : m ≡ n = eqb-true m n e in
          absurd (true≢false (sym (alike-same order (function_of order rows m) (function_of order rows n) (λ a. ap (λ k. value_in order rows a k) one)) ∙ f))
      by false e true f = absurd (true≢false (sym (eq-eqb m n (one-node m n there_m there_n f)) ∙ e))

  -- the constants, and no other, have constant values
  constant-there : (b : Bool) → IsThere rows (if b then 1 else 0)
  constant-there true = λ large. absurd (omega arith)
  constant-there false = λ large. absurd (omega arith)

  constant-value : (b : Bool) (a : ℕ → Bool) → value_in order rows a (if b then 1 else 0) ≡ b
  constant-value true a = ap (λ k. k == 1) (follow-none order rows a 1 reduced.yes_is_constant)
  constant-value false a = ap (λ k. k == 1) (follow-none order rows a 0 reduced.no_is_constant)

  constant : (n : ℕ) (b : Bool) → IsThere rows n → alike order (function_of order rows n) (λ _. b) ≡ nat_eq n (if b then 1 else 0)
  constant n b there =
      let same : function_of order rows (if b then 1 else 0) ≡ (λ _. b) = λ j a. constant-value b a j in
      ap (alike order (function_of order rows n)) (sym same) ∙ tell n (if b then 1 else 0) there (constant-there b)

  varies : (n : ℕ) → IsThere rows n → not (is_constant order (function_of order rows n)) ≡ nat_le 2 n
  varies n there = rw (constant n false there, constant n true there) (grind (arith, nat_tests))

  reached-all : (ns : List ℕ) → All (IsThere rows) ns → AllByRecursion (IsThere rows) (flat_map (reached order rows) ns)
  reached-all ns there = recursion_from_All (IsThere rows) _ (each ns there)
    where
      each : (ns : List ℕ) → All (IsThere rows) ns → All (IsThere rows) (flat_map (reached order rows) ns)
      each [] there = All-nil (IsThere rows)
      each (n ∷ ns) there =
          All-append (IsThere rows) (reached order rows n) (flat_map (reached order rows) ns)
          (reached-there order rows reduced.ends_there n (All-head (IsThere rows) n ns there))
          (each ns (All-tail (IsThere rows) n ns there))

  values : (ns : List ℕ) → All (IsThere rows) ns
      → map (function_of order rows) (flat_map (reached order rows) ns) ≡ flat_map (cofactors order) (map (function_of order rows) ns)
  values [] there = refl
  values (n ∷ ns) there =
      let h = function_of order rows in
      map-both h (reached order rows n) (flat_map (reached order rows) ns)
      ∙ ap (λ fs. fs ++ map h (flat_map (reached order rows) ns))
      (reached-cofactors order rows h reduced.distinct (reduced-ordered order rows reduced) (λ m among a. refl) n
      (reduced-among order rows reduced n (All-head (IsThere rows) n ns there)))
      ∙ ap (λ fs. cofactors order (h n) ++ fs) (values ns (All-tail (IsThere rows) n ns there))

-- the law
pub reached-size : ReachedIsSize
reached-size order rows reduced ns there =
    let h = function_of order rows in
    sym (ap (λ fs. distinct_count (alike order) (filter (λ f. not (is_constant order f)) fs)) (sym (values order rows reduced ns there))
    ∙ count_stands (IsThere rows) h nat_eq (alike order) (λ m n. tell order rows reduced m n) (nat_le 2) (λ f. not (is_constant order f))
    (λ n. varies order rows reduced n) (flat_map (reached order rows) ns) (reached-all order rows reduced ns there))
