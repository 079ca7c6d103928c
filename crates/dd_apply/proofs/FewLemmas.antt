-- How many nodes a call makes: at most as many as its function needs.
use Rattle.std.proofs.Common.{◌≡◌, ℕ, zero, suc, ◌+◌, ◌<◌, ◌≤◌, nat_eq, nat_le, Bool, true, false, cond, ◌||◌, List, [], ◌∷◌, ◌++◌, length, map, filter, Option, Some, None, get_or, is_some, refl, sym, ap, ◌∙◌, subst, inl, inr, arith}
use Rattle.std.specs.List.{All, flat_map}
use Rattle.std.specs.Cmp.{nat_eq_equiv}
use Rattle.std.specs.Set.{is_member, unique_keys, distinct_count}
use Rattle.std.proofs.lemmas.Bool.{le-leb, true≢false}
use Rattle.std.proofs.lemmas.Bool.Decides.{nat_tests}
use Rattle.std.proofs.lemmas.List.Elements.{Contains-append_left}
use Rattle.dd_store.specs.declared.row.Row.{Row}
use Rattle.dd_store.specs.Exhausted.{IsPartialResult, value_at}
use Rattle.dd_store.specs.Follow.{IsThere}
use Rattle.dd_store.specs.Reached.{reached}
use Rattle.dd_store.specs.Size.{Function, cofactors, size}
use Rattle.dd_store.specs.SizeLaws.{function_of}
use Rattle.dd_store.specs.Table.{Table, row_of, rows_in, node_count, IsSound}
use Rattle.dd_store.proofs.CofactorLemmas.{cofactors-all}
use Rattle.dd_store.proofs.ExhaustedLemmas.{all-in}
use Rattle.dd_store.proofs.MarkLemmas.{reached-itself}
use Rattle.dd_store.proofs.ReachedLemmas.{reached-size}
use Rattle.dd_store.proofs.SizeLemmas.{In, in_from, in_each, in_filter, count_more, more-size}
use Rattle.dd_apply.specs.Made.{Makes}
use Rattle.dd_apply.specs.Laws.{FewAreMade, RoomKeepsNodes}

-- the numbers from n on that have a row among the new ones and none among the old ones
new_numbers : ℕ → List (Option Row) → List (Option Row) → List ℕ
new_numbers n old [] = []
new_numbers n [] (None ∷ new) = new_numbers (suc n) [] new
new_numbers n [] (Some r ∷ new) = n ∷ new_numbers (suc n) [] new
new_numbers n (o ∷ old) (None ∷ new) = new_numbers (suc n) old new
new_numbers n (None ∷ old) (Some r ∷ new) = n ∷ new_numbers (suc n) old new
new_numbers n (Some s ∷ old) (Some r ∷ new) = new_numbers (suc n) old new

-- no row is missed
counted : (n : ℕ) (old new : List (Option Row)) → rows_in new ≤ rows_in old + length (new_numbers n old new)
unfolding new_numbers
counted n old [] = omega arith
counted n [] (None ∷ new) = counted (suc n) [] new
counted n [] (Some r ∷ new) = let rest = counted (suc n) [] new in omega arith
counted n (None ∷ old) (None ∷ new) = counted (suc n) old new
counted n (Some s ∷ old) (None ∷ new) = let rest = counted (suc n) old new in omega arith
counted n (None ∷ old) (Some r ∷ new) = let rest = counted (suc n) old new in omega arith
counted n (Some s ∷ old) (Some r ∷ new) = let rest = counted (suc n) old new in omega arith

-- each has a row now and had none
abbrev IsNewAt : List (Option Row) → List (Option Row) → ℕ → ℕ → Type 0
IsNewAt old new n m = (k : ℕ) × (m ≡ n + k) × ((r : Row) × (get_or new k None ≡ Some r)) × (get_or old k None ≡ None)

later : (o x : Option Row) (old new : List (Option Row)) (n m : ℕ) → IsNewAt old new (suc n) m → IsNewAt (o ∷ old) (x ∷ new) n m
later o x old new n m is = let (k, at, row, none) = is in (suc k, omega arith, row, none)

later-none : (x : Option Row) (new : List (Option Row)) (n m : ℕ) → IsNewAt [] new (suc n) m → IsNewAt [] (x ∷ new) n m
later-none x new n m is = let (k, at, row, none) = is in (suc k, omega arith, row, none)

is-new : (n : ℕ) (old new : List (Option Row)) (m : ℕ) → In m (new_numbers n old new) → IsNewAt old new n m
unfolding new_numbers
is-new n old [] m is = absurd is
is-new n [] (None ∷ new) m is = later-none None new n m (is-new (suc n) [] new m is)
is-new n [] (Some r ∷ new) m (inl is) = (0, omega arith, (r, refl), refl)
is-new n [] (Some r ∷ new) m (inr is) = later-none (Some r) new n m (is-new (suc n) [] new m is)
is-new n (o ∷ old) (None ∷ new) m is = later o None old new n m (is-new (suc n) old new m is)
is-new n (None ∷ old) (Some r ∷ new) m (inl is) = (0, omega arith, (r, refl), refl)
is-new n (None ∷ old) (Some r ∷ new) m (inr is) = later None (Some r) old new n m (is-new (suc n) old new m is)
is-new n (Some s ∷ old) (Some r ∷ new) m is = later (Some s) (Some r) old new n m (is-new (suc n) old new m is)

-- they all differ
below-none : (n m : ℕ) (old new : List (Option Row)) → m < n → is_member nat_eq (new_numbers n old new) m ≡ false
unfolding new_numbers
below-none n m old [] below = refl
below-none n m [] (None ∷ new) below = below-none (suc n) m [] new (omega arith)
below-none n m [] (Some r ∷ new) below =
    let other : nat_eq m n ≡ false = grind (arith, nat_tests) in
    ap (λ (b : Bool). b || is_member nat_eq (new_numbers (suc n) [] new) m) other ∙ below-none (suc n) m [] new (omega arith)
below-none n m (o ∷ old) (None ∷ new) below = below-none (suc n) m old new (omega arith)
below-none n m (None ∷ old) (Some r ∷ new) below =
    let other : nat_eq m n ≡ false = grind (arith, nat_tests) in
    ap (λ (b : Bool). b || is_member nat_eq (new_numbers (suc n) old new) m) other ∙ below-none (suc n) m old new (omega arith)
below-none n m (Some s ∷ old) (Some r ∷ new) below = below-none (suc n) m old new (omega arith)

one-more : (n : ℕ) (ns : List ℕ) → is_member nat_eq ns n ≡ false → distinct_count nat_eq ns ≡ length ns → distinct_count nat_eq (n ∷ ns) ≡ suc (length ns)
one-more n ns none rest = ap (λ (b : Bool). length (cond b (unique_keys nat_eq ns) (n ∷ unique_keys nat_eq ns))) none ∙ ap suc rest

differ : (n : ℕ) (old new : List (Option Row)) → distinct_count nat_eq (new_numbers n old new) ≡ length (new_numbers n old new)
unfolding new_numbers
differ n old [] = refl
differ n [] (None ∷ new) = differ (suc n) [] new
differ n [] (Some r ∷ new) = one-more n (new_numbers (suc n) [] new) (below-none (suc n) n [] new (omega arith)) (differ (suc n) [] new)
differ n (o ∷ old) (None ∷ new) = differ (suc n) old new
differ n (None ∷ old) (Some r ∷ new) = one-more n (new_numbers (suc n) old new) (below-none (suc n) n old new (omega arith)) (differ (suc n) old new)
differ n (Some s ∷ old) (Some r ∷ new) = differ (suc n) old new

in-map : {X Y : Type 0} (h : X → Y) (xs : List X) (ys : List Y) → ((x : X) → In x xs → In (h x) ys) → (y : Y) → In y (map h xs) → In y ys
in-map h [] ys each y is = absurd is
in-map h (x ∷ xs) ys each y (inl is) = subst (λ z. In z ys) is (each x (inl refl))
in-map h (x ∷ xs) ys each y (inr is) = in-map h xs ys (λ z at. each z (inr at)) y is

-- so many different functions are needed
bounded : (a b c d e : ℕ) → a ≤ b + c → d ≡ c → d ≤ e → a ≤ b + e
bounded a b c d e one two three = omega arith

-- the new numbers of two tables
fresh : Table → Table → List ℕ
fresh old new = new_numbers 0 old.slots new.slots

fresh-row : (old new : Table) (m : ℕ) → In m (fresh old new) → ((r : Row) × (row_of new m ≡ Some r)) × (row_of old m ≡ None)
unfolding fresh
fresh-row old new m is =
    let (k, at, row, none) = is-new 0 old.slots new.slots m is in
    let same : k ≡ m = omega arith in
    subst (λ (n : ℕ). ((r : Row) × (row_of new n ≡ Some r)) × (row_of old n ≡ None)) same (row, none)

fresh-there : (old new : Table) (m : ℕ) → In m (fresh old new) → IsThere (row_of new) m
fresh-there old new m is two = let row = (fresh-row old new m is).0 in ap is_some row.1

fresh-node : (old new : Table) → IsSound new → (m : ℕ) → In m (fresh old new) → 2 ≤ m
fresh-node old new sound m is = let row = (fresh-row old new m is).0 in by m row.0 row.1
  where
    by : (n : ℕ) (r : Row) → row_of new n ≡ Some r → 2 ≤ n
    by zero r row = absurd (true≢false (sym (ap is_some row) ∙ ap is_some sound.reduced.rows.no_is_constant))
    by (suc zero) r row = absurd (true≢false (sym (ap is_some row) ∙ ap is_some sound.reduced.rows.yes_is_constant))
    by (suc (suc n)) r row = omega arith

fresh-partial : (old new : Table) (asked : Function) → Makes old new asked → (m : ℕ) → In m (fresh old new) → IsPartialResult new asked m
fresh-partial old new asked makes m is =
    let (row, none) = fresh-row old new m is in
    elim (makes.made m row.0 row.1) [
      | inl was ↦ absurd (true≢false (sym (ap is_some was) ∙ ap is_some none))
      | inr partial ↦ partial
    ]

pub few-made : FewAreMade
unfolding fresh
few-made old new asked sound makes =
    let order = new.order in
    let ns = fresh old new in
    let there : All (IsThere (row_of new)) ns = all-in (IsThere (row_of new)) ns (fresh-there old new) in
    let reach : List ℕ = filter (nat_le 2) (flat_map (reached order (row_of new)) ns) in
    let within : (m : ℕ) → In m ns → In m reach = λ m is.
    let two : nat_le 2 m ≡ true = le-leb 2 m (fresh-node old new sound m is) in
    in_filter (nat_le 2) m (flat_map (reached order (row_of new)) ns) (in_each (reached order (row_of new)) m ns m is (reached-itself order (row_of new) m)) two in
    let fewer : distinct_count nat_eq ns ≤ distinct_count nat_eq reach = count_more nat_eq_equiv ns reach within in
    let values : List Function = map (function_of order (row_of new)) ns in
    let size_is : distinct_count nat_eq reach ≡ size order values = reached-size order (row_of new) sound.reduced.rows ns there in
    let of : (c : Function) → In c values → In c (cofactors order asked) =
    in-map (function_of order (row_of new)) ns (cofactors order asked) (λ m is. in_from (value_at new m) (cofactors order asked) (fresh-partial old new asked makes m is)) in
    let more : size order values ≤ size order (values ++ asked ∷ []) = more-size order values (values ++ asked ∷ []) (λ f is. Contains-append_left values (asked ∷ []) f is) in
    let all : size order (values ++ asked ∷ []) ≡ size order (asked ∷ []) = cofactors-all order asked (asked ∷ []) values (inl refl) of in
    bounded (node_count new) (node_count old) (length ns) (distinct_count nat_eq ns) (size order (asked ∷ [])) (counted 0 old.slots new.slots) (differ 0 old.slots new.slots)
    (few (distinct_count nat_eq ns) (distinct_count nat_eq reach) (size order values) (size order (values ++ asked ∷ [])) (size order (asked ∷ [])) fewer size_is more all)
  where
    few : (a b c d e : ℕ) → a ≤ b → b ≡ c → c ≤ d → d ≡ e → a ≤ e
    few a b c d e one two three four = omega arith

pub room-keeps : RoomKeepsNodes
room-keeps old new asked (inl makes) room = makes
room-keeps old new asked (inr full) room =
    let few = few-made old full.moment asked full.sound full.makes in
    let needs : size full.moment.order (asked ∷ []) ≡ size old.order (asked ∷ []) = ap (λ order. size order (asked ∷ [])) full.order in
    absurd (over (node_count full.moment) (node_count old) (size full.moment.order (asked ∷ [])) (size old.order (asked ∷ [])) full.moment.budget old.budget few needs full.full full.budget room)
  where
    over : (m o s t b c : ℕ) → m ≤ o + s → s ≡ t → m ≡ b → b ≡ c → o + t < c → ⊥
    over m o s t b c one two three four five = omega arith
