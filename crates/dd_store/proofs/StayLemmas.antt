-- What a full table refuses, over several calls.
use Rattle.std.proofs.Common.{◌≡◌, ◌⊎◌, ℕ, ◌<◌, ◌≤◌, Bool, suc, List, [], ◌∷◌, ◌++◌, length, Option, Some, None, get_or, refl, ap, sym, ◌∙◌, subst, inl, inr, arith}
use Rattle.std.specs.List.{All, Contains, flat_map}
use Rattle.std.proofs.lemmas.List.Elements.{All-weaker}
use Rattle.dd_store.specs.declared.row.Row.{Row}
use Rattle.dd_store.specs.declared.row.Var.{Var}
use Rattle.dd_store.specs.Follow.{value_in, IsThere}
use Rattle.dd_store.specs.Reached.{reached}
use Rattle.dd_store.specs.Size.{Function, cofactors, size}
use Rattle.dd_store.specs.Table.{Table, row_of, rows_in, node_count, IsLive}
use Rattle.dd_store.specs.Changes.{Keeps}
use Rattle.dd_store.specs.Exhausted.{IsPartialResult, HasHeld, value_at, RefusalsCompose, RefusalsStay, RefusalsLoosen}
use Rattle.dd_store.proofs.SizeLemmas.{In, in_from, contains_from, in_left, in_right, in_parts, more-size}
use Rattle.dd_store.proofs.CofactorLemmas.{cofactors-compose, cofactors-all}

-- lists with the same row at each number have as many rows
none-left : (xs : List (Option Row)) → ((n : ℕ) → get_or xs n None ≡ None) → rows_in xs ≡ 0
none-left [] none = refl
none-left (x ∷ xs) none = ap (λ (o : Option Row). rows_in (o ∷ xs)) (none 0) ∙ none-left xs (λ n. none (suc n))

pub count-same : (xs ys : List (Option Row)) → ((n : ℕ) → get_or xs n None ≡ get_or ys n None) → rows_in xs ≡ rows_in ys
count-same [] ys same = sym (none-left ys (λ n. sym (same n)))
count-same (x ∷ xs) [] same = none-left (x ∷ xs) same
count-same (x ∷ xs) (y ∷ ys) same =
    ap (λ (o : Option Row). rows_in (o ∷ xs)) (same 0) ∙ by y (count-same xs ys (λ n. same (suc n)))
  where
    by : (o : Option Row) → rows_in xs ≡ rows_in ys → rows_in (o ∷ xs) ≡ rows_in (o ∷ ys)
    by None rest = rest
    by (Some r) rest = ap suc rest

-- the parts of the record that speak of rows and order alone
abbrev Reaches : List Var → (ℕ → Option Row) → List ℕ → Type 0
Reaches order rows from = (n : ℕ) (r : Row) → rows n ≡ Some r → Contains (flat_map (reached order rows) from) n

abbrev AreApart : List Var → (ℕ → Option Row) → Type 0
AreApart order rows = (m n : ℕ) → IsThere rows m → IsThere rows n → ((a : ℕ → Bool) → value_in order rows a m ≡ value_in order rows a n) → m ≡ n

abbrev IsFromHeld : (ℕ → Type 0) → Function → List Var → (ℕ → Option Row) → ℕ → Type 0
IsFromHeld Live asked order rows n = Live n ⊎ Contains (cofactors order asked) (λ a. value_in order rows a n)

pub refusals-stay : RefusalsStay
refusals-stay old new last asked more nodes roots grows over =
    let rows : row_of new ≡ row_of last = λ j n. sym (grows.none refl n) j in
    let order : new.order ≡ last.order = sym grows.keeps.order in
    let budget = grows.keeps.budget in
    let count : node_count last ≡ node_count new = count-same last.slots new.slots (λ n. grows.none refl n) in
    record {
      full = count ∙ over.full ∙ sym budget;
      nodes_is = over.nodes_is ∙ sym budget;
      from = over.from;
      there = subst (λ (rs : ℕ → Option Row). All (IsThere rs) over.from) rows over.there;
      each = subst (λ (rs : ℕ → Option Row). All (IsFromHeld (IsLive old) asked last.order rs) over.from) rows
          (subst (λ (vs : List Var). All (IsFromHeld (IsLive old) asked vs (row_of new)) over.from) order over.each);
      all = subst (λ (rs : ℕ → Option Row). Reaches last.order rs over.from) rows
          (subst (λ (vs : List Var). Reaches vs (row_of new) over.from) order over.all);
      few = over.few;
      roots_few = over.roots_few;
      apart = subst (λ (rs : ℕ → Option Row). AreApart last.order rs) rows
          (subst (λ (vs : List Var). AreApart vs (row_of new)) order over.apart);
      bound = let one = over.bound in let length' = ap length order in rw (← length', budget) one;
      size = over.size;
    }

-- the value of a handle that is live before and after a call
pub value-kept : (old new : Table) → Keeps old new → (n : ℕ) → IsLive old n → IsLive new n → value_at new n ≡ value_at old n
value-kept old new keeps n before after = λ j a. keeps.values n a before after j

larger-than : (b c k l m n : ℕ) → c ≡ b → c < k → k ≡ l → l ≤ m → m ≡ n → b < n
larger-than b c k l m n one two three four five = omega arith

pub refusals-compose : RefusalsCompose
refusals-compose old mid new asked part more inner nodes roots one two stays between of fewer over = record {
  full = over.full;
  nodes_is = over.nodes_is;
  from = over.from;
  there = over.there;
  each = All-weaker (λ n. IsLive mid n ⊎ IsPartialResult new part n) (λ n. IsLive old n ⊎ IsPartialResult new asked n) outer over.from over.each;
  all = over.all;
  few = over.few;
  roots_few = let inside = over.roots_few in omega arith;
  apart = over.apart;
  bound = over.bound;
  size = size';
}
  where
    -- a partial result of the part is one of the whole
    part-partial : (t : Table) → t.order ≡ old.order → (n : ℕ) → IsPartialResult t part n → IsPartialResult t asked n
    part-partial t same n is =
        cofactors-compose t.order asked part (value_at t n) (subst (λ (vs : List Var). Contains (cofactors vs asked) part) (sym same) of) is

    outer : (n : ℕ) → IsLive mid n ⊎ IsPartialResult new part n → IsLive old n ⊎ IsPartialResult new asked n
    outer n (inr is) = inr (part-partial new (two.order ∙ one.order) n is)
    outer n (inl live) = elim (between n live) [
      | inl before ↦ inl before
      | inr is ↦ inr (subst (λ (f : Function). Contains (cofactors new.order asked) f) (sym (value-kept mid new two n live (stays n live)))
          (subst (λ (vs : List Var). Contains (cofactors vs asked) (value_at mid n)) (sym two.order) is))
    ]

    size' : (held : List Function) → HasHeld old held → old.budget < size old.order (asked ∷ held)
    size' held has =
        let cs = cofactors old.order asked in
        let all : HasHeld mid (cs ++ held) = λ n live. contains_from (value_at mid n) (cs ++ held) (elim (between n live) [
          | inl before ↦ in_right (value_at mid n) cs held
              (subst (λ (f : Function). In f held) (sym (value-kept old mid one n before live)) (in_from (value_at old n) held (has n before)))
          | inr is ↦ in_left (value_at mid n) cs held (in_from (value_at mid n) cs (subst (λ (vs : List Var). Contains (cofactors vs asked) (value_at mid n)) one.order is))
        ]) in
        let below : mid.budget < size mid.order (part ∷ (cs ++ held)) = over.size (cs ++ held) all in
        let budget = one.budget in
        let order' : size mid.order (part ∷ (cs ++ held)) ≡ size old.order (part ∷ (cs ++ held)) = ap (λ (vs : List Var). size vs (part ∷ (cs ++ held))) one.order in
        let more' : size old.order (part ∷ (cs ++ held)) ≤ size old.order (cs ++ (asked ∷ held)) = more-size old.order (part ∷ (cs ++ held)) (cs ++ (asked ∷ held)) (λ f is. contains_from f (cs ++ (asked ∷ held)) (larger f (in_from f (part ∷ (cs ++ held)) is))) in
        let same : size old.order (cs ++ (asked ∷ held)) ≡ size old.order (asked ∷ held) = cofactors-all old.order asked (asked ∷ held) cs (inl refl) (λ c is. is) in
        larger-than old.budget mid.budget _ _ _ _ budget below order' more' same
      where
        larger : (f : Function) → In f (part ∷ (cofactors old.order asked ++ held)) → In f (cofactors old.order asked ++ (asked ∷ held))
        larger f (inl is) = in_left f (cofactors old.order asked) (asked ∷ held) (subst (λ (g : Function). In g (cofactors old.order asked)) is (in_from part (cofactors old.order asked) of))
        larger f (inr is) = elim (in_parts f (cofactors old.order asked) held is) [
          | inl left ↦ in_left f (cofactors old.order asked) (asked ∷ held) left
          | inr right ↦ in_right f (cofactors old.order asked) (asked ∷ held) (inr right)
        ]

pub refusals-loosen : RefusalsLoosen
refusals-loosen old new asked more most nodes roots fewer over = record {
  full = over.full;
  nodes_is = over.nodes_is;
  from = over.from;
  there = over.there;
  each = over.each;
  all = over.all;
  few = over.few;
  roots_few = let few = over.roots_few in omega arith;
  apart = over.apart;
  bound = over.bound;
  size = over.size;
}
