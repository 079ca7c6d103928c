-- What a group says, by the variables of its parent and of its members.
use Rattle.std.proofs.Common.{◌≡◌, ◌==◌, ℕ, zero, suc, ◌+◌, ◌<◌, ◌≤◌, Bool, true, false, ◌&&◌, if◌then◌else◌, List, [], ◌∷◌, ◌++◌, length, map, take, get_or, Some, slice_get, unwrap_or, nat_le, slice_index_or, refl, ap, sym, ◌∙◌, inl, inr, arith}
use Rattle.std.specs.List.{All}
use Rattle.std.proofs.lemmas.Bool.{cases_eq, eq-eqb, ne_eqb, lt-leb}
use Rattle.std.proofs.lemmas.List.{take_more, map-append}
use Rattle.std.proofs.lemmas.List.Elements.{All-nil, All-cons, All-head, All-tail, All-map, All-get_or}
use Rattle.std.proofs.lemmas.List.Sums.{sum_by-cons}
use Rattle.std.proofs.lemmas.Option.{get_or_from_slice_get}
use Rattle.dd_store.specs.declared.row.Var.{Var}
use Rattle.dd_store.specs.Order.{level_in, IsDistinct}
use Rattle.dd_store.specs.Size.{Function}
use Rattle.dd_store.specs.Table.{Table, IsVariable}
use Rattle.dd_store.proofs.SizeLemmas.{In}
use Rattle.dd_count.specs.Cardinality.{cardinality, true_count, is_within}
use Rattle.dd_count.specs.Members.{AreMembers}
use Rattle.dd_count.proofs.CountedLemmas.{level-on}
use Rattle.uvl_functions.specs.Functions.{is_chosen, between, none_of, group_function}
use Rattle.uvl_functions.specs.Groups.{row_parts}
use Rattle.uvl_functions.specs.Variables.{marks_under}
use Rattle.uvl_model.specs.declared.rows.FeatureNo.{FeatureNo}
use Rattle.uvl_model.specs.declared.rows.GroupRow.{GroupRow}
use Rattle.uvl_model.specs.Check.{is_marked, marked_count}
use Rattle.uvl_compile.specs.Members.{variable_of, variables_of, IsRisingFrom, IsAmong, choice_by_parent, made_parts}

-- a feature is chosen where its variable is true
pub chosen-is : (vars : List Var) (f : FeatureNo) (a : ℕ → Bool) → f.0 < length vars → is_chosen vars f a ≡ a (variable_of vars f).0
chosen-is vars f a inside = at vars f.0 inside
  where
    at : (vs : List Var) (n : ℕ) → n < length vs → unwrap_or (slice_get (map (λ (v : Var). a v.0) vs) n) false ≡ a (slice_index_or vs n (record { 0 = 0 })).0
    at [] n inside' = absurd (omega arith)
    at (v ∷ vs) zero inside' = refl
    at (v ∷ vs) (suc n) inside' = at vs n (omega arith)

-- as many members are chosen as variables of them are true
count-is : (vars : List Var) (fs : List FeatureNo) (a : ℕ → Bool) → All (λ (f : FeatureNo). f.0 < length vars) fs
    → true_count (variables_of vars fs) a ≡ marked_count (marks_under vars a) fs
count-is vars [] a inside = refl
count-is vars (f ∷ fs) a inside =
    let P : FeatureNo → Type 0 = λ (f : FeatureNo). f.0 < length vars in
    sum_by-cons (λ (v : Var). if a v.0 then 1 else 0) (variable_of vars f) (variables_of vars fs)
    ∙ ap (λ (b : Bool). (if b then 1 else 0) + true_count (variables_of vars fs) a) (sym (chosen-is vars f a (All-head P f fs inside)))
    ∙ ap (λ (n : ℕ). (if is_marked (marks_under vars a) f then 1 else 0) + n) (count-is vars fs a (All-tail P f fs inside))
    ∙ sym (sum_by-cons (λ (g : FeatureNo). if is_marked (marks_under vars a) g then 1 else 0) f fs)

-- from none to none is none
none-is : (n : ℕ) → is_within 0 0 n ≡ (n == 0)
none-is n = elim (cases_eq n 0) [
  | inl same ↦ ap (is_within 0 0) same ∙ sym (eq-eqb n 0 same)
  | inr other ↦ and-right (nat_le 0 n) (nat_le n 0) (lt-leb n 0 (omega arith)) ∙ sym (ne_eqb n 0 other)
]
  where
    and-right : (p q : Bool) → q ≡ false → (p && q) ≡ false
    and-right true q e = e
    and-right false q e = refl

module _ (vars : List Var) (row : GroupRow) (among : IsAmong (length vars) row) where
  pub with-is : cardinality (variables_of vars row.members) row.lo row.hi ≡ between vars row
  with-is = λ j a. ap (is_within row.lo row.hi) (count-is vars row.members a among.members) j

  pub without-is : cardinality (variables_of vars row.members) 0 0 ≡ none_of vars row
  without-is = λ j a. (ap (is_within 0 0) (count-is vars row.members a among.members) ∙ none-is (marked_count (marks_under vars a) row.members)) j

  -- the choice is the group
  pub group-is : choice_by_parent (variable_of vars row.parent) (variables_of vars row.members) row.lo row.hi ≡ group_function vars row
  group-is = λ j a. (
      ap (λ (b : Bool). if b then cardinality (variables_of vars row.members) row.lo row.hi a else cardinality (variables_of vars row.members) 0 0 a)
      (sym (chosen-is vars row.parent a among.parent))
      ∙ ap (λ (f : Function). if is_chosen vars row.parent a then f a else cardinality (variables_of vars row.members) 0 0 a) with-is
      ∙ ap (λ (f : Function). if is_chosen vars row.parent a then between vars row a else f a) without-is
      ) j

-- variables of features that rise differ
absent : (vars : List Var) → IsDistinct vars → (f : FeatureNo) (fs : List FeatureNo) → f.0 < length vars → IsRisingFrom (suc f.0) fs
    → All (λ (g : FeatureNo). g.0 < length vars) fs → (first : ℕ) → suc f.0 ≤ first → IsRisingFrom first fs → level_in (variables_of vars fs) (variable_of vars f).0 ≡ length (variables_of vars fs)
absent vars distinct f [] here rising inside first less up = refl
absent vars distinct f (g ∷ gs) here rising inside first less up =
    let P : FeatureNo → Type 0 = λ (g : FeatureNo). g.0 < length vars in
    let rest = absent vars distinct f gs here (later g.0 gs (let one = rising.0 in omega arith) rising.1) (All-tail P g gs inside) (suc g.0) (let one = up.0 in omega arith) up.1 in
    ap (λ (b : Bool). if b then 0 else suc (level_in (variables_of vars gs) (variable_of vars f).0)) (other (All-head P g gs inside)) ∙ ap suc rest
  where
    later : (n : ℕ) (hs : List FeatureNo) → suc f.0 ≤ suc n → IsRisingFrom (suc n) hs → IsRisingFrom (suc f.0) hs
    later n [] fewer up' = tt
    later n (h ∷ hs) fewer up' = ((let one = up'.0 in omega arith), up'.1)

    other : g.0 < length vars → ((variable_of vars g).0 == (variable_of vars f).0) ≡ false
    other there = ne_eqb (variable_of vars g).0 (variable_of vars f).0 (λ same.
        let one = level-on vars distinct g.0 there in
        let two = level-on vars distinct f.0 here in
        let both = ap (level_in vars) same in
        let above = up.0 in
        omega arith)

distinct-variables : (vars : List Var) → IsDistinct vars → (first : ℕ) (fs : List FeatureNo) → IsRisingFrom first fs → All (λ (g : FeatureNo). g.0 < length vars) fs
    → IsDistinct (variables_of vars fs)
distinct-variables vars distinct first [] rising inside = tt
distinct-variables vars distinct first (f ∷ fs) rising inside =
    let P : FeatureNo → Type 0 = λ (g : FeatureNo). g.0 < length vars in (
      absent vars distinct f fs (All-head P f fs inside) rising.1 (All-tail P f fs inside) (suc f.0) (omega arith) rising.1,
      distinct-variables vars distinct (suc f.0) fs rising.1 (All-tail P f fs inside),
    )

-- the variables of members are members of a group of the table
pub members-are : (t : Table) (vars : List Var) (row : GroupRow) → All (λ (v : Var). IsVariable t v.0) vars → IsDistinct vars → IsAmong (length vars) row
    → AreMembers t (variables_of vars row.members)
members-are t vars row there distinct among = record {
  there = All-map (λ (v : Var). IsVariable t v.0) (variable_of vars) row.members (each row.members among.members);
  distinct = distinct-variables vars distinct 0 row.members among.rising among.members;
}
  where
    each : (fs : List FeatureNo) → All (λ (g : FeatureNo). g.0 < length vars) fs → All (λ (g : FeatureNo). IsVariable t (variable_of vars g).0) fs
    each [] inside = All-nil (λ (g : FeatureNo). IsVariable t (variable_of vars g).0)
    each (f ∷ fs) inside =
        let P : FeatureNo → Type 0 = λ (g : FeatureNo). g.0 < length vars in
        All-cons (λ (g : FeatureNo). IsVariable t (variable_of vars g).0) f fs
        (All-get_or (λ (v : Var). IsVariable t v.0) vars f.0 (record { 0 = 0 }) (All-head P f fs inside) there) (each fs (All-tail P f fs inside))

pub parent-there : (t : Table) (vars : List Var) (f : FeatureNo) → All (λ (v : Var). IsVariable t v.0) vars → f.0 < length vars → IsVariable t (variable_of vars f).0
parent-there t vars f there inside = All-get_or (λ (v : Var). IsVariable t v.0) vars f.0 (record { 0 = 0 }) inside there

-- a variable more
pub variables-more : (vars : List Var) (fs : List FeatureNo) (i : ℕ) (d : FeatureNo) → i < length fs
    → variables_of vars (take (i + 1) fs) ≡ variables_of vars (take i fs) ++ variable_of vars (get_or fs i d) ∷ []
variables-more vars fs i d inside = ap (variables_of vars) (take_more fs i d inside) ∙ map-append (variable_of vars) (take i fs) (get_or fs i d ∷ [])

-- the variable of a feature, as it is read
pub variable-is : (vars : List Var) (f : FeatureNo) (v : Var) → slice_get vars f.0 ≡ Some v → v ≡ variable_of vars f
variable-is vars f v is = sym (get_or_from_slice_get vars f.0 v (record { 0 = 0 }) is)

pub variables-push : (vars : List Var) (fs : List FeatureNo) (i : ℕ) (d : FeatureNo) (read all : List Var) (v : Var) → i < length fs → all ≡ read ++ v ∷ []
    → read ≡ variables_of vars (take i fs) → slice_get vars (get_or fs i d).0 ≡ Some v → all ≡ variables_of vars (take (i + 1) fs)
variables-push vars fs i d read all v inside is so_far at =
    let one : v ≡ variable_of vars (get_or fs i d) = variable-is vars (get_or fs i d) v at in
    let both : read ++ v ∷ [] ≡ variables_of vars (take i fs) ++ variable_of vars (get_or fs i d) ∷ []
    = ap (λ (us : List Var). us ++ v ∷ []) so_far ∙ ap (λ (u : Var). variables_of vars (take i fs) ++ u ∷ []) one in
    is ∙ both ∙ sym (variables-more vars fs i d inside)

-- the parts that are made are the row's
pub made-within : (vars : List Var) (row : GroupRow) → IsAmong (length vars) row → (f : Function)
    → In f (made_parts (variable_of vars row.parent) (variables_of vars row.members) row.lo row.hi) → In f (row_parts vars row)
made-within vars row among f (inl same) = inr (inr (inl (sym (with-is vars row among) ∙ same)))
made-within vars row among f (inr (inl same)) = inr (inr (inr (inl (sym (without-is vars row among) ∙ same))))
made-within vars row among f (inr (inr (inl same))) = inr (inr (inr (inr (inr (inr (inl (sym (group-is vars row among) ∙ same)))))))
made-within vars row among f (inr (inr (inr none))) = absurd none
