-- One group after another, from the last one up.
use Rattle.std.proofs.Common.{◌≡◌, ℕ, zero, suc, ◌+◌, ◌<◌, ◌≤◌, Bool, true, false, ◌&&◌, List, [], ◌∷◌, ◌++◌, length, drop, get_or, Some, slice_get, Result, Ok, Err, IfOk, IfErr, refl, ap, sym, ◌∙◌, subst, inl, inr, arith}
use Rattle.std.specs.List.{Contains, list_all}
use Rattle.std.proofs.lemmas.List.{drop_more, drop_all}
use Rattle.std.proofs.lemmas.List.Elements.{Contains-get_or}
use Rattle.std.proofs.lemmas.Option.{get_or_from_slice_get}
use Rattle.dd_store.specs.declared.refusal.Refusal.{Refusal}
use Rattle.dd_store.specs.declared.row.Var.{Var}
use Rattle.dd_store.specs.Changes.{Keeps}
use Rattle.dd_store.specs.Exhausted.{value_at}
use Rattle.dd_store.specs.Handles.{GainsHandle}
use Rattle.dd_store.specs.Size.{Function}
use Rattle.dd_store.specs.Table.{Table, IsLive, value_of}
use Rattle.dd_store.proofs.CountLemmas.{live_gained}
use Rattle.dd_store.proofs.StayLemmas.{value-kept}
use Rattle.dd_store.proofs.SizeLemmas.{In, in_left, in_right, in_parts}
use Rattle.uvl_functions.specs.Cause.{IsShortFor}
use Rattle.uvl_functions.specs.Functions.{root_function, group_function, tree_function}
use Rattle.uvl_functions.specs.Groups.{row_parts, rows_groups, tree_groups}
use Rattle.uvl_functions.specs.Variables.{marks_under}
use Rattle.uvl_functions.proofs.ShortLemmas.{IsBeside, AreCovered, cause-behind, cause-covered}
use Rattle.uvl_model.specs.declared.rows.GroupRow.{GroupRow}
use Rattle.uvl_model.specs.Check.{group_holds}
use Rattle.uvl_model.specs.Rows.{Rows}
use Rattle.uvl_model.specs.Spelling.{numbered}
use Rattle.uvl_compile.specs.Conditions.{both}
use Rattle.uvl_functions.specs.Trade.{Replaces}
use Rattle.uvl_compile.proofs.HandleLemmas.{gain-replaced, keeps-behind}
use Rattle.uvl_compile.proofs.RowFunctions.{chosen-is}
use Rattle.uvl_compile.proofs.Trades.{cause-more, cause-behind_member}

-- the feature's variable, as it is read
pub variable-read : (vars : List Var) (n : ℕ) (v : Var) → slice_get vars n ≡ Some v → get_or vars n (record { 0 = 0 }) ≡ v
variable-read vars n v is = get_or_from_slice_get vars n v (record { 0 = 0 }) is

and-yes : (p : Bool) → (p && true) ≡ p
and-yes true = refl
and-yes false = refl

and-moved : (p q r : Bool) → ((p && q) && r) ≡ (p && (r && q))
and-moved true true true = refl
and-moved true true false = refl
and-moved true false true = refl
and-moved true false false = refl
and-moved false q r = refl

-- no group yet: the root alone
pub tree-none : (t : Table) (vars : List Var) (h : ℕ) (v : Var) → 0 < length vars → slice_get vars 0 ≡ Some v → ((a : ℕ → Bool) → value_of t h a ≡ a v.0)
    → value_at t h ≡ tree_function vars []
tree-none t vars h v some read is = λ j a. (
    is a ∙ sym (ap (λ (w : Var). a w.0) (variable-read vars 0 v read)) ∙ sym (chosen-is vars (numbered 0) a some) ∙ sym (and-yes (root_function vars a))
    ) j

-- a group more
pub tree-more : (vars : List Var) (row : GroupRow) (rows : List GroupRow) → both (tree_function vars rows) (group_function vars row) ≡ tree_function vars (row ∷ rows)
tree-more vars row rows = λ j a. and-moved (root_function vars a) (list_all (group_holds (marks_under vars a)) rows) (group_holds (marks_under vars a) row) j

-- the tree from the group number `left` on is made
pub record IsTreeFrom (begun t : Table) (vars : List Var) (groups : List GroupRow) (left h : ℕ) : Type 0 where
  pub keeps : Keeps begun t
  pub gained : GainsHandle begun t h
  pub value : value_at t h ≡ tree_function vars (drop left groups)
  pub inside : left ≤ length groups

pub tree-begins : (begun t : Table) (vars : List Var) (groups : List GroupRow) (h : ℕ) → Keeps begun t → GainsHandle begun t h → value_at t h ≡ tree_function vars []
    → IsTreeFrom begun t vars groups (length groups) h
tree-begins begun t vars groups h keeps gain is = record {
  keeps = keeps;
  gained = gain;
  value = is ∙ ap (tree_function vars) (sym (drop_all (length groups) groups (omega arith)));
  inside = omega arith;
}

-- the groups from one on are it and those behind it
pub group-read : (groups : List GroupRow) (left left' : ℕ) (row : GroupRow) → left' + 1 ≡ left → left ≤ length groups → row ≡ get_or groups left' row
    → drop left' groups ≡ row ∷ drop left groups
group-read groups left left' row next inside is =
    drop_more groups left' row (omega arith) ∙ ap (λ (n : ℕ). get_or groups left' row ∷ drop n groups) next ∙ ap (λ (g : GroupRow). g ∷ drop left groups) (sym is)

pub group-has : (groups : List GroupRow) (left' : ℕ) (row : GroupRow) → left' < length groups → row ≡ get_or groups left' row → Contains groups row
group-has groups left' row inside is = subst (λ (g : GroupRow). Contains groups g) (sym is) (Contains-get_or groups left' row inside)

pub group-value : (vars : List Var) (groups : List GroupRow) (left left' : ℕ) (row : GroupRow) (f : Function) → left' + 1 ≡ left → left ≤ length groups → row ≡ get_or groups left' row
    → f ≡ tree_function vars (drop left groups) → both f (group_function vars row) ≡ tree_function vars (drop left' groups)
group-value vars groups left left' row f next inside is value =
    ap (λ (g : Function). both g (group_function vars row)) value ∙ tree-more vars row (drop left groups) ∙ ap (tree_function vars) (sym (group-read groups left left' row next inside is))

-- the functions of one row are a group of the tree
rows-in : (vars : List Var) (groups : List GroupRow) (n : ℕ) (row : GroupRow) (rest : List GroupRow) → drop n groups ≡ row ∷ rest
    → In (row_parts vars row ++ tree_function vars rest ∷ tree_function vars (row ∷ rest) ∷ []) (rows_groups vars groups)
rows-in vars groups zero row rest is = subst (λ (gs : List GroupRow). In (row_parts vars row ++ tree_function vars rest ∷ tree_function vars (row ∷ rest) ∷ []) (rows_groups vars gs)) (sym is) (inl refl)
rows-in vars [] (suc n) row rest is = absurd (let size = ap length is in omega arith)
rows-in vars (g ∷ gs) (suc n) row rest is = inr (rows-in vars gs n row rest is)

-- the root is refused
pub cause-root : (t : Table) (vars : List Var) (rows : Rows) (r : Refusal) → IsShortFor t ([] ∷ []) r → IsShortFor t (tree_groups vars rows) r
cause-root t vars rows r =
    cause-covered t ([] ∷ []) (tree_groups vars rows) r (λ held group is. (root_function vars ∷ [], inl refl, (λ f h. inl h), λ f h. absurd (none group is f h)))
  where
    none : (group : List Function) → In group ([] ∷ []) → (f : Function) → In f group → ⊥
    none group (inl same) f h = subst (λ (g : List Function). In f g) (sym same) h
    none group (inr other) f h = other

-- a group is refused, behind the handle of the tree behind it
pub cause-group : (t u : Table) (h : ℕ) (vars : List Var) (rows : Rows) (left left' : ℕ) (row : GroupRow) (r : Refusal) → left' + 1 ≡ left → row ≡ get_or rows.groups left' row
    → IsTreeFrom t u vars rows.groups left h → IsShortFor u ((row_parts vars row ++ both (value_at u h) (group_function vars row) ∷ []) ∷ []) r → IsShortFor t (tree_groups vars rows) r
cause-group t u h vars rows left left' row r next is at cause =
    cause-behind t u h ((row_parts vars row ++ both (value_at u h) (group_function vars row) ∷ []) ∷ []) (tree_groups vars rows) r at.keeps at.gained covered cause
  where
    rest : List GroupRow
    rest = drop left rows.groups

    whole : List Function
    whole = row_parts vars row ++ tree_function vars rest ∷ tree_function vars (row ∷ rest) ∷ []

    among : In whole (tree_groups vars rows)
    among = inr (rows-in vars rows.groups left' row rest (group-read rows.groups left left' row next at.inside is))

    both-is : both (value_at u h) (group_function vars row) ≡ tree_function vars (row ∷ rest)
    both-is = ap (λ (g : Function). both g (group_function vars row)) at.value ∙ tree-more vars row rest

    held-in : In (value_at u h) whole
    held-in = subst (λ (g : Function). In g whole) (sym at.value) (in_right (tree_function vars rest) (row_parts vars row) (tree_function vars rest ∷ tree_function vars (row ∷ rest) ∷ []) (inl refl))

    part-in : (f : Function) → In f (row_parts vars row ++ both (value_at u h) (group_function vars row) ∷ []) → In f whole
    part-in f i = elim (in_parts f (row_parts vars row) (both (value_at u h) (group_function vars row) ∷ []) i) [
      | inl part ↦ in_left f (row_parts vars row) (tree_function vars rest ∷ tree_function vars (row ∷ rest) ∷ []) part
      | inr (inl same) ↦ in_right f (row_parts vars row) (tree_function vars rest ∷ tree_function vars (row ∷ rest) ∷ []) (inr (inl (sym both-is ∙ same)))
      | inr (inr none) ↦ absurd none
    ]

    first : (held : List Function) (f : Function) → In f (value_at u h ∷ held) → IsBeside t.order held whole f
    first held f (inl same) = inr (inr (inl (subst (λ (g : Function). In g whole) same held-in)))
    first held f (inr i) = inl i

    covered : (held : List Function) → AreCovered t.order (value_at u h ∷ held) held ((row_parts vars row ++ both (value_at u h) (group_function vars row) ∷ []) ∷ []) (tree_groups vars rows)
    covered held group (inl same) = (whole, among, first held, λ f i. inr (inr (inl (part-in f (subst (λ (g : List Function). In f g) (sym same) i)))))
    covered held group (inr none) = absurd none

-- a group is met with what is held
module _ (t u w : Table) (held made : ℕ) (vars : List Var) (row : GroupRow) (keeps : Keeps t u) (gain : GainsHandle t u made) (live : IsLive t held)
    (value : value_at u made ≡ group_function vars row) where
  both-is : both (value_at u held) (value_at u made) ≡ both (value_at t held) (group_function vars row)
  both-is =
      ap (λ (f : Function). both f (value_at u made)) (value-kept t u keeps held live (live_gained gain held live)) ∙ ap (λ (f : Function). both (value_at t held) f) value

  pub met-value : (result : Result ℕ Refusal) → IfOk result (λ h. value_at w h ≡ both (value_at u held) (value_at u made))
      → IfOk result (λ h. value_at w h ≡ both (value_at t held) (group_function vars row))
  met-value (Ok h) is = is ∙ both-is
  met-value (Err r) is = tt

  pub met-cause : (result : Result ℕ Refusal) → IfErr result (IsShortFor u ((both (value_at u held) (value_at u made) ∷ []) ∷ []))
      → IfErr result (IsShortFor t ((row_parts vars row ++ both (value_at t held) (group_function vars row) ∷ []) ∷ []))
  met-cause (Ok h) cause = tt
  met-cause (Err r) cause =
      let group = row_parts vars row ++ both (value_at t held) (group_function vars row) ∷ [] in
      cause-behind_member t u made group r keeps gain (inr (inr (inr (inr (inr (inr (inl (sym value))))))))
      (cause-more u (both (value_at u held) (value_at u made) ∷ []) group r
      (λ f i. elim i [ inl same ↦ inr (inr (inr (inr (inr (inr (inr (inl (sym both-is ∙ same)))))))) | inr none ↦ absurd none ]) cause)

pub unmet-cause : (t : Table) (held : ℕ) (vars : List Var) (row : GroupRow) (r : Refusal) → IsShortFor t (row_parts vars row ∷ []) r
    → IsShortFor t ((row_parts vars row ++ both (value_at t held) (group_function vars row) ∷ []) ∷ []) r
unmet-cause t held vars row r cause =
    cause-more t (row_parts vars row) (row_parts vars row ++ both (value_at t held) (group_function vars row) ∷ []) r
    (λ f i. in_left f (row_parts vars row) (both (value_at t held) (group_function vars row) ∷ []) i) cause

-- the tree with one more group
pub tree-goes-on : (begun t u : Table) (vars : List Var) (groups : List GroupRow) (left left' h k : ℕ) (row : GroupRow) → left' + 1 ≡ left → row ≡ get_or groups left' row
    → IsTreeFrom begun t vars groups left h → Keeps t u → Replaces t u h k → value_at u k ≡ both (value_at t h) (group_function vars row) → IsTreeFrom begun u vars groups left' k
tree-goes-on begun t u vars groups left left' h k row next is at keeps trade value = record {
  keeps = keeps-behind begun t u h at.keeps at.gained keeps;
  gained = gain-replaced begun t u h k at.gained trade;
  value = value ∙ group-value vars groups left left' row (value_at t h) next at.inside is at.value;
  inside = let within = at.inside in omega arith;
}
