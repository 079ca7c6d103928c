-- Where a budget is too small beside other functions, and why a call is refused for it.
use Rattle.std.proofs.Common.{◌≡◌, ◌⊎◌, ℕ, ◌<◌, ◌≤◌, Bool, true, false, not, ◌||◌, List, [], ◌∷◌, ◌++◌, Result, Ok, Err, IfErr, refl, ap, sym, ◌∙◌, subst, inl, inr, arith}
use Rattle.std.specs.List.{Contains, flat_map}
use Rattle.std.proofs.lemmas.Bool.{cases_eq, true≢false}
use Rattle.dd_store.specs.declared.row.Var.{Var}
use Rattle.dd_store.specs.declared.refusal.Refusal.{Refusal}
use Rattle.dd_store.specs.declared.refusal.Refusal.TheVariants.{OverBudget, OutOfMemory}
use Rattle.dd_store.specs.Changes.{Keeps}
use Rattle.dd_store.specs.declared.row.Row.{Row}
use Rattle.dd_store.specs.Exhausted.{HasHeld, IsCauseFor, asked_by, value_at}
use Rattle.dd_store.specs.Handles.{GainsHandle}
use Rattle.dd_store.specs.Short.{IsShort, literals}
use Rattle.dd_store.specs.Size.{Function, alike, cofactors, is_constant, parts, size}
use Rattle.dd_store.specs.Table.{Table, IsLive}
use Rattle.dd_store.proofs.AlikeLemmas.{alike-equivalence, alike-same}
use Rattle.dd_store.proofs.HandleLemmas.{one_on-other}
use Rattle.dd_store.proofs.SizeLemmas.{In, in_from, contains_from, in_left, in_right, in_parts, in_each, in_filter, from_filter, count_more}
use Rattle.dd_store.proofs.StayLemmas.{value-kept}
use Rattle.dd_apply.specs.Cause.{IsCause}
use Rattle.uvl_functions.specs.Cause.{IsShortFor}

-- what comes of a list comes of one of the elements
in_some : {X Y : Type 0} (f : X → List Y) (xs : List X) (y : Y) → In y (flat_map f xs) → (x : X) × In x xs × In y (f x)
in_some f [] y h = absurd h
in_some f (x ∷ xs) y h = elim (in_parts y (f x) (flat_map f xs) h) [
  | inl here ↦ (x, inl refl, here)
  | inr rest ↦ let r = in_some f xs y rest in (r.0, inr r.1, r.2)
]

-- the function has one value
abbrev pub IsConstant : Function → Type 0
IsConstant f = (b : Bool) × (f ≡ (λ a. b))

-- a constant gives itself alone by fixing variables
constant-cofactors : (vs : List Var) (b : Bool) (f : Function) → In f (cofactors vs (λ a. b)) → f ≡ (λ a. b)
constant-cofactors [] b f (inl is) = sym is
constant-cofactors [] b f (inr none) = absurd none
constant-cofactors (v ∷ vs) b f (inl is) = sym is
constant-cofactors (v ∷ vs) b f (inr rest) = elim (in_parts f (cofactors vs (λ a. b)) (cofactors vs (λ a. b)) rest) [
  | inl low ↦ constant-cofactors vs b f low
  | inr high ↦ constant-cofactors vs b f high
]

or-second : (p q : Bool) → q ≡ true → (p || q) ≡ true
or-second true q is = refl
or-second false q is = is

constant-is : (order : List Var) (b : Bool) → is_constant order (λ a. b) ≡ true
constant-is order false =
    ap (λ (r : Bool). r || alike order (λ a. false) (λ a. true)) (alike-same order (λ a. false) (λ a. false) (λ a. refl))
constant-is order true =
    or-second (alike order (λ a. true) (λ a. false)) (alike order (λ a. true) (λ a. true)) (alike-same order (λ a. true) (λ a. true) (λ a. refl))

-- a list that has all of another but constants needs no fewer nodes
size-within : (order : List Var) (few more : List Function) → ((f : Function) → In f few → In f more ⊎ IsConstant f) → size order few ≤ size order more
size-within order few more within =
    count_more (alike-equivalence order) (parts order few) (parts order more) (λ x i. kept x (from_filter varies x (flat_map (cofactors order) few) i))
  where
    varies : Function → Bool
    varies f = not (is_constant order f)

    no-constant : (x : Function) → IsConstant x → not (is_constant order x) ≡ true → ⊥
    no-constant x (b, is) passes =
        true≢false (sym passes ∙ ap (λ (f : Function). not (is_constant order f)) is ∙ ap not (constant-is order b))

    kept : (x : Function) → In x (flat_map (cofactors order) few) × (not (is_constant order x) ≡ true) → In x (parts order more)
    kept x (i, passes) =
        let (f, here, of) = in_some (cofactors order) few x i in
        elim (within f here) [
          | inl there ↦ in_filter (λ g. not (is_constant order g)) x (flat_map (cofactors order) more) (in_each (cofactors order) f more x there of) passes
          | inr const ↦ absurd (no-constant x (const.0, constant-cofactors order const.0 x (subst (λ (g : Function). In x (cofactors order g)) const.1 of)) passes)
        ]

-- beside the functions that are held and a group the function costs nothing: it is one of them, a literal or a constant
abbrev pub IsBeside : List Var → List Function → List Function → Function → Type 0
IsBeside order held group f = In f held ⊎ (In f (literals order) ⊎ (In f group ⊎ IsConstant f))

-- for each group there is one among the others beside which it costs nothing, and what is held with it too
abbrev pub IsCovered : List Var → List Function → List Function → List (List Function) → List Function → Type 0
IsCovered order held held' groups' group =
    (group' : List Function) × In group' groups'
    × ((f : Function) → In f held → IsBeside order held' group' f) × ((f : Function) → In f group → IsBeside order held' group' f)

abbrev pub AreCovered : List Var → List Function → List Function → List (List Function) → List (List Function) → Type 0
AreCovered order held held' groups groups' = (group : List Function) → In group groups → IsCovered order held held' groups' group

-- what costs nothing beside a group stands in the whole list, or is a constant
beside-in : (order : List Var) (held group : List Function) (f : Function) → IsBeside order held group f → In f (held ++ (literals order ++ group)) ⊎ IsConstant f
beside-in order held group f (inl is) = inl (in_left f held (literals order ++ group) is)
beside-in order held group f (inr (inl is)) = inl (in_right f held (literals order ++ group) (in_left f (literals order) group is))
beside-in order held group f (inr (inr (inl is))) = inl (in_right f held (literals order ++ group) (in_right f (literals order) group is))
beside-in order held group f (inr (inr (inr is))) = inr is

-- a budget that is too small for one of some groups is so for one of those that cover them
pub short-covered : (order : List Var) (budget : ℕ) (held held' : List Function) (groups groups' : List (List Function)) → AreCovered order held held' groups groups'
    → IsShort order budget held groups → IsShort order budget held' groups'
short-covered order budget held held' groups groups' covered (k, group, inside, at, over) =
    let cover = covered group (in_from group groups (k, inside, at)) in
    let there = contains_from cover.0 groups' cover.1 in
    let larger = size-within order (held ++ (literals order ++ group)) (held' ++ (literals order ++ cover.0)) (each cover.0 cover.2 cover.3) in
    (there.0, cover.0, there.1, there.2, omega arith)
  where
    each : (group' : List Function) → ((f : Function) → In f held → IsBeside order held' group' f) → ((f : Function) → In f group → IsBeside order held' group' f)
        → (f : Function) → In f (held ++ (literals order ++ group)) → In f (held' ++ (literals order ++ group')) ⊎ IsConstant f
    each group' first second f i = elim (in_parts f held (literals order ++ group) i) [
      | inl h ↦ beside-in order held' group' f (first f h)
      | inr r ↦ elim (in_parts f (literals order) group r) [
        | inl l ↦ beside-in order held' group' f (inr (inl l))
        | inr g ↦ beside-in order held' group' f (second f g)
      ]
    ]

-- a number that is live with one more handle was live, or is that handle's
was-live : (t u : Table) (h n : ℕ) → GainsHandle t u h → IsLive u n → (n ≡ h) ⊎ IsLive t n
was-live t u h n gain live = elim (cases_eq n h) [
  | inl same ↦ inl same
  | inr other ↦ inr (let none = one_on-other h n other in let each = gain.each n in omega arith)
]

-- what is held with one more handle
has-gained : (t u : Table) (h : ℕ) (held : List Function) → Keeps t u → GainsHandle t u h → HasHeld t held → HasHeld u (value_at u h ∷ held)
has-gained t u h held keeps gain has n live = elim (was-live t u h n gain live) [
  | inl same ↦ contains_from (value_at u n) (value_at u h ∷ held) (inl (ap (value_at u) (sym same)))
  | inr was ↦ contains_from (value_at u n) (value_at u h ∷ held)
      (inr (subst (λ (f : Function). In f held) (sym (value-kept t u keeps n was live)) (in_from (value_at t n) held (has n was))))
]

-- a call behind one more live handle, which costs nothing
pub cause-behind : (t u : Table) (h : ℕ) (groups groups' : List (List Function)) (r : Refusal) → Keeps t u → GainsHandle t u h
    → ((held : List Function) → AreCovered t.order (value_at u h ∷ held) held groups groups') → IsShortFor u groups r → IsShortFor t groups' r
cause-behind t u h groups groups' (OverBudget nodes roots) keeps gain covered cause = λ held has.
    short-covered t.order t.budget (value_at u h ∷ held) held groups groups' (covered held)
    (subst (λ (b : ℕ). IsShort t.order b (value_at u h ∷ held) groups) keeps.budget
    (subst (λ (vs : List Var). IsShort vs u.budget (value_at u h ∷ held) groups) keeps.order (cause (value_at u h ∷ held) (has-gained t u h held keeps gain has))))
cause-behind t u h groups groups' OutOfMemory keeps gain covered cause = tt

-- a call where each live handle was live before
pub cause-again : (t u : Table) (groups : List (List Function)) (r : Refusal) → Keeps t u → ((n : ℕ) → IsLive u n → IsLive t n)
    → IsShortFor u groups r → IsShortFor t groups r
cause-again t u groups (OverBudget nodes roots) keeps was cause = λ held has.
    subst (λ (b : ℕ). IsShort t.order b held groups) keeps.budget
    (subst (λ (vs : List Var). IsShort vs u.budget held groups) keeps.order
    (cause held (λ n live. subst (λ (f : Function). Contains held f) (sym (value-kept t u keeps n (was n live) live)) (has n (was n live)))))
cause-again t u groups OutOfMemory keeps was cause = tt

-- more groups, or others that cover them
pub cause-covered : (t : Table) (groups groups' : List (List Function)) (r : Refusal) → ((held : List Function) → AreCovered t.order held held groups groups')
    → IsShortFor t groups r → IsShortFor t groups' r
cause-covered t groups groups' (OverBudget nodes roots) covered cause = λ held has.
    short-covered t.order t.budget held held groups groups' (covered held) (cause held has)
cause-covered t groups groups' OutOfMemory covered cause = tt

-- the budget is too small for a function that was asked for
pub short-for : (t : Table) (f : Function) (group : List Function) → ((held : List Function) → IsBeside t.order held group f)
    → ((held : List Function) → HasHeld t held → t.budget < size t.order (f ∷ held)) → (held : List Function) → HasHeld t held → IsShort t.order t.budget held (group ∷ [])
short-for t f group beside over held has =
    let larger = size-within t.order (f ∷ held) (held ++ (literals t.order ++ group)) each in
    let one = over held has in
    (0, group, omega arith, refl, omega arith)
  where
    each : (g : Function) → In g (f ∷ held) → In g (held ++ (literals t.order ++ group)) ⊎ IsConstant g
    each g (inl is) = beside-in t.order held group g (subst (λ (x : Function). IsBeside t.order held group x) is (beside held))
    each g (inr i) = inl (in_left g held (literals t.order ++ group) i)

-- a call of the kernel
pub cause-call : (t u : Table) (f : Function) (group : List Function) (r : Refusal) → ((held : List Function) → IsBeside t.order held group f)
    → IsCause t u f r → IsShortFor t (group ∷ []) r
cause-call t u f group (OverBudget nodes roots) beside cause = short-for t f group beside cause.size
cause-call t u f group OutOfMemory beside cause = tt

-- want of memory has no cause
pub cause-none : (t : Table) (groups : List (List Function)) (r : Refusal) → r ≡ OutOfMemory → IsShortFor t groups r
cause-none t groups (OverBudget nodes roots) is = absurd (let no = is in cc)
cause-none t groups OutOfMemory is = tt

-- the result of a call of the kernel
pub cause-told : (t u : Table) (f : Function) (group : List Function) (result : Result ℕ Refusal) → ((held : List Function) → IsBeside t.order held group f)
    → IfErr result (IsCause t u f) → IfErr result (IsShortFor t (group ∷ []))
cause-told t u f group (Ok h) beside cause = tt
cause-told t u f group (Err r) beside cause = cause-call t u f group r beside cause

-- a function that costs nothing beside the groups is covered where it is held
pub held-covered : (order : List Var) (e : Function) (held : List Function) (groups : List (List Function))
    → ((group : List Function) → In group groups → IsBeside order held group e) → AreCovered order (e ∷ held) held groups groups
held-covered order e held groups beside group i = (group, i, first, λ f h. inr (inr (inl h)))
  where
    first : (f : Function) → In f (e ∷ held) → IsBeside order held group f
    first f (inl is) = subst (λ (g : Function). IsBeside order held group g) is (beside group i)
    first f (inr h) = inl h

-- the result of a call behind one more live handle, whose value is a constant
pub told-behind_constant : (t u : Table) (h : ℕ) (b : Bool) (groups : List (List Function)) (result : Result ℕ Refusal) → Keeps t u → GainsHandle t u h
    → value_at u h ≡ (λ a. b) → IfErr result (IsShortFor u groups) → IfErr result (IsShortFor t groups)
told-behind_constant t u h b groups (Ok k) keeps gain is cause = tt
told-behind_constant t u h b groups (Err r) keeps gain is cause =
    cause-behind t u h groups groups r keeps gain (λ held. held-covered t.order (value_at u h) held groups (λ group i. inr (inr (inr (b, is))))) cause

-- or is in the one group
pub told-behind_member : (t u : Table) (h : ℕ) (group : List Function) (result : Result ℕ Refusal) → Keeps t u → GainsHandle t u h
    → In (value_at u h) group → IfErr result (IsShortFor u (group ∷ [])) → IfErr result (IsShortFor t (group ∷ []))
told-behind_member t u h group (Ok k) keeps gain is cause = tt
told-behind_member t u h group (Err r) keeps gain is cause =
    cause-behind t u h (group ∷ []) (group ∷ []) r keeps gain (λ held. held-covered t.order (value_at u h) held (group ∷ []) (here held)) cause
  where
    here : (held : List Function) (g : List Function) → In g (group ∷ []) → IsBeside t.order held g (value_at u h)
    here held g (inl same) = inr (inr (inl (subst (λ (k : List Function). In (value_at u h) k) same is)))
    here held g (inr none) = absurd none

-- why a node is refused
pub told-node : (t u : Table) (row : Row) (group : List Function) (result : Result ℕ Refusal) → ((held : List Function) → IsBeside t.order held group (asked_by t row))
    → IfErr result (IsCauseFor t u row) → IfErr result (IsShortFor t (group ∷ []))
told-node t u row group (Ok h) beside cause = tt
told-node t u row group (Err (OverBudget nodes roots)) beside cause = short-for t (asked_by t row) group beside cause.2.size
told-node t u row group (Err OutOfMemory) beside cause = tt
