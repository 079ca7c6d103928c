-- Where a budget is too small for a group beside what is held.
use Rattle.std.proofs.Common.{◌≡◌, ◌⊎◌, ℕ, ◌<◌, ◌≤◌, List, [], ◌∷◌, ◌++◌, Result, Ok, Err, IfErr, refl, ap, sym, subst, inl, inr, arith}
use Rattle.std.specs.List.{Contains}
use Rattle.std.proofs.lemmas.Bool.{cases_eq}
use Rattle.dd_store.specs.declared.row.Var.{Var}
use Rattle.dd_store.specs.declared.refusal.Refusal.{Refusal}
use Rattle.dd_store.specs.declared.refusal.Refusal.TheVariants.{OverBudget, OutOfMemory}
use Rattle.dd_store.specs.Changes.{Keeps}
use Rattle.dd_store.specs.Exhausted.{HasHeld, value_at}
use Rattle.dd_store.specs.Handles.{GainsHandle}
use Rattle.dd_store.specs.Short.{IsShort, literals}
use Rattle.dd_store.specs.Size.{Function, size}
use Rattle.dd_store.specs.Table.{Table, IsLive}
use Rattle.dd_store.proofs.HandleLemmas.{one_on-other}
use Rattle.dd_store.proofs.SizeLemmas.{In, in_from, contains_from, in_left, in_right, more-size}
use Rattle.dd_store.proofs.StayLemmas.{value-kept}
use Rattle.dd_apply.specs.Cause.{IsCause}
use Rattle.dd_quant.specs.Cause.{IsShortFor}

-- the budget is too small for the group, beside whatever is held
abbrev pub Lacks : Table → List Function → Type 0
Lacks t group = (held : List Function) → HasHeld t held → t.budget < size t.order (held ++ (literals t.order ++ group))

-- a list with all functions of another needs no fewer nodes
size-le : (order : List Var) (few more : List Function) → ((f : Function) → In f few → In f more) → size order few ≤ size order more
size-le order few more all = more-size order few more (λ f has. contains_from f more (all f (in_from f few has)))

-- a function of the group that was asked for
pub lacks-asked : (t : Table) (f : Function) (group : List Function) → In f group → ((held : List Function) → HasHeld t held → t.budget < size t.order (f ∷ held)) → Lacks t group
lacks-asked t f group among over held has =
    let larger = size-le t.order (f ∷ held) (held ++ (literals t.order ++ group)) each in
    let one = over held has in
    omega arith
  where
    each : (g : Function) → In g (f ∷ held) → In g (held ++ (literals t.order ++ group))
    each g (inl is) = in_right g held (literals t.order ++ group) (in_right g (literals t.order) group (subst (λ (x : Function). In x group) is among))
    each g (inr i) = in_left g held (literals t.order ++ group) i

was-live : (t u : Table) (h n : ℕ) → GainsHandle t u h → IsLive u n → (n ≡ h) ⊎ IsLive t n
was-live t u h n gain live = elim (cases_eq n h) [
  | inl same ↦ inl same
  | inr other ↦ inr (let none = one_on-other h n other in let each = gain.each n in omega arith)
]

has-gained : (t u : Table) (h : ℕ) (held : List Function) → Keeps t u → GainsHandle t u h → HasHeld t held → HasHeld u (value_at u h ∷ held)
has-gained t u h held keeps gain has n live = elim (was-live t u h n gain live) [
  | inl same ↦ contains_from (value_at u n) (value_at u h ∷ held) (inl (ap (value_at u) (sym same)))
  | inr was ↦ contains_from (value_at u n) (value_at u h ∷ held)
      (inr (subst (λ (f : Function). In f held) (sym (value-kept t u keeps n was live)) (in_from (value_at t n) held (has n was))))
]

-- behind one more live handle, whose value is in the group
pub lacks-behind : (t u : Table) (h : ℕ) (group : List Function) → Keeps t u → GainsHandle t u h → In (value_at u h) group → Lacks u group → Lacks t group
lacks-behind t u h group keeps gain among over held has =
    let one : u.budget < size u.order ((value_at u h ∷ held) ++ (literals u.order ++ group)) = over (value_at u h ∷ held) (has-gained t u h held keeps gain has) in
    let same : size u.order ((value_at u h ∷ held) ++ (literals u.order ++ group)) ≡ size t.order ((value_at u h ∷ held) ++ (literals t.order ++ group))
    = ap (λ (vs : List Var). size vs ((value_at u h ∷ held) ++ (literals vs ++ group))) keeps.order in
    let larger = size-le t.order ((value_at u h ∷ held) ++ (literals t.order ++ group)) (held ++ (literals t.order ++ group)) each in
    let budget = keeps.budget in
    omega arith
  where
    each : (g : Function) → In g ((value_at u h ∷ held) ++ (literals t.order ++ group)) → In g (held ++ (literals t.order ++ group))
    each g (inl is) = in_right g held (literals t.order ++ group) (in_right g (literals t.order) group (subst (λ (x : Function). In x group) is among))
    each g (inr i) = i

-- where it is so for one of some groups, it is so for them
pub lacks-short : (t : Table) (group : List Function) (groups : List (List Function)) (r : Refusal) → Contains groups group → Lacks t group → IsShortFor t groups r
lacks-short t group groups (OverBudget nodes roots) (k, inside, at) lacks = λ held has. (k, group, inside, at, lacks held has)
lacks-short t group groups OutOfMemory among lacks = tt

-- and for one group alone
pub short-lacks : (t : Table) (group : List Function) (nodes roots : ℕ) → IsShortFor t (group ∷ []) (OverBudget nodes roots) → Lacks t group
short-lacks t group nodes roots cause held has = by (cause held has)
  where
    by : IsShort t.order t.budget held (group ∷ []) → t.budget < size t.order (held ++ (literals t.order ++ group))
    by (k, other, inside, at, over) = elim (in_from other (group ∷ []) (k, inside, at)) [
      | inl same ↦ subst (λ (g : List Function). t.budget < size t.order (held ++ (literals t.order ++ g))) (sym same) over
      | inr none ↦ absurd none
    ]

first-group : (group : List Function) → Contains (group ∷ []) group
first-group group = contains_from group (group ∷ []) (inl refl)

-- why a call of the kernel is refused
pub short-call : (t u : Table) (f : Function) (group : List Function) (r : Refusal) → In f group → IsCause t u f r → IsShortFor t (group ∷ []) r
short-call t u f group (OverBudget nodes roots) among cause =
    lacks-short t group (group ∷ []) (OverBudget nodes roots) (first-group group) (lacks-asked t f group among cause.size)
short-call t u f group OutOfMemory among cause = tt

pub short-told : (t u : Table) (f : Function) (group : List Function) (result : Result ℕ Refusal) → In f group → IfErr result (IsCause t u f) → IfErr result (IsShortFor t (group ∷ []))
short-told t u f group (Ok h) among cause = tt
short-told t u f group (Err r) among cause = short-call t u f group r among cause

-- and one behind one more live handle
pub short-behind : (t u : Table) (h : ℕ) (group : List Function) (r : Refusal) → Keeps t u → GainsHandle t u h → In (value_at u h) group
    → IsShortFor u (group ∷ []) r → IsShortFor t (group ∷ []) r
short-behind t u h group (OverBudget nodes roots) keeps gain among cause =
    lacks-short t group (group ∷ []) (OverBudget nodes roots) (first-group group) (lacks-behind t u h group keeps gain among (short-lacks u group nodes roots cause))
short-behind t u h group OutOfMemory keeps gain among cause = tt

pub behind-told : (t u : Table) (h : ℕ) (group : List Function) (result : Result ℕ Refusal) → Keeps t u → GainsHandle t u h → In (value_at u h) group
    → IfErr result (IsShortFor u (group ∷ [])) → IfErr result (IsShortFor t (group ∷ []))
behind-told t u h group (Ok k) keeps gain among cause = tt
behind-told t u h group (Err r) keeps gain among cause = short-behind t u h group r keeps gain among cause

-- one group among others
pub short-among : (t : Table) (group : List Function) (groups : List (List Function)) (r : Refusal) → Contains groups group → IsShortFor t (group ∷ []) r → IsShortFor t groups r
short-among t group groups (OverBudget nodes roots) among cause = lacks-short t group groups (OverBudget nodes roots) among (short-lacks t group nodes roots cause)
short-among t group groups OutOfMemory among cause = tt
