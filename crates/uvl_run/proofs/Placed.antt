-- Where the variables of a model stand in a table that had none.
use Rattle.std.proofs.Common.{◌≡◌, ◌<◌, ◌⊎◌, ℕ, zero, suc, ◌+◌, List, [], ◌∷◌, ◌++◌, length, slice_get, Option, Some, None, get_or, Contains, refl, sym, ap, ◌∙◌, subst, false, arith, append-nil, append_assoc, inl, inr}
use Rattle.std.specs.Option.{option_map}
use Rattle.std.proofs.lemmas.List.{length-map}
use Rattle.std.proofs.lemmas.List.Elements.{Contains-append_cases, Contains-append_right, Contains-get_or, Contains-push_cases}
use Rattle.std.proofs.lemmas.Option.{none-some, same_Some, slice_get_within, slice_get-map, get_or_from_slice_get, slice_get-get_or}
use Rattle.dd_store.specs.declared.row.Var.{Var}
use Rattle.dd_store.specs.Exhausted.{HasHeld}
use Rattle.dd_store.specs.Short.{IsShort}
use Rattle.dd_store.specs.Table.{Table, handles_on}
use Rattle.dd_store.specs.declared.refusal.Refusal.{Refusal}
use Rattle.dd_store.specs.declared.refusal.Refusal.TheVariants.{OverBudget, OutOfMemory}
use Rattle.uvl_functions.specs.Cause.{IsShortFor}
use Rattle.uvl_functions.specs.Enough.{enough}
use Rattle.uvl_functions.specs.Groups.{compile_groups}
use Rattle.uvl_functions.specs.Laws.{EnoughIsEnough}
use Rattle.uvl_functions.specs.Placing.{with_names, AreNamed, AddsVariables}
use Rattle.uvl_model.specs.Laws.{RowsGiveNames}
use Rattle.uvl_model.specs.Names.{feature_names}
use Rattle.uvl_model.specs.Rows.{Rows}
use Rattle.uvl_model.specs.Sound.{AreDistinct, IsSound}
use Rattle.uvl_semantics.specs.Product.{has}
use Rattle.uvl_semantics.proofs.Membership.{has-absent}
use Rattle.uvl_run.specs.Budget.{variables_from, main_variables}
use Rattle.uvl_run.specs.steps.Compiled.{IsCauseFor}

-- ---- names

Contains-at : (names : List (List ℕ)) (n : ℕ) (x : List ℕ) → slice_get names n ≡ Some x → Contains names x
Contains-at names n x e = (n, slice_get_within names n x e, get_or_from_slice_get names n x x e)

-- each of distinct names stands at one place
only_place : (names : List (List ℕ)) → AreDistinct names → (x : List ℕ) (m n : ℕ) → slice_get names m ≡ Some x → slice_get names n ≡ Some x → m ≡ n
only_place [] d x m n a b = absurd (none-some x a)
only_place (y ∷ ys) d x zero zero a b = refl
only_place (y ∷ ys) d x zero (suc n) a b = absurd (d.0 (Contains-at ys n y (b ∙ sym a)))
only_place (y ∷ ys) d x (suc m) zero a b = absurd (d.0 (Contains-at ys m y (a ∙ sym b)))
only_place (y ∷ ys) d x (suc m) (suc n) a b = ap suc (only_place ys d.1 x m n a b)

-- a name isn't among those in front of it
apart : (front : List (List ℕ)) (x : List ℕ) (rest : List (List ℕ)) → AreDistinct (front ++ x ∷ rest) → Contains front x → ⊥
apart [] x rest d c = absurd (omega (arith, c.1))
apart (y ∷ ys) x rest d c = elim (Contains-append_cases (y ∷ []) ys x c) [ inl here ↦ by (Contains-push_cases [] y x here) | inr there ↦ apart ys x rest d.1 there ]
  where
    by : Contains [] x ⊎ (y ≡ x) → ⊥
    by (inl none) = absurd (omega (arith, none.1))
    by (inr same) =
        let behind : Contains (ys ++ x ∷ rest) x = Contains-append_right ys (x ∷ rest) x (Contains-get_or (x ∷ rest) 0 x (omega arith)) in
        d.0 (subst (λ (z : List ℕ). Contains (ys ++ x ∷ rest) z) (sym same) behind)

-- distinct names are placed as they are
with_names-distinct : (front more : List (List ℕ)) → AreDistinct (front ++ more) → with_names front more ≡ front ++ more
with_names-distinct front [] d = sym (append-nil front)
with_names-distinct front (x ∷ more) d =
    let new : has front x ≡ false = has-absent front x (apart front x more d) in
    let next : front ++ x ∷ [] ++ more ≡ front ++ x ∷ more = append_assoc front (x ∷ []) more in
    ap (λ (names : List (List ℕ)). with_names names more) (rw new refl)
    ∙ with_names-distinct (front ++ x ∷ []) more (subst AreDistinct (sym next) d) ∙ next

-- the names of a model's features differ
names_differ : RowsGiveNames → (rows : Rows) → IsSound rows → AreDistinct (feature_names rows)
names_differ law rows sound = subst AreDistinct (sym (law sound.tree rows sound.spelled)) sound.within.distinct

-- so their names are all the names there are, where none was there
pub placed_names : RowsGiveNames → (rows : Rows) → IsSound rows → (names : List (List ℕ)) → names ≡ with_names [] (feature_names rows) → names ≡ feature_names rows
placed_names law rows sound names is = is ∙ with_names-distinct [] (feature_names rows) (names_differ law rows sound)

-- and there are as many of them as features
pub few_names : RowsGiveNames → (rows : Rows) → IsSound rows → (before : List (List ℕ)) → before ≡ [] → length (with_names before (feature_names rows)) ≡ length rows.features
few_names law rows sound before none =
    ap (λ (names : List (List ℕ)). length (with_names names (feature_names rows))) none ∙ ap length (placed_names law rows sound _ refl) ∙ length-map rows.features (λ row. row.name)

-- ---- variables

-- variables each of which has its place as its number, from n on
numbered_from : {A : Type 0} (n : ℕ) (vars : List Var) (elements : List A) → length vars ≡ length elements
    → ((k : ℕ) → k < length vars → slice_get vars k ≡ Some (record { 0 = n + k })) → vars ≡ variables_from n elements
numbered_from n [] [] even each = refl
numbered_from n [] (e ∷ es) even each = absurd (omega arith)
numbered_from n (v ∷ vs) [] even each = absurd (omega arith)
numbered_from n (v ∷ vs) (e ∷ es) even each =
    let first : v ≡ record { 0 = n } = same_Some v _ (each 0 (omega arith)) ∙ ap (λ (m : ℕ). record { 0 = m }) (omega arith) in
    let rest : (k : ℕ) → k < length vs → slice_get vs k ≡ Some (record { 0 = n + 1 + k }) = λ k within.
    each (suc k) (omega arith) ∙ ap (λ (m : ℕ). Some (record { 0 = m })) (omega arith) in
    ap (λ (w : Var). w ∷ vs) first ∙ ap (λ (ws : List Var). record { 0 = n } ∷ ws) (numbered_from (n + 1) vs es (omega arith) rest)

-- so where all do, they stand in the order of the elements
in_order : {A : Type 0} (vars : List Var) (elements : List A) → length vars ≡ length elements
    → ((k : ℕ) → k < length vars → slice_get vars k ≡ Some (record { 0 = k })) → vars ≡ variables_from 0 elements
in_order vars elements even each = numbered_from 0 vars elements even (λ k within. each k within ∙ ap (λ (m : ℕ). Some (record { 0 = m })) (omega arith))

-- variables that have the names of a model's features, which are all names there are, stand in document order
named_in_order : (names : List (List ℕ)) (vars : List Var) → AreDistinct names → AreNamed names vars names → (k : ℕ) → k < length vars → slice_get vars k ≡ Some (record { 0 = k })
named_in_order names vars distinct named k within =
    let w = get_or vars k (record { 0 = k }) in
    let at : slice_get vars k ≡ Some w = slice_get-get_or vars k (record { 0 = k }) within in
    let both : option_map (λ (v : Var). slice_get names v.0) (slice_get vars k) ≡ option_map (λ (name : List ℕ). Some name) (slice_get names k) =
    sym (slice_get-map (λ (v : Var). slice_get names v.0) vars k) ∙ ap (λ (os : List (Option (List ℕ))). slice_get os k) named ∙ slice_get-map (λ (name : List ℕ). Some name) names k in
    at ∙ ap Some (same_variable w (by w (slice_get names k) refl (sym (ap (option_map (λ (v : Var). slice_get names v.0)) at) ∙ both)))
  where
    by : (w : Var) (o : Option (List ℕ)) → slice_get names k ≡ o → Some (slice_get names w.0) ≡ option_map (λ (name : List ℕ). Some name) o → w.0 ≡ k
    by w None here e = absurd (none-some _ (sym e))
    by w (Some name) here e = only_place names distinct name w.0 k (same_Some (slice_get names w.0) (Some name) e) here

    same_variable : (w : Var) → w.0 ≡ k → w ≡ record { 0 = k }
    same_variable w e = ap (λ (n : ℕ). record { 0 = n }) e

-- ---- the cause of a refusal

-- A table in which a model is placed, and which had no variable and no live handle, has them in document order: so what
-- compiling lacks there is told of this order.
pub short_in_order : RowsGiveNames → EnoughIsEnough → (rows : Rows) → IsSound rows → (before t : Table) (none names : List (List ℕ)) (vars : List Var) (refusal : Refusal)
    → before.order ≡ [] → ((n : ℕ) → handles_on before n ≡ 0) → none ≡ [] → names ≡ with_names none (feature_names rows) → AreNamed names vars (feature_names rows)
    → length names ≡ length t.order → AddsVariables before t → IsShortFor t (compile_groups vars rows) refusal → IsCauseFor rows before.budget refusal
short_in_order law bound rows sound before t none names vars OutOfMemory empty idle fresh placed named as_many adds cause = tt
short_in_order law bound rows sound before t none names vars (OverBudget nodes roots) empty idle fresh placed named as_many adds cause =
    let are : names ≡ feature_names rows = placed_names law rows sound names (placed ∙ ap (λ (ns : List (List ℕ)). with_names ns (feature_names rows)) fresh) in
    let count : length names ≡ length rows.features = ap length are ∙ length-map rows.features (λ row. row.name) in
    let start : length before.order ≡ 0 = ap length empty in
    let size : length t.order ≡ length rows.features = sym as_many ∙ count in
    let order : t.order ≡ main_variables rows = in_order t.order rows.features size (λ k within. adds.numbered k (omega arith) within) in
    let own : AreNamed names vars names = subst (λ (ns : List (List ℕ)). AreNamed names vars ns) (sym are) named in
    let differ : AreDistinct names = subst AreDistinct (sym are) (names_differ law rows sound) in
    let even : length vars ≡ length rows.features = sym (length-map vars (λ v. slice_get names v.0)) ∙ ap length own ∙ length-map names (λ name. Some name) ∙ count in
    let map_is : vars ≡ main_variables rows = in_order vars rows.features even (named_in_order names vars differ own) in
    let held : HasHeld t [] = λ n live. let quiet = adds.handles.each n in let zero_live = idle n in absurd (omega arith) in
    let budget : t.budget ≡ before.budget = adds.nodes.budget in
    let short = cause [] held in
    let below : t.budget < enough (length t.order) = bound t.order vars rows t.budget [] sound (omega arith) short in
    let P : List Var → Type 0 = λ o. IsShort o t.budget [] (compile_groups vars rows) in
    let Q : List Var → Type 0 = λ vs. IsShort (main_variables rows) t.budget [] (compile_groups vs rows) in
    let R : ℕ → Type 0 = λ n. IsShort (main_variables rows) n [] (compile_groups (main_variables rows) rows) in
    let E : ℕ → Type 0 = λ n. t.budget < enough n in
    let F : ℕ → Type 0 = λ n. n < enough (length rows.features) in
    record { few = subst F budget (subst E size below); short = subst R budget (subst Q map_is (subst P order short)) }
