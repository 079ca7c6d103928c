-- Conditions that are met one after another.
use Rattle.std.proofs.Common.{◌≡◌, ℕ, zero, suc, ◌+◌, ◌-◌, ◌<◌, ◌≤◌, Bool, true, false, ◌&&◌, if◌then◌else◌, Some, List, [], ◌∷◌, ◌++◌, map, length, get_or, set, slice_get, refl, sym, ap, ◌∙◌, subst, arith, length-append}
use Rattle.std.specs.List.{All, list_all}
use Rattle.std.proofs.lemmas.Bool.{and_parts}
use Rattle.std.proofs.lemmas.List.{length-map}
use Rattle.std.proofs.lemmas.List.Elements.{All-head, All-tail}
use Rattle.dd_store.specs.declared.row.Var.{Var}
use Rattle.dd_store.specs.Size.{Function}
use Rattle.uvl_model.specs.declared.rows.FeatureRow.{FeatureRow}
use Rattle.uvl_model.specs.declared.rows.GroupRow.{GroupRow}
use Rattle.uvl_model.specs.declared.rule.Rule.{Rule}
use Rattle.uvl_model.specs.Amounts.{rule_is_met}
use Rattle.uvl_model.specs.Check.{group_holds}
use Rattle.uvl_model.specs.Rows.{Rows}
use Rattle.uvl_functions.specs.Functions.{group_function, rule_function, root_function, model_function}
use Rattle.uvl_functions.specs.Variables.{marks_under}
use Rattle.uvl_compile.specs.Conditions.{conditions, condition_at, marked_hold, so_far, both}

pub and-assoc : (p q r : Bool) → (p && (q && r)) ≡ ((p && q) && r)
and-assoc true q r = refl
and-assoc false q r = refl

pub and-swap : (p q : Bool) → (p && q) ≡ (q && p)
and-swap true true = refl
and-swap true false = refl
and-swap false true = refl
and-swap false false = refl

pub both-assoc : (f g h : Function) → both f (both g h) ≡ both (both f g) h
both-assoc f g h = λ j a. and-assoc (f a) (g a) (h a) j

-- no mark
pub marked-none : (fs : List Function) (marks : List Bool) → All (λ mark. mark ≡ false) marks → (a : ℕ → Bool) → marked_hold fs marks a ≡ true
marked-none [] marks none a = refl
marked-none (f ∷ fs) [] none a = refl
marked-none (f ∷ fs) (mark ∷ marks) none a =
    let first : mark ≡ false = All-head (λ (m : Bool). m ≡ false) mark marks none in
    let rest = marked-none fs marks (All-tail (λ (m : Bool). m ≡ false) mark marks none) a in
    rw (first, rest) refl

-- one mark more
pub marked-set : (fs : List Function) (marks : List Bool) (k : ℕ) → k < length fs → k < length marks → get_or marks k true ≡ false
    → (a : ℕ → Bool) → marked_hold fs (set marks k true) a ≡ (marked_hold fs marks a && get_or fs k (λ x. true) a)
marked-set [] marks k is less none a = absurd (omega arith)
marked-set (g ∷ fs) [] k is less none a = absurd (omega arith)
marked-set (g ∷ fs) (mark ∷ marks) zero is less none a =
    let first : mark ≡ false = none in
    rw first (and-swap (g a) (marked_hold fs marks a))
marked-set (g ∷ fs) (mark ∷ marks) (suc k) is less none a =
    let rest = marked-set fs marks k (omega arith) (omega arith) none a in
    rw rest (and-assoc (if mark then g a else true) (marked_hold fs marks a) (get_or fs k (λ x. true) a))

-- all marks
pub marked-all : (fs : List Function) (marks : List Bool) → length marks ≡ length fs → list_all (λ mark. mark) marks ≡ true
    → (a : ℕ → Bool) → marked_hold fs marks a ≡ list_all (λ f. f a) fs
marked-all [] marks count all a = refl
marked-all (f ∷ fs) [] count all a = absurd (omega arith)
marked-all (f ∷ fs) (mark ∷ marks) count all a =
    let parts = and_parts mark (list_all (λ m. m) marks) all in
    let first : mark ≡ true = parts.0 in
    let rest = marked-all fs marks (omega arith) parts.1 a in
    rw (first, rest) refl

rules-all : (vars : List Var) (features : List FeatureRow) (rules : List Rule) (a : ℕ → Bool)
    → list_all (λ f. f a) (map (rule_function vars features) rules) ≡ list_all (rule_is_met features (marks_under vars a)) rules
rules-all vars features [] a = refl
rules-all vars features (rule ∷ rules) a = ap (λ b. rule_is_met features (marks_under vars a) rule && b) (rules-all vars features rules a)

groups-all : (vars : List Var) (features : List FeatureRow) (groups : List GroupRow) (rules : List Rule) (a : ℕ → Bool)
    → list_all (λ f. f a) (map (group_function vars) groups ++ map (rule_function vars features) rules)
    ≡ (list_all (group_holds (marks_under vars a)) groups && list_all (rule_is_met features (marks_under vars a)) rules)
groups-all vars features [] rules a = rules-all vars features rules a
groups-all vars features (group ∷ groups) rules a =
    ap (λ b. group_holds (marks_under vars a) group && b) (groups-all vars features groups rules a)
    ∙ and-assoc (group_holds (marks_under vars a) group) (list_all (group_holds (marks_under vars a)) groups) (list_all (rule_is_met features (marks_under vars a)) rules)

-- where nothing is met the root alone is chosen
pub nothing-met : (vars : List Var) (rows : Rows) (marks : List Bool) → All (λ mark. mark ≡ false) marks → root_function vars ≡ so_far vars rows marks
nothing-met vars rows marks none = λ j a.
    (and-swap true (root_function vars a) ∙ ap (λ b. root_function vars a && b) (sym (marked-none (conditions vars rows) marks none a))) j

-- one condition more
pub one-more : (vars : List Var) (rows : Rows) (marks : List Bool) (k : ℕ) → length marks ≡ length (conditions vars rows) → k < length marks
    → get_or marks k true ≡ false → both (so_far vars rows marks) (condition_at vars rows k) ≡ so_far vars rows (set marks k true)
one-more vars rows marks k count less none = λ j a.
    (sym (and-assoc (root_function vars a) (marked_hold (conditions vars rows) marks a) (condition_at vars rows k a))
    ∙ ap (λ b. root_function vars a && b) (sym (marked-set (conditions vars rows) marks k (omega arith) less none a))) j

-- all of them
pub all-met : (vars : List Var) (rows : Rows) (marks : List Bool) → length marks ≡ length (conditions vars rows) → list_all (λ mark. mark) marks ≡ true
    → so_far vars rows marks ≡ model_function vars rows rows.rules
all-met vars rows marks count all = λ j a.
    (ap (λ b. root_function vars a && b) (marked-all (conditions vars rows) marks count all a ∙ groups-all vars rows.features rows.groups rows.rules a)
    ∙ and-assoc (root_function vars a) (list_all (group_holds (marks_under vars a)) rows.groups) (list_all (rule_is_met rows.features (marks_under vars a)) rows.rules)) j

-- how many there are
pub conditions-count : (vars : List Var) (rows : Rows) → length (conditions vars rows) ≡ length rows.groups + length rows.rules
conditions-count vars rows =
    let all = length-append (map (group_function vars) rows.groups) (map (rule_function vars rows.features) rows.rules) in
    let one = length-map rows.groups (group_function vars) in
    let two = length-map rows.rules (rule_function vars rows.features) in
    omega arith

-- the group with a number, and the rule behind the groups
pub group-at : (vars : List Var) (rows : Rows) (k : ℕ) (group : GroupRow) → slice_get rows.groups k ≡ Some group → group_function vars group ≡ condition_at vars rows k
group-at vars rows k group is = go rows.groups k is
  where
    go : (groups : List GroupRow) (n : ℕ) → slice_get groups n ≡ Some group
        → group_function vars group ≡ get_or (map (group_function vars) groups ++ map (rule_function vars rows.features) rows.rules) n (λ a. true)
    go [] n at = cc
    go (g ∷ groups) zero at = let same : g ≡ group = cc in ap (group_function vars) (sym same)
    go (g ∷ groups) (suc n) at = go groups n at

rule-from : (vars : List Var) (features : List FeatureRow) (rules : List Rule) (k : ℕ) (rule : Rule) → rule ≡ get_or rules k rule → k < length rules
    → rule_function vars features rule ≡ get_or (map (rule_function vars features) rules) k (λ a. true)
rule-from vars features [] k rule is less = absurd (omega arith)
rule-from vars features (r ∷ rules) zero rule is less = ap (rule_function vars features) is
rule-from vars features (r ∷ rules) (suc k) rule is less = rule-from vars features rules k rule is (omega arith)

pub rule-at : (vars : List Var) (rows : Rows) (k : ℕ) (rule : Rule) → length rows.groups ≤ k → k - length rows.groups < length rows.rules
    → rule ≡ get_or rows.rules (k - length rows.groups) rule → rule_function vars rows.features rule ≡ condition_at vars rows k
rule-at vars rows k rule behind less is = go rows.groups k behind less is
  where
    go : (groups : List GroupRow) (n : ℕ) → length groups ≤ n → n - length groups < length rows.rules → rule ≡ get_or rows.rules (n - length groups) rule
        → rule_function vars rows.features rule ≡ get_or (map (group_function vars) groups ++ map (rule_function vars rows.features) rows.rules) n (λ a. true)
    go [] n most within at =
        let same : n - 0 ≡ n = omega arith in
        rule-from vars rows.features rows.rules n rule (subst (λ (m : ℕ). rule ≡ get_or rows.rules m rule) same at) (omega arith)
    go (g ∷ groups) zero most within at = absurd (omega arith)
    go (g ∷ groups) (suc n) most within at =
        let same : suc n - suc (length groups) ≡ n - length groups = omega arith in
        go groups n (omega arith) (omega arith) (subst (λ (m : ℕ). rule ≡ get_or rows.rules m rule) same at)

-- the root's variable tells whether the root is chosen
pub root-is : (vars : List Var) (v : Var) → slice_get vars 0 ≡ Some v → (a : ℕ → Bool) → a v.0 ≡ root_function vars a
root-is [] v is a = cc
root-is (w ∷ vars) v is a = let same : w ≡ v = cc in ap (λ (u : Var). a u.0) (sym same)

pub rule-shown : (vars : List Var) (rows : Rows) (groups : List GroupRow) (rules : List Rule) → groups ≡ rows.groups → rules ≡ rows.rules → (k : ℕ) (rule : Rule)
    → length groups ≤ k → k < length (conditions vars rows) → rule ≡ get_or rules (k - length groups) rule → rule_function vars rows.features rule ≡ condition_at vars rows k
rule-shown vars rows groups rules shown_groups shown_rules k rule behind less is =
    let count = conditions-count vars rows in
    let same = ap length shown_groups in
    let at = subst (λ (gs : List GroupRow). rule ≡ get_or rules (k - length gs) rule) shown_groups is in
    rule-at vars rows k rule (omega arith) (omega arith) (subst (λ (rs : List Rule). rule ≡ get_or rs (k - length rows.groups) rule) shown_rules at)

-- what stands within a list doesn't depend on the default
pub other-default : (marks : List Bool) (k : ℕ) (d e : Bool) → k < length marks → get_or marks k d ≡ get_or marks k e
other-default [] k d e less = absurd (omega arith)
other-default (mark ∷ marks) zero d e less = refl
other-default (mark ∷ marks) (suc k) d e less = other-default marks k d e (omega arith)
