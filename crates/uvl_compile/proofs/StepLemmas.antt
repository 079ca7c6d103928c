-- One rule after another, as the groups list them.
use Rattle.std.proofs.Common.{◌≡◌, ℕ, zero, suc, ◌+◌, ◌<◌, true, ◌&&◌, Result, Ok, Err, IfOk, IfErr, get_or, List, [], ◌∷◌, ◌++◌, map, take, length, Some, slice_get, refl, sym, ap, ◌∙◌, subst, inl, inr, arith, append_assoc, append-nil}
use Rattle.std.specs.List.{list_all}
use Rattle.std.proofs.lemmas.List.{take_more}
use Rattle.std.proofs.lemmas.List.Folds.{list_all-append}
use Rattle.std.proofs.lemmas.Option.{slice_get-get_or}
use Rattle.dd_store.specs.declared.row.Var.{Var}
use Rattle.dd_store.specs.declared.refusal.Refusal.{Refusal}
use Rattle.dd_store.specs.Changes.{Keeps}
use Rattle.dd_store.specs.Exhausted.{value_at}
use Rattle.dd_store.specs.Handles.{GainsHandle, KeepsHandles}
use Rattle.dd_store.specs.Size.{Function}
use Rattle.dd_store.specs.Table.{Table, IsLive}
use Rattle.dd_store.proofs.ChangeLemmas.{keeps_then}
use Rattle.dd_store.proofs.CountLemmas.{live_gained}
use Rattle.dd_store.proofs.StayLemmas.{value-kept}
use Rattle.dd_store.proofs.SizeLemmas.{In, in_left, in_right}
use Rattle.uvl_model.specs.declared.rows.FeatureRow.{FeatureRow}
use Rattle.uvl_model.specs.declared.rule.Rule.{Rule}
use Rattle.uvl_model.specs.declared.rule.Rule.TheOpen.{Rule-F}
use Rattle.uvl_model.specs.declared.rule.Rule.TheFolds.{fold-roll-Rule, map-Rule}
use Rattle.uvl_model.specs.declared.rule.Rule.TheViews.{roll-Rule, out-Rule, roll-out-Rule}
use Rattle.uvl_model.specs.Amounts.{IsReadable, rule_is_met}
use Rattle.uvl_model.specs.Rows.{Rows}
use Rattle.uvl_model.specs.Sound.{IsSound}
use Rattle.uvl_model.proofs.RuleSteps.{rule_at, rule_is_readable}
use Rattle.uvl_functions.specs.Cause.{IsShortFor}
use Rattle.uvl_functions.specs.Functions.{model_function, tree_function, rule_function}
use Rattle.uvl_functions.specs.Groups.{compile_groups, tree_groups, rule_groups, rules_groups}
use Rattle.uvl_functions.specs.RuleParts.{Parts, parts_node, parts_of}
use Rattle.uvl_functions.specs.Variables.{marks_under}
use Rattle.uvl_rule.proofs.PartLemmas.{told}
use Rattle.uvl_functions.proofs.ShortLemmas.{IsBeside, AreCovered, cause-again, cause-behind, cause-covered}
use Rattle.uvl_compile.specs.Conditions.{both}
use Rattle.uvl_compile.specs.Steps.{step_groups}
use Rattle.uvl_compile.proofs.Marked.{and-assoc, and-swap}

-- no rule
pub model-none : (vars : List Var) (rows : Rows) → tree_function vars rows.groups ≡ model_function vars rows []
model-none vars rows = λ j a. and-swap true (tree_function vars rows.groups a) j

-- a rule more
pub model-push : (vars : List Var) (rows : Rows) (rules : List Rule) (rule : Rule)
    → both (model_function vars rows rules) (rule_function vars rows.features rule) ≡ model_function vars rows (rules ++ rule ∷ [])
model-push vars rows rules rule = λ j a.
    (sym (and-assoc (tree_function vars rows.groups a) (list_all (rule_is_met rows.features (marks_under vars a)) rules) (rule_is_met rows.features (marks_under vars a) rule))
    ∙ ap (λ b. tree_function vars rows.groups a && (list_all (rule_is_met rows.features (marks_under vars a)) rules && b)) (and-swap true (rule_is_met rows.features (marks_under vars a) rule))
    ∙ ap (λ b. tree_function vars rows.groups a && b) (sym (list_all-append (rule_is_met rows.features (marks_under vars a)) rules (rule ∷ [])))) j

-- the groups of a step, where what is held is what the rules in front say
step-is : (vars : List Var) (rows : Rows) (front : List Rule) (rule : Rule)
    → step_groups vars rows.features (model_function vars rows front) rule
    ≡ map (λ group. group ++ model_function vars rows front ∷ model_function vars rows (front ++ rule ∷ []) ∷ []) (rule_groups vars rows.features rule)
step-is vars rows front rule =
    ap (λ (f : Function). map (λ group. group ++ model_function vars rows front ∷ f ∷ []) (rule_groups vars rows.features rule)) (model-push vars rows front rule)

-- they are among those of all rules
step-in : (vars : List Var) (rows : Rows) (front rules : List Rule) (j : ℕ) (rule : Rule) → slice_get rules j ≡ Some rule → (group : List Function)
    → In group (step_groups vars rows.features (model_function vars rows (front ++ take j rules)) rule) → In group (rules_groups vars rows front rules)
step-in vars rows front [] j rule is group there = cc
step-in vars rows front (first ∷ rules) zero rule is group there =
    let same : first ≡ rule = cc in
    let none : front ++ [] ≡ front = append-nil front in
    let here = subst (λ (rs : List Rule). In group (step_groups vars rows.features (model_function vars rows rs) rule)) none there in
    let own = subst (λ (r : Rule). In group (step_groups vars rows.features (model_function vars rows front) r)) (sym same) here in
    in_left group (map (λ g. g ++ model_function vars rows front ∷ model_function vars rows (front ++ first ∷ []) ∷ []) (rule_groups vars rows.features first))
    (rules_groups vars rows (front ++ first ∷ []) rules)
    (subst (λ (gs : List (List Function)). In group gs) (step-is vars rows front first) own)
step-in vars rows front (first ∷ rules) (suc j) rule is group there =
    let assoc = sym (append_assoc front (first ∷ []) (take j rules)) in
    let later = subst (λ (rs : List Rule). In group (step_groups vars rows.features (model_function vars rows rs) rule)) assoc there in
    in_right group (map (λ g. g ++ model_function vars rows front ∷ model_function vars rows (front ++ first ∷ []) ∷ []) (rule_groups vars rows.features first))
    (rules_groups vars rows (front ++ first ∷ []) rules)
    (step-in vars rows (front ++ first ∷ []) rules j rule is group later)

-- what is held is in each group of the step
held-in : (f h : Function) (gs : List (List Function)) (group : List Function) → In group (map (λ g. g ++ f ∷ h ∷ []) gs) → In f group × In h group
held-in f h [] group is = absurd is
held-in f h (g ∷ gs) group (inl same) =
    (subst (λ (k : List Function). In f k) same (in_right f g (f ∷ h ∷ []) (inl refl)), subst (λ (k : List Function). In h k) same (in_right h g (f ∷ h ∷ []) (inr (inl refl))))
held-in f h (g ∷ gs) group (inr rest) = held-in f h gs group rest

-- a refusal of the tree
pub cause-tree : (t : Table) (vars : List Var) (rows : Rows) (r : Refusal) → IsShortFor t (tree_groups vars rows) r → IsShortFor t (compile_groups vars rows) r
cause-tree t vars rows r =
    cause-covered t (tree_groups vars rows) (compile_groups vars rows) r
    (λ held group is. (group, in_left group (tree_groups vars rows) (rules_groups vars rows [] rows.rules) is, (λ f h. inl h), (λ f h. inr (inr (inl h)))))

-- a refusal of a step, behind the handle of what is held
pub cause-step : (t u : Table) (h : ℕ) (vars : List Var) (rows : Rows) (j : ℕ) (rule : Rule) (r : Refusal) → Keeps t u → GainsHandle t u h
    → slice_get rows.rules j ≡ Some rule → value_at u h ≡ model_function vars rows (take j rows.rules)
    → IsShortFor u (step_groups vars rows.features (value_at u h) rule) r → IsShortFor t (compile_groups vars rows) r
cause-step t u h vars rows j rule r keeps gain at value =
    cause-behind t u h (step_groups vars rows.features (value_at u h) rule) (compile_groups vars rows) r keeps gain covered
  where
    covered : (held : List Function) → AreCovered t.order (value_at u h ∷ held) held (step_groups vars rows.features (value_at u h) rule) (compile_groups vars rows)
    covered held group is =
        let among = step-in vars rows [] rows.rules j rule at group (subst (λ (f : Function). In group (step_groups vars rows.features f rule)) value is) in
        let both-in = held-in (value_at u h) (both (value_at u h) (rule_function vars rows.features rule)) (rule_groups vars rows.features rule) group is in
        (group, in_right group (tree_groups vars rows) (rules_groups vars rows [] rows.rules) among, first held group both-in.0, (λ f i. inr (inr (inl i))))
      where
        first : (held group : List Function) → In (value_at u h) group → (f : Function) → In f (value_at u h ∷ held) → IsBeside t.order held group f
        first held group there f (inl same) = inr (inr (inl (subst (λ (g : Function). In g group) same there)))
        first held group there f (inr i) = inl i

-- the meet of what is held and what was made, by what was held before
pub meet-is : (t u : Table) (n m : ℕ) (g : Function) → Keeps t u → IsLive t n → IsLive u n → value_at u m ≡ g
    → both (value_at u n) (value_at u m) ≡ both (value_at t n) g
meet-is t u n m g keeps before after made =
    ap (λ (f : Function). both f (value_at u m)) (value-kept t u keeps n before after) ∙ ap (λ (h : Function). both (value_at t n) h) made

pub meet-value : (t u v : Table) (n m : ℕ) (g : Function) (result : Result ℕ Refusal) → Keeps t u → GainsHandle t u m → IsLive t n → value_at u m ≡ g
    → IfOk result (λ h. value_at v h ≡ both (value_at u n) (value_at u m)) → IfOk result (λ h. value_at v h ≡ both (value_at t n) g)
meet-value t u v n m g (Ok h) keeps gain live made value = value ∙ meet-is t u n m g keeps live (live_gained gain n live) made
meet-value t u v n m g (Err r) keeps gain live made value = tt

-- a rule has a group of its own, which has it
module _ (vars : List Var) (features : List FeatureRow) where
  abbrev HasOwn : Rule → Type 0
  HasOwn rule = (group : List Function) × In group (rule_groups vars features rule) × In (parts_of vars features rule).whole group

  parts : (x : Rule-F Rule) → parts_of vars features (roll-Rule x) ≡ parts_node vars features (map-Rule Rule Parts (parts_of vars features) x)
  parts = fold-roll-Rule Parts (parts_node vars features)

  first : (x : Rule-F Rule) (p : Parts) → parts_of vars features (roll-Rule x) ≡ p → (group : List Function) (rest : List (List Function))
      → p.groups [] ≡ group ∷ rest → In p.whole group → HasOwn (roll-Rule x)
  first x p is group rest groups there = (
    group,
    subst (λ (q : Parts). In group (q.groups [])) (sym is) (subst (λ (gs : List (List Function)). In group gs) (sym groups) (inl refl)),
    subst (λ (q : Parts). In q.whole group) (sym is) there,
  )

  own-node : (x : Rule-F Rule) → HasOwn (roll-Rule x)
  own-node (Rule-F.Feature f) = first (Rule-F.Feature f) _ (parts (Rule-F.Feature f)) _ _ refl (inl refl)
  own-node (Rule-F.Not p) = first (Rule-F.Not p) _ (parts (Rule-F.Not p)) _ _ refl (inl refl)
  own-node (Rule-F.And l r) = first (Rule-F.And l r) _ (parts (Rule-F.And l r)) _ _ refl (inl refl)
  own-node (Rule-F.Or l r) = first (Rule-F.Or l r) _ (parts (Rule-F.Or l r)) _ _ refl (inl refl)
  own-node (Rule-F.Implies l r) = first (Rule-F.Implies l r) _ (parts (Rule-F.Implies l r)) _ _ refl (inl refl)
  own-node (Rule-F.Iff l r) = first (Rule-F.Iff l r) _ (parts (Rule-F.Iff l r)) _ _ refl (inl refl)
  own-node (Rule-F.Compare how l r) = first (Rule-F.Compare how l r) _ (parts (Rule-F.Compare how l r)) _ _ refl (inl refl)

  pub own-group : (rule : Rule) → (group : List Function) × In group (rule_groups vars features rule) × In (rule_function vars features rule) group
  own-group rule =
      let open-rule = roll-out-Rule rule in
      let (group, there, own) = subst (λ (r : Rule). HasOwn r) open-rule (own-node (out-Rule rule)) in
      (group, there, subst (λ (f : Function). In f group) (told vars features rule) own)

-- a group of the rule is within one of the step
in-step : (f h : Function) (gs : List (List Function)) (group : List Function) → In group gs → In (group ++ f ∷ h ∷ []) (map (λ g. g ++ f ∷ h ∷ []) gs)
in-step f h [] group is = absurd is
in-step f h (g ∷ gs) group (inl same) = inl (ap (λ (k : List Function). k ++ f ∷ h ∷ []) same)
in-step f h (g ∷ gs) group (inr rest) = inr (in-step f h gs group rest)

-- a refusal of the rule
pub cause-rule : (t : Table) (vars : List Var) (features : List FeatureRow) (f : Function) (rule : Rule) (r : Refusal) → IsShortFor t (rule_groups vars features rule) r → IsShortFor t (step_groups vars features f rule) r
cause-rule t vars features f rule r =
    cause-covered t (rule_groups vars features rule) (step_groups vars features f rule) r
    (λ held group is. (
      group ++ f ∷ both f (rule_function vars features rule) ∷ [],
      in-step f (both f (rule_function vars features rule)) (rule_groups vars features rule) group is,
      (λ g h. inl h),
      (λ g h. inr (inr (inl (in_left g group (f ∷ both f (rule_function vars features rule) ∷ []) h)))),
    ))

-- a refusal of the meet
module _ (t u : Table) (n m : ℕ) (vars : List Var) (features : List FeatureRow) (rule : Rule) (keeps : Keeps t u) (gain : GainsHandle t u m) (live : IsLive t n)
    (made : value_at u m ≡ rule_function vars features rule) where
  whole : Function
  whole = both (value_at t n) (rule_function vars features rule)

  meet-covered : (held : List Function)
      → AreCovered t.order (value_at u m ∷ held) held ((both (value_at u n) (value_at u m) ∷ []) ∷ []) (step_groups vars features (value_at t n) rule)
  meet-covered held group (inr never) = absurd never
  meet-covered held group (inl same) =
      let (own, there, has) = own-group vars features rule in
      let larger = own ++ value_at t n ∷ both (value_at t n) (rule_function vars features rule) ∷ [] in (
        larger,
        in-step (value_at t n) (both (value_at t n) (rule_function vars features rule)) (rule_groups vars features rule) own there,
        first-in held own has,
        λ f is. inr (inr (inl (asked-in own f (subst (λ (k : List Function). In f k) (sym same) is)))),
      )
    where
      first-in : (held own : List Function) → In (rule_function vars features rule) own → (f : Function) → In f (value_at u m ∷ held)
          → IsBeside t.order held (own ++ value_at t n ∷ both (value_at t n) (rule_function vars features rule) ∷ []) f
      first-in held own has f (inl is) =
          inr (inr (inl (in_left f own (value_at t n ∷ both (value_at t n) (rule_function vars features rule) ∷ []) (subst (λ (g : Function). In g own) (sym made ∙ is) has))))
      first-in held own has f (inr i) = inl i

      asked-in : (own : List Function) (f : Function) → In f (both (value_at u n) (value_at u m) ∷ [])
          → In f (own ++ value_at t n ∷ both (value_at t n) (rule_function vars features rule) ∷ [])
      asked-in own f (inr never) = absurd never
      asked-in own f (inl is) =
          in_right f own (value_at t n ∷ both (value_at t n) (rule_function vars features rule) ∷ [])
          (inr (inl (sym (meet-is t u n m (rule_function vars features rule) keeps live (live_gained gain n live) made) ∙ is)))

  pub cause-meet : (result : Result ℕ Refusal) → IfErr result (IsShortFor u ((both (value_at u n) (value_at u m) ∷ []) ∷ []))
      → IfErr result (IsShortFor t (step_groups vars features (value_at t n) rule))
  cause-meet (Ok h) cause = tt
  cause-meet (Err r) cause =
      cause-behind t u m ((both (value_at u n) (value_at u m) ∷ []) ∷ []) (step_groups vars features (value_at t n) rule) r keeps gain meet-covered cause

-- the rule with a number
pub rule-of : (now rules : List Rule) → now ≡ rules → (k : ℕ) (rule : Rule) → rule ≡ get_or now k rule → k < length now → slice_get rules k ≡ Some rule
rule-of now rules shown k rule is within =
    subst (λ (rs : List Rule). slice_get rs k ≡ Some rule) shown (slice_get-get_or now k rule within ∙ ap Some (sym is))

-- the rules up to it and with it
pub rules-more : (now rules : List Rule) → now ≡ rules → (k : ℕ) (rule : Rule) → rule ≡ get_or now k rule → k < length now → take (k + 1) rules ≡ take k rules ++ rule ∷ []
rules-more now rules shown k rule is within =
    subst (λ (rs : List Rule). take (k + 1) rs ≡ take k rs ++ rule ∷ []) shown
    (take_more now k rule within ∙ ap (λ (r : Rule). take k now ++ r ∷ []) (sym is))

-- a refusal before handles alone changed, or after nothing did
pub cause-same : (t u : Table) (groups : List (List Function)) (r : Refusal) → Keeps t u → KeepsHandles t u → IsShortFor u groups r → IsShortFor t groups r
cause-same t u groups r keeps same = cause-again t u groups r keeps (λ n live. let each = same.each n in omega arith)

pub keeps-same : (s t u : Table) → Keeps s t → KeepsHandles s t → Keeps t u → Keeps s u
keeps-same s t u one same two = keeps_then one two (λ n before after. let each = same.each n in omega arith)

-- the numbers of a model's rules are ones that a model may have
pub rule-readable : (rows : Rows) (now : List Rule) → now ≡ rows.rules → IsSound rows → (k : ℕ) (rule : Rule) → rule ≡ get_or now k rule → k < length now
    → IsReadable rows rule
rule-readable rows now shown sound k rule is within =
    let at = subst (λ (rs : List Rule). rule ≡ get_or rs k rule) shown is in
    let less = ap length shown in
    rule_is_readable rows rule (rule_at rows rows.rules sound.rules k rule (omega arith) at)
