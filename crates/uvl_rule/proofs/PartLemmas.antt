-- The groups of a rule's subrules, beside functions that are held.
use Rattle.std.proofs.Common.{◌≡◌, ◌⊎◌, ℕ, Bool, List, [], ◌∷◌, ◌++◌, map, Some, Result, Ok, Err, IfErr, refl, ap, sym, ◌∙◌, subst, inl, inr}
use Rattle.dd_store.specs.declared.refusal.Refusal.{Refusal}
use Rattle.dd_store.specs.declared.row.Var.{Var}
use Rattle.dd_store.specs.Table.{Table}
use Rattle.uvl_model.specs.declared.rows.FeatureNo.{FeatureNo}
use Rattle.uvl_model.specs.declared.rule.Rule.TheVariants as rule
use Rattle.uvl_functions.specs.Cause.{IsShortFor}
use Rattle.dd_store.specs.Size.{Function}
use Rattle.dd_store.proofs.SizeLemmas.{In, in_left, in_right, in_parts}
use Rattle.uvl_model.specs.declared.rows.FeatureRow.{FeatureRow}
use Rattle.uvl_model.specs.declared.rule.Cmp.{Cmp}
use Rattle.uvl_model.specs.declared.rule.Number.{Number}
use Rattle.uvl_model.specs.declared.rule.Rule.{Rule}
use Rattle.uvl_model.specs.declared.rule.Rule.TheOpen.{Rule-F}
use Rattle.uvl_model.specs.declared.rule.Rule.TheFolds.{fold-roll-Rule, ind-Rule, map-Rule}
use Rattle.uvl_model.specs.declared.rule.Rule.TheViews.{roll-Rule, out-Rule, roll-out-Rule}
use Rattle.uvl_model.specs.Amounts.{met_node, rule_is_met}
use Rattle.uvl_functions.specs.Functions.{comparison_function, rule_function}
use Rattle.uvl_functions.specs.Groups.{rule_groups}
use Rattle.uvl_functions.specs.RuleParts.{Parts, group_of, operator, opposite, parts_node, parts_of}
use Rattle.uvl_functions.specs.Variables.{marks_under}
use Rattle.uvl_rule.specs.declared.connective.Connective.{Connective}
use Rattle.uvl_rule.specs.declared.connective.Connective.TheVariants.{And, Or, Implies, Iff}
use Rattle.uvl_rule.specs.Connectives.{connection, connection_group}
use Rattle.uvl_rule.specs.Spine.{IsSpine, left_node, left_operand, above_node, groups_above, groups_beside}
use Rattle.uvl_functions.proofs.ShortLemmas.{AreCovered, IsCovered, IsBeside, cause-covered}

module _ (vars : List Var) (features : List FeatureRow) where
  parts : (x : Rule-F Rule) → parts_of vars features (roll-Rule x) ≡ parts_node vars features (map-Rule Rule Parts (parts_of vars features) x)
  parts = fold-roll-Rule Parts (parts_node vars features)

  -- a node as a function, by its operands
  pub function-of : (x : Rule-F Rule)
      → rule_function vars features (roll-Rule x) ≡ (λ a. met_node features (marks_under vars a) (map-Rule Rule Bool (rule_is_met features (marks_under vars a)) x))
  function-of x = λ i a. fold-roll-Rule Bool (met_node features (marks_under vars a)) x i

  abbrev Told : Rule → Type 0
  Told rule = (parts_of vars features rule).whole ≡ rule_function vars features rule

  abbrev ToldRule : Type 0
  ToldRule = (rule : Rule) × Told rule

  whole : (x : Rule-F Rule) → (parts_of vars features (roll-Rule x)).whole ≡ (parts_node vars features (map-Rule Rule Parts (parts_of vars features) x)).whole
  whole x = ap (λ (p : Parts). p.whole) (parts x)

  joined : (c : Connective) (l r : ToldRule)
      → (connection c (parts_of vars features l.0).whole (parts_of vars features r.0).whole) ≡ (connection c (rule_function vars features l.0) (rule_function vars features r.0))
  joined c l r = ap (λ (f : Function). connection c f (parts_of vars features r.0).whole) l.1 ∙ ap (λ (f : Function). connection c (rule_function vars features l.0) f) r.1

  told-node : (y : Rule-F ToldRule) → Told (roll-Rule (map-Rule ToldRule Rule (λ e. e.0) y))
  told-node (Rule-F.Feature f) = whole (Rule-F.Feature f) ∙ sym (function-of (Rule-F.Feature f))
  told-node (Rule-F.Not p) = whole (Rule-F.Not p.0) ∙ ap opposite p.1 ∙ sym (function-of (Rule-F.Not p.0))
  told-node (Rule-F.And l r) = whole (Rule-F.And l.0 r.0) ∙ joined And l r ∙ sym (function-of (Rule-F.And l.0 r.0))
  told-node (Rule-F.Or l r) = whole (Rule-F.Or l.0 r.0) ∙ joined Or l r ∙ sym (function-of (Rule-F.Or l.0 r.0))
  told-node (Rule-F.Implies l r) = whole (Rule-F.Implies l.0 r.0) ∙ joined Implies l r ∙ sym (function-of (Rule-F.Implies l.0 r.0))
  told-node (Rule-F.Iff l r) = whole (Rule-F.Iff l.0 r.0) ∙ joined Iff l r ∙ sym (function-of (Rule-F.Iff l.0 r.0))
  told-node (Rule-F.Compare how l r) = whole (Rule-F.Compare how l r) ∙ sym (function-of (Rule-F.Compare how l r))

  -- the function of a rule's parts is the rule's
  pub told : (rule : Rule) → Told rule
  told = ind-Rule Told (λ x y is. subst (λ (z : Rule-F Rule). Told (roll-Rule z)) is (told-node y))

  -- where functions move from what is held to what stands beside a rule
  abbrev Moves : List Function → List Function → List Function → List Function → Type 0
  Moves held held' beside beside' =
      ((f : Function) → In f held → In f held' ⊎ In f beside') × ((f : Function) → In f beside → In f held' ⊎ In f beside')

  abbrev Moved : Rule → Type 0
  Moved rule = (order : List Var) (held held' beside beside' : List Function) → Moves held held' beside beside'
      → AreCovered order held held' ((parts_of vars features rule).groups beside) ((parts_of vars features rule).groups beside')

  abbrev MovedRule : Type 0
  MovedRule = (rule : Rule) × Moved rule

  -- what stands beside a group's own functions
  beside-own : (order : List Var) (held' beside' : List Function) (w : Function) (operands : List Function) (f : Function)
      → In f held' ⊎ In f beside' → IsBeside order held' (group_of w operands beside') f
  beside-own order held' beside' w operands f (inl h) = inl h
  beside-own order held' beside' w operands f (inr b) =
      inr (inr (inl (in_right f (w ∷ operands) (map opposite (w ∷ operands) ++ beside') (in_right f (map opposite (w ∷ operands)) beside' b))))

  own-covered : (order : List Var) (held held' beside beside' : List Function) (w : Function) (operands : List Function) (rest : List (List Function))
      → Moves held held' beside beside' → IsCovered order held held' (group_of w operands beside' ∷ rest) (group_of w operands beside)
  own-covered order held held' beside beside' w operands rest moves =
      (group_of w operands beside', inl refl, λ f i. beside-own order held' beside' w operands f (moves.0 f i), second)
    where
      second : (f : Function) → In f (group_of w operands beside) → IsBeside order held' (group_of w operands beside') f
      second f i = elim (in_parts f (w ∷ operands) (map opposite (w ∷ operands) ++ beside) i) [
        | inl front ↦ inr (inr (inl (in_left f (w ∷ operands) (map opposite (w ∷ operands) ++ beside') front)))
        | inr back ↦ elim (in_parts f (map opposite (w ∷ operands)) beside back) [
          | inl opp ↦ inr (inr (inl (in_right f (w ∷ operands) (map opposite (w ∷ operands) ++ beside') (in_left f (map opposite (w ∷ operands)) beside' opp))))
          | inr b ↦ beside-own order held' beside' w operands f (moves.1 f b)
        ]
      ]

  -- a first group and others
  covered-cons : (order : List Var) (held held' : List Function) (g : List Function) (gs hs : List (List Function)) → IsCovered order held held' hs g
      → AreCovered order held held' gs hs → AreCovered order held held' (g ∷ gs) hs
  covered-cons order held held' g gs hs one others h (inl is) = subst (λ (k : List Function). IsCovered order held held' hs k) is one
  covered-cons order held held' g gs hs one others h (inr i) = others h i

  covered-none : (order : List Var) (held held' : List Function) (hs : List (List Function)) → AreCovered order held held' [] hs
  covered-none order held held' hs h none = absurd none

  covered-append : (order : List Var) (held held' : List Function) (fs gs hs : List (List Function)) → AreCovered order held held' fs hs
      → AreCovered order held held' gs hs → AreCovered order held held' (fs ++ gs) hs
  covered-append order held held' fs gs hs one two h i = elim (in_parts h fs gs i) [
    | inl front ↦ one h front
    | inr back ↦ two h back
  ]

  -- among more groups
  covered-more : (order : List Var) (held held' : List Function) (gs hs ks : List (List Function)) → ((g : List Function) → In g hs → In g ks)
      → AreCovered order held held' gs hs → AreCovered order held held' gs ks
  covered-more order held held' gs hs ks more covered g i =
      let c = covered g i in (c.0, more c.0 c.1, c.2, c.3)

  moved-both : (w : Function) (l r : MovedRule) (order : List Var) (held held' beside beside' : List Function) → Moves held held' beside beside'
      → AreCovered order held held' ((operator w (parts_of vars features l.0) (parts_of vars features r.0)).groups beside) ((operator w (parts_of vars features l.0) (parts_of vars features r.0)).groups beside')
  moved-both w l r order held held' beside beside' moves =
      let lw = (parts_of vars features l.0).whole in
      let rw' = (parts_of vars features r.0).whole in
      let ops = lw ∷ rw' ∷ [] in
      let lefts = (parts_of vars features l.0).groups beside' in
      let rights = (parts_of vars features r.0).groups (lw ∷ beside') in
      let all = group_of w ops beside' ∷ (lefts ++ rights) in
      covered-cons order held held' (group_of w ops beside) ((parts_of vars features l.0).groups beside ++ (parts_of vars features r.0).groups (lw ∷ beside)) all
      (own-covered order held held' beside beside' w ops (lefts ++ rights) moves)
      (covered-append order held held' ((parts_of vars features l.0).groups beside) ((parts_of vars features r.0).groups (lw ∷ beside)) all
      (covered-more order held held' ((parts_of vars features l.0).groups beside) lefts all (λ g i. inr (in_left g lefts rights i)) (l.1 order held held' beside beside' moves))
      (covered-more order held held' ((parts_of vars features r.0).groups (lw ∷ beside)) rights all (λ g i. inr (in_right g lefts rights i))
      (r.1 order held held' (lw ∷ beside) (lw ∷ beside') (more lw))))
    where
      wider : (g f : Function) → In f held' ⊎ In f beside' → In f held' ⊎ In f (g ∷ beside')
      wider g f (inl h) = inl h
      wider g f (inr b) = inr (inr b)

      with-one : (g f : Function) → In f (g ∷ beside) → In f held' ⊎ In f (g ∷ beside')
      with-one g f (inl is) = inr (inl is)
      with-one g f (inr i) = wider g f (moves.1 f i)

      more : (g : Function) → Moves held held' (g ∷ beside) (g ∷ beside')
      more g = (λ f i. wider g f (moves.0 f i), with-one g)

  groups : (x : Rule-F Rule) (beside : List Function)
      → (parts_of vars features (roll-Rule x)).groups beside ≡ (parts_node vars features (map-Rule Rule Parts (parts_of vars features) x)).groups beside
  groups x beside = ap (λ (p : Parts). p.groups beside) (parts x)

  -- a rule is moved where its node is
  moved-by : (x : Rule-F Rule) → ((order : List Var) (held held' beside beside' : List Function) → Moves held held' beside beside'
      → AreCovered order held held' ((parts_node vars features (map-Rule Rule Parts (parts_of vars features) x)).groups beside) ((parts_node vars features (map-Rule Rule Parts (parts_of vars features) x)).groups beside'))
      → Moved (roll-Rule x)
  moved-by x here order held held' beside beside' moves =
      subst (λ (gs : List (List Function)). AreCovered order held held' gs ((parts_of vars features (roll-Rule x)).groups beside')) (sym (groups x beside))
      (subst (λ (gs : List (List Function)). AreCovered order held held' ((parts_node vars features (map-Rule Rule Parts (parts_of vars features) x)).groups beside) gs) (sym (groups x beside'))
      (here order held held' beside beside' moves))

  moved-node : (y : Rule-F MovedRule) → Moved (roll-Rule (map-Rule MovedRule Rule (λ e. e.0) y))
  moved-node (Rule-F.Feature f) = moved-by (Rule-F.Feature f) (λ order held held' beside beside' moves.
      let own = (parts_node vars features (Rule-F.Feature f)).whole in
      covered-cons order held held' (group_of own [] beside) [] (group_of own [] beside' ∷ [])
      (own-covered order held held' beside beside' own [] [] moves) (covered-none order held held' (group_of own [] beside' ∷ [])))
  moved-node (Rule-F.Not p) = moved-by (Rule-F.Not p.0) (λ order held held' beside beside' moves.
      let pw = (parts_of vars features p.0).whole in
      let inner = (parts_of vars features p.0).groups beside' in
      covered-cons order held held' (group_of (opposite pw) (pw ∷ []) beside) ((parts_of vars features p.0).groups beside) (group_of (opposite pw) (pw ∷ []) beside' ∷ inner)
      (own-covered order held held' beside beside' (opposite pw) (pw ∷ []) inner moves)
      (covered-more order held held' ((parts_of vars features p.0).groups beside) inner (group_of (opposite pw) (pw ∷ []) beside' ∷ inner) (λ g i. inr i)
      (p.1 order held held' beside beside' moves)))
  moved-node (Rule-F.And l r) = moved-by (Rule-F.And l.0 r.0) (moved-both (connection And (parts_of vars features l.0).whole (parts_of vars features r.0).whole) l r)
  moved-node (Rule-F.Or l r) = moved-by (Rule-F.Or l.0 r.0) (moved-both (connection Or (parts_of vars features l.0).whole (parts_of vars features r.0).whole) l r)
  moved-node (Rule-F.Implies l r) = moved-by (Rule-F.Implies l.0 r.0) (moved-both (connection Implies (parts_of vars features l.0).whole (parts_of vars features r.0).whole) l r)
  moved-node (Rule-F.Iff l r) = moved-by (Rule-F.Iff l.0 r.0) (moved-both (connection Iff (parts_of vars features l.0).whole (parts_of vars features r.0).whole) l r)
  moved-node (Rule-F.Compare how l r) = moved-by (Rule-F.Compare how l r) (λ order held held' beside beside' moves.
      let own = (parts_node vars features (Rule-F.Compare how l r)).whole in
      covered-cons order held held' (group_of own [] beside) [] (group_of own [] beside' ∷ [])
      (own-covered order held held' beside beside' own [] [] moves) (covered-none order held held' (group_of own [] beside' ∷ [])))

  moved : (rule : Rule) → Moved rule
  moved = ind-Rule Moved (λ x y is. subst (λ (z : Rule-F Rule). Moved (roll-Rule z)) is (moved-node y))

  -- the groups of a rule, while one function more is held, are its groups beside this function
  moved-one : (rule : Rule) (order : List Var) (f : Function) (held : List Function)
      → AreCovered order (f ∷ held) held (rule_groups vars features rule) ((parts_of vars features rule).groups (f ∷ []))
  moved-one rule order f held = moved rule order (f ∷ held) held [] (f ∷ []) (first, λ g none. absurd none)
    where
      first : (g : Function) → In g (f ∷ held) → In g held ⊎ In g (f ∷ [])
      first g (inl is) = inr (inl is)
      first g (inr i) = inl i

  -- the groups of an operator, by the functions of its operands
  groups-both : (c : Connective) (x : Rule-F Rule) (l r : Rule)
      → rule_groups vars features (roll-Rule x) ≡ (operator (connection c (parts_of vars features l).whole (parts_of vars features r).whole) (parts_of vars features l) (parts_of vars features r)).groups []
      → rule_groups vars features (roll-Rule x)
      ≡ connection_group c (rule_function vars features l) (rule_function vars features r) ∷ (rule_groups vars features l ++ (parts_of vars features r).groups (rule_function vars features l ∷ []))
  groups-both c x l r is =
      is
      ∙ ap (λ (f : Function). connection_group c f (parts_of vars features r).whole ∷ (rule_groups vars features l ++ (parts_of vars features r).groups (f ∷ []))) (told l)
      ∙ ap (λ (g : Function). connection_group c (rule_function vars features l) g ∷ (rule_groups vars features l ++ (parts_of vars features r).groups (rule_function vars features l ∷ []))) (told r)

  groups-And : (l r : Rule) → rule_groups vars features (roll-Rule (Rule-F.And l r))
      ≡ connection_group And (rule_function vars features l) (rule_function vars features r) ∷ (rule_groups vars features l ++ (parts_of vars features r).groups (rule_function vars features l ∷ []))
  groups-And l r = groups-both And (Rule-F.And l r) l r (groups (Rule-F.And l r) [])

  groups-Or : (l r : Rule) → rule_groups vars features (roll-Rule (Rule-F.Or l r))
      ≡ connection_group Or (rule_function vars features l) (rule_function vars features r) ∷ (rule_groups vars features l ++ (parts_of vars features r).groups (rule_function vars features l ∷ []))
  groups-Or l r = groups-both Or (Rule-F.Or l r) l r (groups (Rule-F.Or l r) [])

  groups-Implies : (l r : Rule) → rule_groups vars features (roll-Rule (Rule-F.Implies l r))
      ≡ connection_group Implies (rule_function vars features l) (rule_function vars features r) ∷ (rule_groups vars features l ++ (parts_of vars features r).groups (rule_function vars features l ∷ []))
  groups-Implies l r = groups-both Implies (Rule-F.Implies l r) l r (groups (Rule-F.Implies l r) [])

  groups-Iff : (l r : Rule) → rule_groups vars features (roll-Rule (Rule-F.Iff l r))
      ≡ connection_group Iff (rule_function vars features l) (rule_function vars features r) ∷ (rule_groups vars features l ++ (parts_of vars features r).groups (rule_function vars features l ∷ []))
  groups-Iff l r = groups-both Iff (Rule-F.Iff l r) l r (groups (Rule-F.Iff l r) [])

  groups-Not : (p : Rule) → rule_groups vars features (roll-Rule (Rule-F.Not p))
      ≡ group_of (opposite (rule_function vars features p)) (rule_function vars features p ∷ []) [] ∷ rule_groups vars features p
  groups-Not p = groups (Rule-F.Not p) [] ∙ ap (λ (f : Function). group_of (opposite f) (f ∷ []) [] ∷ rule_groups vars features p) (told p)

  -- those of the left operand are among them
  left-in : (x : Rule-F Rule) (left : Rule) → left_node x ≡ Some left → (g : List Function) → In g (rule_groups vars features left) → In g (rule_groups vars features (roll-Rule x))
  left-in (Rule-F.Feature f) left is g i = absurd (cc)
  left-in (Rule-F.Not p) left is g i =
      let same : left ≡ p = cc in
      subst (λ (gs : List (List Function)). In g gs) (sym (groups-Not p)) (inr (subst (λ (r : Rule). In g (rule_groups vars features r)) same i))
  left-in (Rule-F.And l r) left is g i =
      let same : left ≡ l = cc in
      subst (λ (gs : List (List Function)). In g gs) (sym (groups-And l r))
      (inr (in_left g (rule_groups vars features l) ((parts_of vars features r).groups (rule_function vars features l ∷ [])) (subst (λ (q : Rule). In g (rule_groups vars features q)) same i)))
  left-in (Rule-F.Or l r) left is g i =
      let same : left ≡ l = cc in
      subst (λ (gs : List (List Function)). In g gs) (sym (groups-Or l r))
      (inr (in_left g (rule_groups vars features l) ((parts_of vars features r).groups (rule_function vars features l ∷ [])) (subst (λ (q : Rule). In g (rule_groups vars features q)) same i)))
  left-in (Rule-F.Implies l r) left is g i =
      let same : left ≡ l = cc in
      subst (λ (gs : List (List Function)). In g gs) (sym (groups-Implies l r))
      (inr (in_left g (rule_groups vars features l) ((parts_of vars features r).groups (rule_function vars features l ∷ [])) (subst (λ (q : Rule). In g (rule_groups vars features q)) same i)))
  left-in (Rule-F.Iff l r) left is g i =
      let same : left ≡ l = cc in
      subst (λ (gs : List (List Function)). In g gs) (sym (groups-Iff l r))
      (inr (in_left g (rule_groups vars features l) ((parts_of vars features r).groups (rule_function vars features l ∷ [])) (subst (λ (q : Rule). In g (rule_groups vars features q)) same i)))
  left-in (Rule-F.Compare how l r) left is g i = absurd (cc)

  -- so are those of the part in which a rule's spine ends
  spine-in : (nodes : List Rule) (part rule : Rule) → IsSpine nodes part rule → (g : List Function) → In g (rule_groups vars features part) → In g (rule_groups vars features rule)
  spine-in [] part rule is g i = subst (λ (q : Rule). In g (rule_groups vars features q)) is i
  spine-in (node ∷ nodes) part rule (is, (left, of, rest)) g i =
      subst (λ (q : Rule). In g (rule_groups vars features q)) (roll-out-Rule node ∙ is) (left-in (out-Rule node) left of g (spine-in nodes part left rest g i))

  above-both : (c : Connective) (x : Rule-F Rule) (l r : Rule) (order : List Var) (held : List Function)
      → rule_groups vars features (roll-Rule x)
      ≡ connection_group c (rule_function vars features l) (rule_function vars features r) ∷ (rule_groups vars features l ++ (parts_of vars features r).groups (rule_function vars features l ∷ []))
      → AreCovered order (rule_function vars features l ∷ held) held (groups_beside c vars features (rule_function vars features l) r) (rule_groups vars features (roll-Rule x))
  above-both c x l r order held is =
      let f = rule_function vars features l in
      let rights = (parts_of vars features r).groups (f ∷ []) in
      let all = connection_group c f (rule_function vars features r) ∷ (rule_groups vars features l ++ rights) in
      subst (λ (gs : List (List Function)). AreCovered order (f ∷ held) held (groups_beside c vars features f r) gs) (sym is)
      (covered-cons order (f ∷ held) held (connection_group c f (rule_function vars features r)) (rule_groups vars features r) all
      (connection_group c f (rule_function vars features r), inl refl, first f, λ g i. inr (inr (inl i)))
      (covered-more order (f ∷ held) held (rule_groups vars features r) rights all (λ g i. inr (in_right g (rule_groups vars features l) rights i)) (moved-one r order f held)))
    where
      first : (f g : Function) → In g (f ∷ held) → IsBeside order held (connection_group c f (rule_function vars features r)) g
      first f g (inl same) = inr (inr (inl (inr (inl same))))
      first f g (inr i) = inl i

  -- the groups of a node while its left operand is held
  above-in : (x : Rule-F Rule) (left : Rule) → left_node x ≡ Some left → (order : List Var) (held : List Function)
      → AreCovered order (rule_function vars features left ∷ held) held (above_node vars features x) (rule_groups vars features (roll-Rule x))
  above-in (Rule-F.Feature f) left is order held = absurd (cc)
  above-in (Rule-F.Not p) left is order held =
      let same : p ≡ left = cc in
      let f = rule_function vars features p in
      let own = group_of (opposite f) (f ∷ []) [] in
      subst (λ (q : Rule). AreCovered order (rule_function vars features q ∷ held) held (own ∷ []) (rule_groups vars features (roll-Rule (Rule-F.Not p)))) same
      (subst (λ (gs : List (List Function)). AreCovered order (f ∷ held) held (own ∷ []) gs) (sym (groups-Not p))
      (covered-cons order (f ∷ held) held own [] (own ∷ rule_groups vars features p) (own, inl refl, first f, λ g i. inr (inr (inl i)))
      (covered-none order (f ∷ held) held (own ∷ rule_groups vars features p))))
    where
      first : (f g : Function) → In g (f ∷ held) → IsBeside order held (group_of (opposite f) (f ∷ []) []) g
      first f g (inl same) = inr (inr (inl (inr (inl same))))
      first f g (inr i) = inl i
  above-in (Rule-F.And l r) left is order held =
      let same : l ≡ left = cc in
      subst (λ (q : Rule). AreCovered order (rule_function vars features q ∷ held) held (groups_beside And vars features (rule_function vars features l) r) (rule_groups vars features (roll-Rule (Rule-F.And l r)))) same
      (above-both And (Rule-F.And l r) l r order held (groups-And l r))
  above-in (Rule-F.Or l r) left is order held =
      let same : l ≡ left = cc in
      subst (λ (q : Rule). AreCovered order (rule_function vars features q ∷ held) held (groups_beside Or vars features (rule_function vars features l) r) (rule_groups vars features (roll-Rule (Rule-F.Or l r)))) same
      (above-both Or (Rule-F.Or l r) l r order held (groups-Or l r))
  above-in (Rule-F.Implies l r) left is order held =
      let same : l ≡ left = cc in
      subst (λ (q : Rule). AreCovered order (rule_function vars features q ∷ held) held (groups_beside Implies vars features (rule_function vars features l) r) (rule_groups vars features (roll-Rule (Rule-F.Implies l r)))) same
      (above-both Implies (Rule-F.Implies l r) l r order held (groups-Implies l r))
  above-in (Rule-F.Iff l r) left is order held =
      let same : l ≡ left = cc in
      subst (λ (q : Rule). AreCovered order (rule_function vars features q ∷ held) held (groups_beside Iff vars features (rule_function vars features l) r) (rule_groups vars features (roll-Rule (Rule-F.Iff l r)))) same
      (above-both Iff (Rule-F.Iff l r) l r order held (groups-Iff l r))
  above-in (Rule-F.Compare how l r) left is order held = absurd (cc)

  -- also among the groups of the whole rule
  pub above-spine : (nodes : List Rule) (node left rule : Rule) → IsSpine nodes node rule → left_operand node ≡ Some left → (order : List Var) (held : List Function)
      → AreCovered order (rule_function vars features left ∷ held) held (groups_above vars features node) (rule_groups vars features rule)
  above-spine nodes node left rule spine of order held =
      covered-more order (rule_function vars features left ∷ held) held (groups_above vars features node) (rule_groups vars features node) (rule_groups vars features rule) (spine-in nodes node rule spine)
      (subst (λ (q : Rule). AreCovered order (rule_function vars features left ∷ held) held (groups_above vars features node) (rule_groups vars features q)) (roll-out-Rule node)
      (above-in (out-Rule node) left of order held))

  -- the groups of the part in which the spine ends are among those of the rule
  pub end-covered : (nodes : List Rule) (part rule : Rule) → IsSpine nodes part rule → (order : List Var) (held : List Function)
      → AreCovered order held held (rule_groups vars features part) (rule_groups vars features rule)
  end-covered nodes part rule spine order held g i = (g, spine-in nodes part rule spine g i, λ f h. inl h, λ f h. inr (inr (inl h)))

  -- a feature's literal
  pub feature-cause : (f : FeatureNo) (q : Rule) → q ≡ rule.Feature f → (t : Table) (result : Result ℕ Refusal) → IfErr result (IsShortFor t ([] ∷ []))
      → IfErr result (IsShortFor t (rule_groups vars features q))
  feature-cause f q is t (Ok h) cause = tt
  feature-cause f q is t (Err r) cause =
      let own = (parts_node vars features (Rule-F.Feature f)).whole in
      let same = ap (rule_groups vars features) (is ∙ sym (rule.rolls-Feature f)) ∙ groups (Rule-F.Feature f) [] in
      subst (λ (gs : List (List Function)). IsShortFor t gs r) (sym same)
      (cause-covered t ([] ∷ []) (group_of own [] [] ∷ []) r (λ held. covered-cons t.order held held [] [] (group_of own [] [] ∷ [])
      (group_of own [] [], inl refl, λ g i. inl i, λ g none. absurd none) (covered-none t.order held held (group_of own [] [] ∷ []))) cause)

  -- a comparison
  pub compare-is : (how : Cmp) (left right : Number) (q : Rule) → q ≡ rule.Compare how left right
      → comparison_function vars features how left right ≡ rule_function vars features q
  compare-is how left right q is =
      sym (ap (rule_function vars features) (is ∙ sym (rule.rolls-Compare how left right)) ∙ function-of (Rule-F.Compare how left right))

  pub compare-cause : (how : Cmp) (left right : Number) (q : Rule) → q ≡ rule.Compare how left right → (t : Table) (result : Result ℕ Refusal)
      → IfErr result (IsShortFor t (group_of (comparison_function vars features how left right) [] [] ∷ [])) → IfErr result (IsShortFor t (rule_groups vars features q))
  compare-cause how left right q is t result =
      subst (λ (gs : List (List Function)). IfErr result (IsShortFor t gs))
      (sym (ap (rule_groups vars features) (is ∙ sym (rule.rolls-Compare how left right)) ∙ groups (Rule-F.Compare how left right) []))
