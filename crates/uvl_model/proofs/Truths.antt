-- A rule without comparisons holds under marks exactly where what it says holds in the set that the marks agree with.
use Rattle.std.proofs.Common.{◌≡◌, ℕ, ◌<◌, Bool, true, ◌&&◌, List, [], ◌∷◌, ◌++◌, map, length, refl, sym, ap, ◌∙◌, subst, zero-add}
use Rattle.std.specs.List.{All, list_all}
use Rattle.std.proofs.lemmas.Bool.{and_parts, false≢true}
use Rattle.std.proofs.lemmas.List.{length-map}
use Rattle.std.proofs.lemmas.List.Elements.{All-head, All-tail}
use Rattle.uvl_model.specs.declared.rows.FeatureNo.{FeatureNo}
use Rattle.uvl_model.specs.declared.rule.Rule.{Rule}
use Rattle.uvl_model.specs.declared.rule.Rule.TheOpen.{Rule-F}
use Rattle.uvl_model.specs.declared.rule.Rule.TheFolds.{fold-roll-Rule, ind-Rule, map-Rule}
use Rattle.uvl_model.specs.declared.rule.Rule.TheViews.{roll-Rule}
use Rattle.uvl_model.specs.Check.{is_marked, rule_holds, truth_of}
use Rattle.uvl_model.specs.Comparisons.{HaveNoComparison, has_no_comparison, boolean_node}
use Rattle.uvl_model.specs.Constraints.{constraint_of, constraint_node}
use Rattle.uvl_model.specs.Heads.{heads_of_rows}
use Rattle.uvl_model.specs.Names.{feature_names, name_of}
use Rattle.uvl_model.specs.Products.{rules_hold}
use Rattle.uvl_model.specs.Rows.{Rows}
use Rattle.uvl_model.specs.Rules.{IsRule, IsThere, features_of, features_node}
use Rattle.uvl_model.specs.Spelling.{numbered}
use Rattle.uvl_semantics.specs.Constraint.{Constraint}
use Rattle.uvl_semantics.specs.Holding.{holds_by}
use Rattle.uvl_semantics.specs.Product.{has}
use Rattle.uvl_model.proofs.Everywhere.{all_front, all_rest}
use Rattle.uvl_model.proofs.Marks.{AgreeFrom, agree_at}

module _ (rows : Rows) (marks : List Bool) (set : List (List ℕ)) (agree : AgreeFrom marks set 0 (feature_names rows)) where
  -- the mark of a feature says whether its name is in the set
  pub feature_told : (f : FeatureNo) → IsThere rows f → is_marked marks f ≡ has set (name_of (feature_names rows) f)
  feature_told f there =
      let within : f.0 < length (feature_names rows) = rw (length-map rows.features (λ row. row.name)) there in
      ap (λ (n : ℕ). is_marked marks (numbered n)) (sym (zero-add f.0)) ∙ agree_at marks set (feature_names rows) 0 agree f.0 within

  -- a rule without comparisons, whose features are there, is told
  abbrev Told : Rule → Type 0
  Told rule = has_no_comparison rule ≡ true → All (IsThere rows) (features_of rule)
      → rule_holds marks rule ≡ holds_by (heads_of_rows rows) (constraint_of (feature_names rows) rule) set

  abbrev ToldRule : Type 0
  ToldRule = (rule : Rule) × Told rule

  boolean : (x : Rule-F Rule) → has_no_comparison (roll-Rule x) ≡ boolean_node (map-Rule Rule Bool has_no_comparison x)
  boolean = fold-roll-Rule Bool boolean_node

  features : (x : Rule-F Rule) → features_of (roll-Rule x) ≡ features_node (map-Rule Rule (List FeatureNo) features_of x)
  features = fold-roll-Rule (List FeatureNo) features_node

  truth : (x : Rule-F Rule) → rule_holds marks (roll-Rule x) ≡ truth_of marks (map-Rule Rule Bool (rule_holds marks) x)
  truth = fold-roll-Rule Bool (truth_of marks)

  constraint : (x : Rule-F Rule)
      → constraint_of (feature_names rows) (roll-Rule x) ≡ constraint_node (feature_names rows) (map-Rule Rule Constraint (constraint_of (feature_names rows)) x)
  constraint = fold-roll-Rule Constraint (constraint_node (feature_names rows))

  both : (x : Rule-F Rule) (l r : ToldRule) → has_no_comparison (roll-Rule x) ≡ (has_no_comparison l.0 && has_no_comparison r.0)
      → features_of (roll-Rule x) ≡ features_of l.0 ++ features_of r.0
      → has_no_comparison (roll-Rule x) ≡ true → All (IsThere rows) (features_of (roll-Rule x))
      → (rule_holds marks l.0 ≡ holds_by (heads_of_rows rows) (constraint_of (feature_names rows) l.0) set)
      × (rule_holds marks r.0 ≡ holds_by (heads_of_rows rows) (constraint_of (feature_names rows) r.0) set)
  both x l r b f none there =
      let parts = and_parts _ _ (sym b ∙ none) in
      let all = subst (λ (fs : List FeatureNo). All (IsThere rows) fs) f there in
      (l.1 parts.0 (all_front (IsThere rows) (features_of l.0) (features_of r.0) all), r.1 parts.1 (all_rest (IsThere rows) (features_of l.0) (features_of r.0) all))

  node : (y : Rule-F ToldRule) → Told (roll-Rule (map-Rule ToldRule Rule (λ e. e.0) y))
  node (Rule-F.Feature f) none there =
      let x = Rule-F.Feature f in
      let one = subst (λ (fs : List FeatureNo). All (IsThere rows) fs) (features x) there in
      rw (truth x, constraint x) (feature_told f (All-head (IsThere rows) f [] one))
  node (Rule-F.Not operand) none there =
      let x = Rule-F.Not operand.0 in
      let all = subst (λ (fs : List FeatureNo). All (IsThere rows) fs) (features x) there in
      rw (truth x, constraint x, operand.1 (sym (boolean x) ∙ none) all) refl
  node (Rule-F.And l r) none there =
      let x = Rule-F.And l.0 r.0 in
      let parts = both x l r (boolean x) (features x) none there in
      rw (truth x, constraint x, parts.0, parts.1) refl
  node (Rule-F.Or l r) none there =
      let x = Rule-F.Or l.0 r.0 in
      let parts = both x l r (boolean x) (features x) none there in
      rw (truth x, constraint x, parts.0, parts.1) refl
  node (Rule-F.Implies l r) none there =
      let x = Rule-F.Implies l.0 r.0 in
      let parts = both x l r (boolean x) (features x) none there in
      rw (truth x, constraint x, parts.0, parts.1) refl
  node (Rule-F.Iff l r) none there =
      let x = Rule-F.Iff l.0 r.0 in
      let parts = both x l r (boolean x) (features x) none there in
      rw (truth x, constraint x, parts.0, parts.1) refl
  node (Rule-F.Compare how l r) none there = absurd (false≢true (sym (boolean (Rule-F.Compare how l r)) ∙ none))

  told : (rule : Rule) → Told rule
  told = ind-Rule Told (λ x y is. subst (λ (z : Rule-F Rule). Told (roll-Rule z)) is (node y))

  all_told : (rules : List Rule) → All (IsRule rows) rules → list_all has_no_comparison rules ≡ true
      → list_all (rule_holds marks) rules
      ≡ list_all (λ constraint. holds_by (heads_of_rows rows) constraint set) (map (constraint_of (feature_names rows)) rules)
  all_told [] sound none = refl
  all_told (rule ∷ rules) sound none =
      let parts = and_parts (has_no_comparison rule) (list_all has_no_comparison rules) none in
      rw (
        told rule parts.0 (All-head (IsRule rows) rule rules sound).features,
        all_told rules (All-tail (IsRule rows) rule rules sound) parts.1,
      )
      refl

-- every rule
pub rules_told : (rows : Rows) (marks : List Bool) (set : List (List ℕ)) → All (IsRule rows) rows.rules → HaveNoComparison rows
    → AgreeFrom marks set 0 (feature_names rows) → list_all (rule_holds marks) rows.rules ≡ rules_hold rows set
rules_told rows marks set sound none agree = all_told rows marks set agree rows.rules sound none
