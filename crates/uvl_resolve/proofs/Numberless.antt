-- A set of files whose rules don't speak of numbers says constraints without comparisons.
use Rattle.std.proofs.Common.{◌≡◌, inl, inr, ℕ, ◌-◌, List, [], ◌∷◌, ◌++◌, length, map, Option, Some, None, Bool, true, false, not, ◌&&◌, ◌||◌, refl, sym, ap, ◌∙◌, subst}
use Rattle.std.specs.Prelude.{slice_get, IsTrue}
use Rattle.std.specs.List.{list_all, list_any}
use Rattle.std.specs.Option.{option_and_then}
use Rattle.std.proofs.lemmas.Bool.{and_from, or_parts, false≢true, not-false}
use Rattle.uvl_ast.specs.declared.expression.BinOp.{BinOp}
use Rattle.uvl_ast.specs.declared.expression.BinOp.TheVariants as op
use Rattle.uvl_ast.specs.declared.expression.Expr.{Expr, roll-Expr}
use Rattle.uvl_ast.specs.declared.expression.Expr.TheOpen.{Expr-F}
use Rattle.uvl_ast.specs.declared.expression.Expr.TheFolds.{fold-roll-Expr, ind-Expr, map-Expr}
use Rattle.uvl_ast.specs.Rules.{rules_of}
use Rattle.uvl_base.specs.declared.place.Place.{Place}
use Rattle.uvl_imports.specs.declared.file_set.Loaded.{Loaded}
use Rattle.uvl_model.specs.declared.rule.Rule.{Rule}
use Rattle.uvl_model.specs.declared.rule.Rule.TheFolds.{fold-roll-Rule, ind-Rule, map-Rule}
use Rattle.uvl_model.specs.declared.rule.Rule.TheOpen.{Rule-F}
use Rattle.uvl_model.specs.declared.rule.Rule.TheViews.{roll-Rule}
use Rattle.uvl_model.specs.Comparisons.{HaveNoComparison, boolean_node, has_no_comparison}
use Rattle.uvl_model.specs.Constraints.{constraint_node, constraints_of}
use Rattle.uvl_model.specs.Constraints as model
use Rattle.uvl_model.specs.Names.{feature_names}
use Rattle.uvl_model.specs.Rows.{Rows}
use Rattle.uvl_placing.specs.Constraints.{constraints_of_placings, constraints_of_rules, constraints_placed}
use Rattle.uvl_placing.specs.Files.{constraints_behind, constraints_of_file, constraints_of_tree, imports_of, main_constraints, placings_of_root, tree_of_file}
use Rattle.uvl_placing.specs.Meaning.{Meaning, constraint_of, meaning_of, meaning_with, of_operator}
use Rattle.uvl_placing.specs.Names.{dotted, front_of, target_called}
use Rattle.uvl_placing.specs.Options.{known, of_both}
use Rattle.uvl_placing.specs.Trees.{Imports}
use Rattle.uvl_resolve.proofs.Options.{both_there, known_there, made_there, then_there}
use Rattle.uvl_resolve.proofs.Accepted.{last_or}
use Rattle.uvl_scope.specs.Faults.{have_numbers}
use Rattle.uvl_scope.specs.Rules.{has_numbers, joins_truths, speaks_of_numbers}
use Rattle.uvl_semantics.specs.Constraint.{Constraint, selected, negation, conjunction, disjunction, implication, equivalence, comparison}
use Rattle.uvl_semantics.specs.Prefix.{prefixed_constraint}
use Rattle.uvl_semantics.specs.Tree.{Tree, top_name}

-- a constraint without comparisons
abbrev is_boolean : Constraint → Bool
is_boolean (selected name) = true
is_boolean (negation operand) = is_boolean operand
is_boolean (conjunction left right) = is_boolean left && is_boolean right
is_boolean (disjunction left right) = is_boolean left && is_boolean right
is_boolean (implication left right) = is_boolean left && is_boolean right
is_boolean (equivalence left right) = is_boolean left && is_boolean right
is_boolean (comparison how left right) = false

abbrev AreBoolean : List Constraint → Type 0
AreBoolean constraints = list_all is_boolean constraints ≡ true

all-append : (xs ys : List Constraint) → AreBoolean xs → AreBoolean ys → AreBoolean (xs ++ ys)
all-append [] ys h k = k
all-append (x ∷ xs) ys h k =
    let parts = and_both (is_boolean x) (list_all is_boolean xs) h in
    and_from (is_boolean x) (list_all is_boolean (xs ++ ys)) parts.0 (all-append xs ys parts.1 k)
  where
    and_both : (a b : Bool) → (a && b) ≡ true → (a ≡ true) × (b ≡ true)
    and_both true b h = (refl, h)
    and_both false b h = absurd (false≢true h)

-- ---- rules

module _ (names : List (List ℕ)) where
  abbrev SaysSame : Rule → Type 0
  SaysSame rule = has_no_comparison rule ≡ is_boolean (model.constraint_of names rule)

  abbrev SameRule : Type 0
  SameRule = (rule : Rule) × SaysSame rule

  bare_at : (x : Rule-F Rule) → has_no_comparison (roll-Rule x) ≡ boolean_node (map-Rule Rule Bool has_no_comparison x)
  bare_at = fold-roll-Rule Bool boolean_node

  says_at : (x : Rule-F Rule) → model.constraint_of names (roll-Rule x) ≡ constraint_node names (map-Rule Rule Constraint (model.constraint_of names) x)
  says_at = fold-roll-Rule Constraint (constraint_node names)

  two : (a b c d : Bool) → a ≡ b → c ≡ d → (a && c) ≡ (b && d)
  two a b c d e f = ap (λ (t : Bool). t && c) e ∙ ap (λ (t : Bool). b && t) f

  rule_node : (y : Rule-F SameRule) → SaysSame (roll-Rule (map-Rule SameRule Rule (λ e. e.0) y))
  rule_node (Rule-F.Feature f) = let x : Rule-F Rule = Rule-F.Feature f in bare_at x ∙ sym (ap is_boolean (says_at x))
  rule_node (Rule-F.Not o) = let x : Rule-F Rule = Rule-F.Not o.0 in bare_at x ∙ o.1 ∙ sym (ap is_boolean (says_at x))
  rule_node (Rule-F.And l r) = let x : Rule-F Rule = Rule-F.And l.0 r.0 in bare_at x ∙ two _ _ _ _ l.1 r.1 ∙ sym (ap is_boolean (says_at x))
  rule_node (Rule-F.Or l r) = let x : Rule-F Rule = Rule-F.Or l.0 r.0 in bare_at x ∙ two _ _ _ _ l.1 r.1 ∙ sym (ap is_boolean (says_at x))
  rule_node (Rule-F.Implies l r) = let x : Rule-F Rule = Rule-F.Implies l.0 r.0 in bare_at x ∙ two _ _ _ _ l.1 r.1 ∙ sym (ap is_boolean (says_at x))
  rule_node (Rule-F.Iff l r) = let x : Rule-F Rule = Rule-F.Iff l.0 r.0 in bare_at x ∙ two _ _ _ _ l.1 r.1 ∙ sym (ap is_boolean (says_at x))
  rule_node (Rule-F.Compare how l r) = let x : Rule-F Rule = Rule-F.Compare how l r in bare_at x ∙ sym (ap is_boolean (says_at x))

  says_same : (rule : Rule) → SaysSame rule
  says_same = ind-Rule SaysSame (λ x y is. subst (λ (z : Rule-F Rule). SaysSame (roll-Rule z)) is (rule_node y))

  all_same : (made : List Rule) → AreBoolean (map (model.constraint_of names) made) → IsTrue (list_all has_no_comparison made)
  all_same made h = sym (each made) ∙ h
    where
      each : (made : List Rule) → list_all is_boolean (map (model.constraint_of names) made) ≡ list_all has_no_comparison made
      each [] = refl
      each (r ∷ rs) = two _ _ _ _ (sym (says_same r)) (each rs)

-- ---- expressions

module _ (root : List ℕ) where
  abbrev IsBare : Expr → Type 0
  IsBare e = has_numbers e ≡ false → (c : Constraint) → constraint_of root e ≡ Some c → is_boolean c ≡ true

  abbrev BareExpr : Type 0
  BareExpr = (e : Expr) × IsBare e

  numbers_at : (x : Expr-F Expr) → has_numbers (roll-Expr x) ≡ speaks_of_numbers (map-Expr Expr Bool has_numbers x)
  numbers_at = fold-roll-Expr Bool speaks_of_numbers

  truth_at : (x : Expr-F Expr) → constraint_of root (roll-Expr x) ≡ (meaning_with root (map-Expr Expr Meaning (meaning_of root) x)).truth
  truth_at x = ap (λ (m : Meaning). m.truth) (fold-roll-Expr Meaning (meaning_with root) x)

  both_bare : (o : BinOp) (say : Constraint → Constraint → Constraint) (left right : BareExpr) (place : Place)
      → ((l r : Meaning) → (of_operator o l r).truth ≡ of_both say l.truth r.truth)
      → ((l r : Constraint) → is_boolean (say l r) ≡ (is_boolean l && is_boolean r)) → IsBare (roll-Expr (Expr-F.Binary o left.0 right.0 place))
  both_bare o say left right place says boolean none c is =
      let x : Expr-F Expr = Expr-F.Binary o left.0 right.0 place in
      let parts = or_parts (not (joins_truths o) || has_numbers left.0) (has_numbers right.0) (sym (numbers_at x) ∙ none) in
      let front = or_parts (not (joins_truths o)) (has_numbers left.0) parts.0 in
      let both = both_there say (constraint_of root left.0) (constraint_of root right.0) c
      (sym (truth_at x ∙ says (meaning_of root left.0) (meaning_of root right.0)) ∙ is) in
      ap is_boolean both.4 ∙ boolean both.0 both.1
      ∙ and_from (is_boolean both.0) (is_boolean both.1) (left.1 front.1 both.0 both.2) (right.1 parts.1 both.1 both.3)

  not_joining : (o : BinOp) (left right : BareExpr) (place : Place) → joins_truths o ≡ false → IsBare (roll-Expr (Expr-F.Binary o left.0 right.0 place))
  not_joining o left right place other none c is =
      let x : Expr-F Expr = Expr-F.Binary o left.0 right.0 place in
      let parts = or_parts (not (joins_truths o) || has_numbers left.0) (has_numbers right.0) (sym (numbers_at x) ∙ none) in
      let front = or_parts (not (joins_truths o)) (has_numbers left.0) parts.0 in
      absurd (false≢true (sym other ∙ not-false (joins_truths o) front.0))

  operator_bare : (o : BinOp) (left right : BareExpr) (place : Place) → IsBare (roll-Expr (Expr-F.Binary o left.0 right.0 place))
  operator_bare op.And left right place = both_bare op.And conjunction left right place (λ l r. refl) (λ l r. refl)
  operator_bare op.Or left right place = both_bare op.Or disjunction left right place (λ l r. refl) (λ l r. refl)
  operator_bare op.Implies left right place = both_bare op.Implies implication left right place (λ l r. refl) (λ l r. refl)
  operator_bare op.Iff left right place = both_bare op.Iff equivalence left right place (λ l r. refl) (λ l r. refl)
  operator_bare op.Equal left right place = not_joining op.Equal left right place refl
  operator_bare op.Differs left right place = not_joining op.Differs left right place refl
  operator_bare op.Less left right place = not_joining op.Less left right place refl
  operator_bare op.AtMost left right place = not_joining op.AtMost left right place refl
  operator_bare op.Greater left right place = not_joining op.Greater left right place refl
  operator_bare op.AtLeast left right place = not_joining op.AtLeast left right place refl
  operator_bare op.Plus left right place = not_joining op.Plus left right place refl
  operator_bare op.Minus left right place = not_joining op.Minus left right place refl
  operator_bare op.Times left right place = not_joining op.Times left right place refl

  expr_node : (y : Expr-F BareExpr) → IsBare (roll-Expr (map-Expr BareExpr Expr (λ e. e.0) y))
  expr_node (Expr-F.Number value place) none c is = absurd (false≢true (sym none ∙ numbers_at (Expr-F.Number value place)))
  expr_node (Expr-F.Name reference) none c is =
      let e : Some (selected (dotted reference.parts)) ≡ Some c = sym (truth_at (Expr-F.Name reference)) ∙ is in
      let same : selected (dotted reference.parts) ≡ c = cc in
      ap is_boolean (sym same)
  expr_node (Expr-F.Sum key place) none c is = absurd (false≢true (sym none ∙ numbers_at (Expr-F.Sum key place)))
  expr_node (Expr-F.Not operand place) none c is =
      let x : Expr-F Expr = Expr-F.Not operand.0 place in
      let made = made_there negation (constraint_of root operand.0) c (sym (truth_at x) ∙ is) in
      ap is_boolean made.2 ∙ operand.1 (sym (numbers_at x) ∙ none) made.0 made.1
  expr_node (Expr-F.Binary o left right place) none c is = operator_bare o left right place none c is

  bare : (e : Expr) → IsBare e
  bare = ind-Expr IsBare (λ x y is. subst (λ (z : Expr-F Expr). IsBare (roll-Expr z)) is (expr_node y))

  rules_bare : (rules : List Expr) → list_any has_numbers rules ≡ false → (cs : List Constraint) → constraints_of_rules root rules ≡ Some cs → AreBoolean cs
  rules_bare [] none cs is =
      let same : [] ≡ cs = cc in
      ap (list_all is_boolean) (sym same)
  rules_bare (rule ∷ rules) none cs is =
      let parts = or_parts (has_numbers rule) (list_any has_numbers rules) none in
      let both = both_there (λ (value : Constraint) (values : List Constraint). value ∷ values) (constraint_of root rule) (constraints_of_rules root rules) cs is in
      ap (list_all is_boolean) both.4
      ∙ and_from (is_boolean both.0) (list_all is_boolean both.1) (bare rule parts.0 both.0 both.2) (rules_bare rules parts.1 both.1 both.3)

-- ---- files

prefix_same : (qualifier : List ℕ) (c : Constraint) → is_boolean (prefixed_constraint qualifier c) ≡ is_boolean c
prefix_same qualifier (selected name) = refl
prefix_same qualifier (negation operand) = prefix_same qualifier operand
prefix_same qualifier (conjunction left right) = rw (prefix_same qualifier left, prefix_same qualifier right) refl
prefix_same qualifier (disjunction left right) = rw (prefix_same qualifier left, prefix_same qualifier right) refl
prefix_same qualifier (implication left right) = rw (prefix_same qualifier left, prefix_same qualifier right) refl
prefix_same qualifier (equivalence left right) = rw (prefix_same qualifier left, prefix_same qualifier right) refl
prefix_same qualifier (comparison how left right) = refl

all_prefixed : (qualifier : List ℕ) (cs : List Constraint) → list_all is_boolean (map (prefixed_constraint qualifier) cs) ≡ list_all is_boolean cs
all_prefixed qualifier [] = refl
all_prefixed qualifier (c ∷ cs) = rw (prefix_same qualifier c, all_prefixed qualifier cs) refl

abbrev EachIsBoolean : List (Option (List Constraint)) → Type 0
EachIsBoolean constraints = (k : ℕ) (cs : List Constraint) → slice_get constraints k ≡ Some (Some cs) → AreBoolean cs

module _ (imports : Imports) (constraints : List (Option (List Constraint))) (each : EachIsBoolean constraints) where
  placed_bare : (names : List (List ℕ)) (cs : List Constraint) → constraints_placed imports constraints names ≡ Some cs → AreBoolean cs
  placed_bare names cs is =
      let q = dotted (front_of names) in
      let made = made_there (map (prefixed_constraint q)) (option_and_then (λ (position : ℕ). known (slice_get constraints position)) (target_called q imports.lines imports.targets)) cs is in
      let found = then_there (λ (position : ℕ). known (slice_get constraints position)) (target_called q imports.lines imports.targets) made.0 made.1 in
      ap (list_all is_boolean) made.2 ∙ all_prefixed q made.0 ∙ each found.0 made.0 (known_there (slice_get constraints found.0) made.0 found.2)

  placings_bare : (placings : List (List (List ℕ))) (cs : List Constraint) → constraints_of_placings imports constraints placings ≡ Some cs → AreBoolean cs
  placings_bare [] cs is =
      let same : [] ≡ cs = cc in
      ap (list_all is_boolean) (sym same)
  placings_bare (names ∷ placings) cs is =
      let both = both_there (λ (values others : List Constraint). values ++ others) (constraints_placed imports constraints names) (constraints_of_placings imports constraints placings) cs is in
      ap (list_all is_boolean) both.4 ∙ all-append both.0 both.1 (placed_bare names both.0 both.2) (placings_bare placings both.1 both.3)

file_bare : (trees : List (Option Tree)) (constraints : List (Option (List Constraint))) (loaded : Loaded) → EachIsBoolean constraints
    → list_any has_numbers (rules_of loaded.file) ≡ false → (tree : Option Tree) (cs : List Constraint) → constraints_of_tree trees constraints loaded tree ≡ Some cs → AreBoolean cs
file_bare trees constraints loaded each none None cs is = absurd cc
file_bare trees constraints loaded each none (Some tree) cs is =
    let imports = imports_of trees loaded in
    let own = constraints_of_rules (top_name tree) (rules_of loaded.file) in
    let others = constraints_of_placings imports constraints (placings_of_root loaded.file.root) in
    let both = both_there (λ (own others : List Constraint). own ++ others) own others cs is in
    ap (list_all is_boolean) both.4
    ∙ all-append both.0 both.1 (rules_bare (top_name tree) (rules_of loaded.file) none both.0 both.2)
    (placings_bare imports constraints each (placings_of_root loaded.file.root) both.1 both.3)

files_bare : (trees : List (Option Tree)) (constraints : List (Option (List Constraint))) (files : List Loaded) → EachIsBoolean constraints → have_numbers files ≡ false
    → EachIsBoolean (constraints_behind trees constraints files)
files_bare trees constraints [] each none = each
files_bare trees constraints (loaded ∷ files) each none =
    let parts = or_parts (list_any has_numbers (rules_of loaded.file)) (have_numbers files) none in
    files_bare (trees ++ tree_of_file trees loaded ∷ []) (constraints ++ constraints_of_file trees constraints loaded ∷ []) files
    (λ k cs at. elim (last_or constraints (constraints_of_file trees constraints loaded) k (Some cs) at) [
      | inl before ↦ each k cs before
      | inr last ↦ file_bare trees constraints loaded each parts.0 (tree_of_file trees loaded) cs last
    ]) parts.1

pub numberless_rows : (files : List Loaded) (rows : Rows) → have_numbers files ≡ false → main_constraints files ≡ Some (constraints_of rows) → HaveNoComparison rows
numberless_rows files rows none is =
    all_same (feature_names rows) rows.rules
    (files_bare [] [] files (λ k cs at. absurd (cc at)) none (length files - 1) (constraints_of rows) (known_there _ (constraints_of rows) is))
