-- How many functions the groups have.
use Rattle.std.proofs.Common.{◌≡◌, ℕ, ◌+◌, ◌*◌, ◌^◌, ◌<◌, ◌≤◌, max, not, ◌&&◌, ◌||◌, List, [], ◌∷◌, ◌++◌, map, length, sym, subst, inl, inr, arith, length-append}
use Rattle.std.specs.Bool.{⊤, beq}
use Rattle.std.specs.List.{All}
use Rattle.std.proofs.Math.Nat.{mul-le-mul_right, mul_comm, le-max_left, le-max_right}
use Rattle.std.proofs.lemmas.List.{length-map}
use Rattle.std.proofs.lemmas.List.Elements.{All-head, All-tail}
use Rattle.dd_store.specs.declared.row.Var.{Var}
use Rattle.dd_store.specs.Size.{Function}
use Rattle.dd_store.proofs.SizeLemmas.{In}
use Rattle.uvl_base.specs.Limits.{most_right_operands}
use Rattle.uvl_model.specs.declared.rows.FeatureRow.{FeatureRow}
use Rattle.uvl_model.specs.declared.rows.GroupRow.{GroupRow}
use Rattle.uvl_model.specs.declared.rule.Rule.{Rule}
use Rattle.uvl_model.specs.declared.rule.Rule.TheOpen.{Rule-F}
use Rattle.uvl_model.specs.declared.rule.Rule.TheFolds.{fold-roll-Rule, ind-Rule, map-Rule}
use Rattle.uvl_model.specs.declared.rule.Rule.TheViews.{roll-Rule}
use Rattle.uvl_model.specs.Rows.{Rows}
use Rattle.uvl_model.specs.Rules.{IsRule, right_operands, operands_node}
use Rattle.uvl_functions.specs.Functions.{model_function}
use Rattle.uvl_functions.specs.Groups.{rows_groups, tree_groups, rule_groups, rules_groups, compile_groups}
use Rattle.uvl_functions.specs.RuleParts.{Parts, parts_node, parts_of, group_of, operator, opposite}

-- each group has at most n functions
abbrev pub Few : ℕ → List (List Function) → Type 0
Few n [] = ⊤
Few n (g ∷ gs) = (length g ≤ n) × Few n gs

few-more : (n m : ℕ) (gs : List (List Function)) → n ≤ m → Few n gs → Few m gs
few-more n m [] less few = tt
few-more n m (g ∷ gs) less few = (omega (arith, few.0), few-more n m gs less few.1)

few-append : (n : ℕ) (gs hs : List (List Function)) → Few n gs → Few n hs → Few n (gs ++ hs)
few-append n [] hs one two = two
few-append n (g ∷ gs) hs one two = (one.0, few-append n gs hs one.1 two)

pub few-in : (n : ℕ) (gs : List (List Function)) (g : List Function) → Few n gs → In g gs → length g ≤ n
few-in n [] g few is = absurd is
few-in n (h ∷ gs) g few (inl same) = subst (λ (k : List Function). length k ≤ n) same few.0
few-in n (h ∷ gs) g few (inr rest) = few-in n gs g few.1 rest

-- two functions more in each
few-with_two : (n : ℕ) (f h : Function) (gs : List (List Function)) → Few n gs → Few (n + 2) (map (λ g. g ++ f ∷ h ∷ []) gs)
few-with_two n f h [] few = tt
few-with_two n f h (g ∷ gs) few = (omega (arith, length-append g (f ∷ h ∷ []), few.0), few-with_two n f h gs few.1)

group-length : (whole : Function) (operands beside : List Function) → length (group_of whole operands beside) ≡ 2 * (length operands + 1) + length beside
group-length whole operands beside =
    let all = length-append (whole ∷ operands) (map opposite (whole ∷ operands) ++ beside) in
    let back = length-append (map opposite (whole ∷ operands)) beside in
    let same = length-map (whole ∷ operands) opposite in
    omega arith

module _ (vars : List Var) (features : List FeatureRow) where
  -- the groups of a rule are small: a subrule has few operands, and stands in few right operands
  abbrev IsSmall : Rule → Type 0
  IsSmall rule = (beside : List Function) → Few (6 + length beside + right_operands rule) ((parts_of vars features rule).groups beside)

  abbrev SmallRule : Type 0
  SmallRule = (rule : Rule) × IsSmall rule

  parts : (x : Rule-F Rule) → parts_of vars features (roll-Rule x) ≡ parts_node vars features (map-Rule Rule Parts (parts_of vars features) x)
  parts = fold-roll-Rule Parts (parts_node vars features)

  operands : (x : Rule-F Rule) → right_operands (roll-Rule x) ≡ operands_node (map-Rule Rule ℕ right_operands x)
  operands = fold-roll-Rule ℕ operands_node

  -- an operator
  both : (whole : Function) (l r : SmallRule) (beside : List Function)
      → Few (6 + length beside + max (right_operands l.0) (right_operands r.0 + 1)) ((operator whole (parts_of vars features l.0) (parts_of vars features r.0)).groups beside)
  both whole l r beside =
      let m = max (right_operands l.0) (right_operands r.0 + 1) in
      let f = (parts_of vars features l.0).whole in
      let g = (parts_of vars features r.0).whole in
      let size = group-length whole (f ∷ g ∷ []) beside in
      let left = le-max_left (right_operands l.0) (right_operands r.0 + 1) in
      let right = le-max_right (right_operands l.0) (right_operands r.0 + 1) in
      let own : length (group_of whole (f ∷ g ∷ []) beside) ≤ 6 + length beside + m = omega arith in (
        own,
        few-append (6 + length beside + m) ((parts_of vars features l.0).groups beside) ((parts_of vars features r.0).groups (f ∷ beside))
            (few-more (6 + length beside + right_operands l.0) (6 + length beside + m) ((parts_of vars features l.0).groups beside) (omega arith) (l.1 beside))
            (few-more (6 + length (f ∷ beside) + right_operands r.0) (6 + length beside + m) ((parts_of vars features r.0).groups (f ∷ beside)) (omega arith) (r.1 (f ∷ beside))),
      )

  -- a node, by what its operands have
  to : (x : Rule-F Rule) (beside : List Function)
      → Few (6 + length beside + operands_node (map-Rule Rule ℕ right_operands x)) ((parts_node vars features (map-Rule Rule Parts (parts_of vars features) x)).groups beside)
      → Few (6 + length beside + right_operands (roll-Rule x)) ((parts_of vars features (roll-Rule x)).groups beside)
  to x beside few =
      subst (λ (n : ℕ). Few (6 + length beside + n) ((parts_of vars features (roll-Rule x)).groups beside)) (sym (operands x))
      (subst (λ (p : Parts). Few (6 + length beside + operands_node (map-Rule Rule ℕ right_operands x)) (p.groups beside)) (sym (parts x)) few)

  node : (y : Rule-F SmallRule) → IsSmall (roll-Rule (map-Rule SmallRule Rule (λ e. e.0) y))
  node (Rule-F.Feature f) beside =
      let size = group-length (parts_node vars features (Rule-F.Feature f)).whole [] beside in
      to (Rule-F.Feature f) beside (omega arith, tt)
  node (Rule-F.Not p) beside =
      let q = parts_of vars features p.0 in
      let size = group-length (opposite q.whole) (q.whole ∷ []) beside in
      to (Rule-F.Not p.0) beside (omega arith, p.1 beside)
  node (Rule-F.And l r) beside = to (Rule-F.And l.0 r.0) beside (both (λ a. (parts_of vars features l.0).whole a && (parts_of vars features r.0).whole a) l r beside)
  node (Rule-F.Or l r) beside = to (Rule-F.Or l.0 r.0) beside (both (λ a. (parts_of vars features l.0).whole a || (parts_of vars features r.0).whole a) l r beside)
  node (Rule-F.Implies l r) beside = to (Rule-F.Implies l.0 r.0) beside (both (λ a. not ((parts_of vars features l.0).whole a) || (parts_of vars features r.0).whole a) l r beside)
  node (Rule-F.Iff l r) beside = to (Rule-F.Iff l.0 r.0) beside (both (λ a. beq ((parts_of vars features l.0).whole a) ((parts_of vars features r.0).whole a)) l r beside)
  node (Rule-F.Compare how l r) beside =
      let size = group-length (parts_node vars features (Rule-F.Compare how l r)).whole [] beside in
      to (Rule-F.Compare how l r) beside (omega arith, tt)

  pub small : (rule : Rule) → IsSmall rule
  small = ind-Rule IsSmall (λ x y is. subst (λ (z : Rule-F Rule). IsSmall (roll-Rule z)) is (node y))

module _ (vars : List Var) where
  few-rules : (rows : Rows) (front rules : List Rule) → All (IsRule rows) rules → Few (8 + most_right_operands) (rules_groups vars rows front rules)
  few-rules rows front [] sound = tt
  few-rules rows front (rule ∷ rules) sound =
      let shallow = (All-head (IsRule rows) rule rules sound).shallow in
      let own = few-more (6 + 0 + right_operands rule) (6 + most_right_operands) (rule_groups vars rows.features rule) (omega arith) (small vars rows.features rule []) in
      few-append (8 + most_right_operands)
      (map (λ g. g ++ model_function vars rows front ∷ model_function vars rows (front ++ rule ∷ []) ∷ []) (rule_groups vars rows.features rule))
      (rules_groups vars rows (front ++ rule ∷ []) rules)
      (few-with_two (6 + most_right_operands) (model_function vars rows front) (model_function vars rows (front ++ rule ∷ [])) (rule_groups vars rows.features rule) own)
      (few-rules rows (front ++ rule ∷ []) rules (All-tail (IsRule rows) rule rules sound))

  few-rows : (groups : List GroupRow) → Few (8 + most_right_operands) (rows_groups vars groups)
  few-rows [] = tt
  few-rows (row ∷ rows) = (omega arith, few-rows rows)

  pub few-all : (rows : Rows) → All (IsRule rows) rows.rules → Few (8 + most_right_operands) (compile_groups vars rows)
  few-all rows sound =
      few-append (8 + most_right_operands) (tree_groups vars rows) (rules_groups vars rows [] rows.rules)
      (omega arith, few-rows rows.groups) (few-rules rows [] rows.rules sound)

-- so many functions over n variables are less than enough
pub below-enough : (n h g b : ℕ) → h ≤ 25 → g ≤ 524 → b < (h + (2 * n + g)) * 2 ^ n → b < 2 ^ n * (2 ^ (n + 1) + 8 * n + 600)
below-enough n h g b few small below =
    let less : h + (2 * n + g) ≤ 2 ^ (n + 1) + 8 * n + 600 = omega arith in
    let more = mul-le-mul_right (2 ^ n) less in
    let turned = mul_comm (2 ^ (n + 1) + 8 * n + 600) (2 ^ n) in
    omega arith
