-- A node, by its operands: its function, its groups while the left one is held, and its number of nodes.
use Rattle.std.proofs.Common.{◌≡◌, ℕ, ◌+◌, ◌<◌, ◌≤◌, Bool, List, [], ◌∷◌, Some, Result, Ok, Err, IfOk, IfErr, ap, sym, ◌∙◌, subst, inl, inr, arith}
use Rattle.dd_store.specs.declared.refusal.Refusal.{Refusal}
use Rattle.dd_store.specs.declared.row.Var.{Var}
use Rattle.dd_store.specs.Changes.{Keeps}
use Rattle.dd_store.specs.Exhausted.{value_at}
use Rattle.dd_store.specs.Handles.{GainsHandle}
use Rattle.dd_store.specs.Size.{Function}
use Rattle.dd_store.specs.Table.{Table, value_of}
use Rattle.dd_store.proofs.SizeLemmas.{In}
use Rattle.uvl_model.specs.declared.rows.FeatureRow.{FeatureRow}
use Rattle.uvl_model.specs.declared.rule.Rule.{Rule}
use Rattle.uvl_model.specs.declared.rule.Rule.TheOpen.{Rule-F}
use Rattle.uvl_model.specs.declared.rule.Rule.TheFolds.{fold-roll-Rule, map-Rule}
use Rattle.uvl_model.specs.declared.rule.Rule.TheVariants as rule
use Rattle.uvl_model.specs.declared.rule.Rule.TheViews.{out-Rule, roll-out-Rule}
use Rattle.uvl_model.specs.Rules.{nodes_node, nodes_of}
use Rattle.uvl_model.proofs.Nodes.{nodes-And, nodes-Or, nodes-Implies, nodes-Iff}
use Rattle.uvl_functions.specs.Cause.{IsShortFor}
use Rattle.uvl_functions.specs.Functions.{rule_function}
use Rattle.uvl_functions.specs.Groups.{rule_groups}
use Rattle.uvl_functions.specs.RuleParts.{group_of, opposite}
use Rattle.uvl_rule.specs.declared.connective.Connective.{Connective}
use Rattle.uvl_rule.specs.declared.connective.Connective.TheVariants.{And, Or, Implies, Iff}
use Rattle.uvl_rule.specs.Connectives.{connection, connection_group}
use Rattle.uvl_rule.specs.Spine.{IsSpine, left_node, left_operand, above_node, groups_above, groups_beside}
use Rattle.uvl_rule.proofs.PartLemmas.{function-of}
use Rattle.uvl_functions.proofs.ShortLemmas.{AreCovered, cause-covered, told-behind_member}

-- the node is an operator with these operands
pub record IsJoined (vars : List Var) (features : List FeatureRow) (c : Connective) (node l r : Rule) : Type 0 where
  pub left : left_operand node ≡ Some l
  pub function : rule_function vars features node ≡ connection c (rule_function vars features l) (rule_function vars features r)
  pub above : groups_above vars features node ≡ groups_beside c vars features (rule_function vars features l) r
  pub nodes : nodes_of node ≡ 1 + nodes_of l + nodes_of r

module _ (vars : List Var) (features : List FeatureRow) (l r : Rule) where
  pub joined-And : IsJoined vars features And (rule.And l r) l r
  joined-And = record {
    left = ap left_node (rule.outs-And l r);
    function = ap (rule_function vars features) (sym (rule.rolls-And l r)) ∙ function-of vars features (Rule-F.And l r);
    above = ap (above_node vars features) (rule.outs-And l r);
    nodes = nodes-And l r;
  }

  pub joined-Or : IsJoined vars features Or (rule.Or l r) l r
  joined-Or = record {
    left = ap left_node (rule.outs-Or l r);
    function = ap (rule_function vars features) (sym (rule.rolls-Or l r)) ∙ function-of vars features (Rule-F.Or l r);
    above = ap (above_node vars features) (rule.outs-Or l r);
    nodes = nodes-Or l r;
  }

  pub joined-Implies : IsJoined vars features Implies (rule.Implies l r) l r
  joined-Implies = record {
    left = ap left_node (rule.outs-Implies l r);
    function = ap (rule_function vars features) (sym (rule.rolls-Implies l r)) ∙ function-of vars features (Rule-F.Implies l r);
    above = ap (above_node vars features) (rule.outs-Implies l r);
    nodes = nodes-Implies l r;
  }

  pub joined-Iff : IsJoined vars features Iff (rule.Iff l r) l r
  joined-Iff = record {
    left = ap left_node (rule.outs-Iff l r);
    function = ap (rule_function vars features) (sym (rule.rolls-Iff l r)) ∙ function-of vars features (Rule-F.Iff l r);
    above = ap (above_node vars features) (rule.outs-Iff l r);
    nodes = nodes-Iff l r;
  }

-- the value is that of the node's left operand
abbrev pub IsLeft : List Var → List FeatureRow → Rule → Function → Type 0
IsLeft vars features node f = (left : Rule) × (left_operand node ≡ Some left) × (f ≡ rule_function vars features left)

left-value : (vars : List Var) (features : List FeatureRow) (node l : Rule) (f : Function) → left_operand node ≡ Some l → IsLeft vars features node f → f ≡ rule_function vars features l
left-value vars features node l f is (left, of, value) = let same : left ≡ l = cc in value ∙ ap (rule_function vars features) same

module _ (vars : List Var) (features : List FeatureRow) (c : Connective) (node l r r' : Rule) (joined : IsJoined vars features c node l r) (same : r' ≡ r) (s t : Table) (made : ℕ)
    (left : IsLeft vars features node (value_at s made)) (result : Result ℕ Refusal) where
  pub climbed-told : IfOk result (λ h. value_at t h ≡ connection c (value_at s made) (rule_function vars features r')) → IfOk result (λ h. value_at t h ≡ rule_function vars features node)
  climbed-told =
      subst (λ (f : Function). IfOk result (λ h. value_at t h ≡ f))
      (ap (λ (f : Function). connection c f (rule_function vars features r')) (left-value vars features node l (value_at s made) joined.left left)
      ∙ ap (λ (q : Rule). connection c (rule_function vars features l) (rule_function vars features q)) same ∙ sym joined.function)

  pub climbed-cause : IfErr result (IsShortFor s (groups_beside c vars features (value_at s made) r')) → IfErr result (IsShortFor s (groups_above vars features node))
  climbed-cause =
      subst (λ (gs : List (List Function)). IfErr result (IsShortFor s gs))
      (ap (λ (f : Function). groups_beside c vars features f r') (left-value vars features node l (value_at s made) joined.left left)
      ∙ ap (λ (q : Rule). groups_beside c vars features (rule_function vars features l) q) same ∙ sym joined.above)

-- the opposite of its operand
module _ (vars : List Var) (features : List FeatureRow) (node p : Rule) (is : node ≡ rule.Not p) (s t : Table) (made : ℕ) (left : IsLeft vars features node (value_at s made)) (result : Result ℕ Refusal) where
  operand : value_at s made ≡ rule_function vars features p
  operand = left-value vars features node p (value_at s made) (ap left_operand is ∙ ap left_node (rule.outs-Not p)) left

  pub negated-told : IfOk result (λ h. value_at t h ≡ opposite (value_at s made)) → IfOk result (λ h. value_at t h ≡ rule_function vars features node)
  negated-told =
      subst (λ (f : Function). IfOk result (λ h. value_at t h ≡ f))
      (ap opposite operand ∙ sym (ap (rule_function vars features) (is ∙ sym (rule.rolls-Not p)) ∙ function-of vars features (Rule-F.Not p)))

  pub negated-cause : IfErr result (IsShortFor s (group_of (opposite (value_at s made)) (value_at s made ∷ []) [] ∷ [])) → IfErr result (IsShortFor s (groups_above vars features node))
  negated-cause =
      subst (λ (gs : List (List Function)). IfErr result (IsShortFor s gs))
      (ap (λ (f : Function). group_of (opposite f) (f ∷ []) [] ∷ []) operand ∙ sym (ap (groups_above vars features) is ∙ ap (above_node vars features) (rule.outs-Not p)))

-- among more groups
pub more-covered : (order : List Var) (held : List Function) (gs hs : List (List Function)) → ((g : List Function) → In g gs → In g hs) → AreCovered order held held gs hs
more-covered order held gs hs more g i = (g, more g i, λ f h. inl h, λ f h. inr (inr (inl h)))

-- an operator's groups while its left operand is held: those of the right one are among them
pub right-cause : (vars : List Var) (features : List FeatureRow) (c : Connective) (f : Function) (r : Rule) (t : Table) (refusal : Refusal) → IsShortFor t (rule_groups vars features r) refusal
    → IsShortFor t (groups_beside c vars features f r) refusal
right-cause vars features c f r t refusal =
    cause-covered t (rule_groups vars features r) (groups_beside c vars features f r) refusal
    (λ held. more-covered t.order held (rule_groups vars features r) (groups_beside c vars features f r) (λ g i. inr i))

first-cause : (vars : List Var) (features : List FeatureRow) (c : Connective) (f : Function) (r : Rule) (t : Table) (result : Result ℕ Refusal)
    → IfErr result (IsShortFor t (connection_group c f (rule_function vars features r) ∷ [])) → IfErr result (IsShortFor t (groups_beside c vars features f r))
first-cause vars features c f r t (Ok h) cause = tt
first-cause vars features c f r t (Err refusal) cause =
    cause-covered t (connection_group c f (rule_function vars features r) ∷ []) (groups_beside c vars features f r) refusal
    (λ held. more-covered t.order held (connection_group c f (rule_function vars features r) ∷ []) (groups_beside c vars features f r) among) cause
  where
    among : (g : List Function) → In g (connection_group c f (rule_function vars features r) ∷ []) → In g (groups_beside c vars features f r)
    among g (inl is) = inl is
    among g (inr none) = absurd none

-- the right operand is made, and both are joined
module _ (vars : List Var) (features : List FeatureRow) (c : Connective) (r : Rule) (s t u : Table) (made h : ℕ) (result : Result ℕ Refusal) (stays : value_at t made ≡ value_at s made)
    (right : (x : ℕ → Bool) → value_of t h x ≡ rule_function vars features r x) where
  right-is : value_at t h ≡ rule_function vars features r
  right-is = λ i x. right x i

  pub both-told : IfOk result (λ k. value_at u k ≡ connection c (value_at t made) (value_at t h)) → IfOk result (λ k. value_at u k ≡ connection c (value_at s made) (rule_function vars features r))
  both-told =
      subst (λ (f : Function). IfOk result (λ k. value_at u k ≡ f))
      (ap (λ (f : Function). connection c f (value_at t h)) stays ∙ ap (λ (g : Function). connection c (value_at s made) g) right-is)

  pub both-cause : Keeps s t → GainsHandle s t h → IfErr result (IsShortFor t (connection_group c (value_at t made) (value_at t h) ∷ []))
      → IfErr result (IsShortFor s (groups_beside c vars features (value_at s made) r))
  both-cause keeps gain cause =
      first-cause vars features c (value_at s made) r s result
      (told-behind_member s t h (connection_group c (value_at s made) (rule_function vars features r)) result keeps gain (inr (inr (inl (sym right-is))))
      (subst (λ (f : Function). IfErr result (IsShortFor t (connection_group c (value_at s made) f ∷ []))) right-is
      (subst (λ (f : Function). IfErr result (IsShortFor t (connection_group c f (value_at t h) ∷ []))) stays cause)))

-- a left operand has fewer nodes
left-nodes : (x : Rule-F Rule) (left : Rule) → left_node x ≡ Some left → nodes_of left < nodes_node (map-Rule Rule ℕ nodes_of x)
left-nodes (Rule-F.Feature f) left is = absurd (cc)
left-nodes (Rule-F.Not p) left is = let same : left ≡ p = cc in subst (λ (q : Rule). nodes_of q < 1 + nodes_of p) (sym same) (omega arith)
left-nodes (Rule-F.And l r) left is = let same : left ≡ l = cc in subst (λ (q : Rule). nodes_of q < 1 + nodes_of l + nodes_of r) (sym same) (omega arith)
left-nodes (Rule-F.Or l r) left is = let same : left ≡ l = cc in subst (λ (q : Rule). nodes_of q < 1 + nodes_of l + nodes_of r) (sym same) (omega arith)
left-nodes (Rule-F.Implies l r) left is = let same : left ≡ l = cc in subst (λ (q : Rule). nodes_of q < 1 + nodes_of l + nodes_of r) (sym same) (omega arith)
left-nodes (Rule-F.Iff l r) left is = let same : left ≡ l = cc in subst (λ (q : Rule). nodes_of q < 1 + nodes_of l + nodes_of r) (sym same) (omega arith)
left-nodes (Rule-F.Compare how l r) left is = absurd (cc)

nodes-less : (node left : Rule) → left_operand node ≡ Some left → nodes_of left < nodes_of node
nodes-less node left is =
    let less = left-nodes (out-Rule node) left is in
    let count = ap nodes_of (sym (roll-out-Rule node)) ∙ fold-roll-Rule ℕ nodes_node (out-Rule node) in
    subst (λ (n : ℕ). nodes_of left < n) (sym count) less

-- what stands on a spine has no more nodes than the rule
pub spine-nodes : (nodes : List Rule) (part rule : Rule) → IsSpine nodes part rule → nodes_of part ≤ nodes_of rule
spine-nodes [] part rule is = let same = ap nodes_of is in omega arith
spine-nodes (node ∷ nodes) part rule (is, (left, of, rest)) =
    let below = spine-nodes nodes part left rest in
    let less = nodes-less node left of in
    let same = ap nodes_of is in
    omega arith
