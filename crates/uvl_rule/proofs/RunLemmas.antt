-- What runs of nodes make of the part below them, in any grouping.
use Rattle.std.proofs.Common.{◌≡◌, ℕ, ◌+◌, ◌<◌, ◌≤◌, Bool, true, false, ◌&&◌, ◌||◌, List, [], ◌∷◌, ◌++◌, length, take, drop, get_or, Some, None, refl, ap, sym, ◌∙◌, subst, inl, inr, arith}
use Rattle.std.specs.Borrow.{Bor}
use Rattle.std.specs.List.{All}
use Rattle.std.proofs.lemmas.Bool.{false≢true}
use Rattle.std.proofs.lemmas.List.{map-append, take-append-drop}
use Rattle.std.proofs.lemmas.List.Elements.{All-head, All-tail}
use Rattle.dd_store.specs.declared.row.Var.{Var}
use Rattle.dd_store.specs.Size.{Function}
use Rattle.uvl_functions.specs.Functions.{rule_function}
use Rattle.uvl_functions.specs.RuleParts.{opposite}
use Rattle.uvl_model.specs.declared.rows.FeatureRow.{FeatureRow}
use Rattle.uvl_model.specs.declared.rule.Rule.{Rule}
use Rattle.uvl_model.specs.declared.rule.Rule.TheOpen.{Rule-F}
use Rattle.uvl_model.specs.declared.rule.Rule.TheFolds.{fold-roll-Rule, map-Rule}
use Rattle.uvl_model.specs.declared.rule.Rule.TheViews.{out-Rule, roll-Rule, roll-out-Rule}
use Rattle.uvl_model.specs.Rules.{nodes_node, nodes_of}
use Rattle.uvl_rule.specs.declared.connective.Connective.{Connective}
use Rattle.uvl_rule.specs.declared.connective.Connective.TheVariants.{And, Or, Implies, Iff}
use Rattle.uvl_rule.specs.Connectives.{connected, connection}
use Rattle.uvl_rule.specs.Run.{IsRun, connective_node, connective_of, function_or_no, gathered, nodes_or_none, regroups, right_node, right_operand, weight}
use Rattle.uvl_rule.specs.Spine.{IsSpine, left_node, left_operand, rules_at}
use Rattle.uvl_rule.proofs.PartLemmas.{function-of}

and-swapped : (p q : Bool) → (p && q) ≡ (q && p)
and-swapped true true = refl
and-swapped true false = refl
and-swapped false true = refl
and-swapped false false = refl

or-swapped : (p q : Bool) → (p || q) ≡ (q || p)
or-swapped true true = refl
or-swapped true false = refl
or-swapped false true = refl
or-swapped false false = refl

-- two groupings, and another order
grouped : (c : Connective) → regroups c ≡ true → (p q r : Bool) → connected c (connected c p q) r ≡ connected c p (connected c q r)
grouped And is true q r = refl
grouped And is false q r = refl
grouped Or is true q r = refl
grouped Or is false q r = refl
grouped Implies is p q r = absurd (false≢true is)
grouped Iff is p q r = absurd (false≢true is)

swapped : (c : Connective) → regroups c ≡ true → (p q r : Bool) → connected c (connected c p q) r ≡ connected c p (connected c r q)
swapped And is true q r = and-swapped q r
swapped And is false q r = refl
swapped Or is true q r = refl
swapped Or is false q r = or-swapped q r
swapped Implies is p q r = absurd (false≢true is)
swapped Iff is p q r = absurd (false≢true is)

module _ (vars : List Var) (features : List FeatureRow) where
  -- a node by its operands
  joined-node : (x : Rule-F Rule) (left : Rule) (c : Connective) → left_node x ≡ Some left → connective_node x ≡ Some c
      → rule_function vars features (roll-Rule x) ≡ connection c (rule_function vars features left) (function_or_no vars features (right_node x))
  joined-node (Rule-F.Feature f) left c of is = absurd (cc)
  joined-node (Rule-F.Not p) left c of is = absurd (cc)
  joined-node (Rule-F.And l r) left c of is =
      let one : And ≡ c = cc in
      let two : l ≡ left = cc in
      function-of vars features (Rule-F.And l r) ∙ ap (λ (k : Connective). connection k (rule_function vars features l) (rule_function vars features r)) one
      ∙ ap (λ (q : Rule). connection c (rule_function vars features q) (rule_function vars features r)) two
  joined-node (Rule-F.Or l r) left c of is =
      let one : Or ≡ c = cc in
      let two : l ≡ left = cc in
      function-of vars features (Rule-F.Or l r) ∙ ap (λ (k : Connective). connection k (rule_function vars features l) (rule_function vars features r)) one
      ∙ ap (λ (q : Rule). connection c (rule_function vars features q) (rule_function vars features r)) two
  joined-node (Rule-F.Implies l r) left c of is =
      let one : Implies ≡ c = cc in
      let two : l ≡ left = cc in
      function-of vars features (Rule-F.Implies l r) ∙ ap (λ (k : Connective). connection k (rule_function vars features l) (rule_function vars features r)) one
      ∙ ap (λ (q : Rule). connection c (rule_function vars features q) (rule_function vars features r)) two
  joined-node (Rule-F.Iff l r) left c of is =
      let one : Iff ≡ c = cc in
      let two : l ≡ left = cc in
      function-of vars features (Rule-F.Iff l r) ∙ ap (λ (k : Connective). connection k (rule_function vars features l) (rule_function vars features r)) one
      ∙ ap (λ (q : Rule). connection c (rule_function vars features q) (rule_function vars features r)) two
  joined-node (Rule-F.Compare how l r) left c of is = absurd (cc)

  opposite-node : (x : Rule-F Rule) (left : Rule) → left_node x ≡ Some left → connective_node x ≡ None
      → rule_function vars features (roll-Rule x) ≡ opposite (rule_function vars features left)
  opposite-node (Rule-F.Feature f) left of is = absurd (cc)
  opposite-node (Rule-F.Not p) left of is =
      let two : p ≡ left = cc in
      function-of vars features (Rule-F.Not p) ∙ ap (λ (q : Rule). opposite (rule_function vars features q)) two
  opposite-node (Rule-F.And l r) left of is = absurd (cc)
  opposite-node (Rule-F.Or l r) left of is = absurd (cc)
  opposite-node (Rule-F.Implies l r) left of is = absurd (cc)
  opposite-node (Rule-F.Iff l r) left of is = absurd (cc)
  opposite-node (Rule-F.Compare how l r) left of is = absurd (cc)

  joined : (node left : Rule) (c : Connective) → left_operand node ≡ Some left → connective_of node ≡ Some c
      → rule_function vars features node ≡ connection c (rule_function vars features left) (function_or_no vars features (right_operand node))
  joined node left c of is = ap (rule_function vars features) (sym (roll-out-Rule node)) ∙ joined-node (out-Rule node) left c of is

  -- one node above a part
  one-joined : (node part top : Rule) (c : Connective) → connective_of node ≡ Some c → IsSpine (node ∷ []) part top
      → rule_function vars features top ≡ connection c (rule_function vars features part) (gathered c vars features (node ∷ []))
  one-joined node part top c is (same, (left, of, below)) =
      ap (rule_function vars features) (sym same) ∙ joined node left c of is
      ∙ ap (λ (q : Rule). connection c (rule_function vars features q) (function_or_no vars features (right_operand node))) (sym below)

  -- a chain above a part
  chain-joined : (c : Connective) → regroups c ≡ true → (node : Rule) (nodes : List Rule) (part top : Rule)
      → All (λ (n : Rule). connective_of n ≡ Some c) (node ∷ nodes) → IsSpine (node ∷ nodes) part top
      → rule_function vars features top ≡ connection c (rule_function vars features part) (gathered c vars features (node ∷ nodes))
  chain-joined c is node [] part top all spine = one-joined node part top c (All-head (λ (n : Rule). connective_of n ≡ Some c) node [] all) spine
  chain-joined c is node (next ∷ nodes) part top all (same, (left, of, rest)) =
      let right = function_or_no vars features (right_operand node) in
      let others = gathered c vars features (next ∷ nodes) in
      let P : Rule → Type 0 = λ n. connective_of n ≡ Some c in
      ap (rule_function vars features) (sym same) ∙ joined node left c of (All-head P node (next ∷ nodes) all)
      ∙ ap (λ (f : Function). connection c f right) (chain-joined c is next nodes part left (All-tail P node (next ∷ nodes) all) rest)
      ∙ (λ i a. swapped c is (rule_function vars features part a) (others a) (right a) i)

  -- a run above a part: an operator and what it makes of the right operands, or the opposite
  pub run-joined : (run : List (Bor Rule)) (first : Bor Rule) (part top : Rule) (c : Connective) → first ≡ get_or run 0 first → 0 < length run
      → connective_of first.now ≡ Some c → IsRun (rules_at run) → IsSpine (rules_at run) part top
      → rule_function vars features top ≡ connection c (rule_function vars features part) (gathered c vars features (rules_at run))
  run-joined [] first part top c at some is run spine = absurd (omega arith)
  run-joined (node ∷ []) first part top c at some is run spine =
      one-joined node.now part top c (subst (λ (n : Bor Rule). connective_of n.now ≡ Some c) at is) spine
  run-joined (node ∷ next ∷ nodes) first part top c at some is (inl one) spine = absurd (omega arith)
  run-joined (node ∷ next ∷ nodes) first part top c at some is (inr (d, groups, all)) spine =
      let here = subst (λ (n : Bor Rule). connective_of n.now ≡ Some c) at is in
      let head = All-head (λ (n : Rule). connective_of n ≡ Some d) node.now (rules_at (next ∷ nodes)) all in
      let same : d ≡ c = cc in
      chain-joined c (subst (λ (k : Connective). regroups k ≡ true) same groups) node.now (rules_at (next ∷ nodes)) part top
      (subst (λ (k : Connective). All (λ (n : Rule). connective_of n ≡ Some k) (rules_at (node ∷ next ∷ nodes))) same all) spine

  pub run-opposite : (run : List (Bor Rule)) (first : Bor Rule) (part top : Rule) → first ≡ get_or run 0 first → 0 < length run
      → connective_of first.now ≡ None → IsRun (rules_at run) → IsSpine (rules_at run) part top → rule_function vars features top ≡ opposite (rule_function vars features part)
  run-opposite [] first part top at some is run spine = absurd (omega arith)
  run-opposite (node ∷ []) first part top at some is run (same, (left, of, below)) =
      let here = subst (λ (n : Bor Rule). connective_of n.now ≡ None) at is in
      ap (rule_function vars features) (sym same ∙ sym (roll-out-Rule node.now)) ∙ opposite-node (out-Rule node.now) left of here
      ∙ ap (λ (q : Rule). opposite (rule_function vars features q)) (sym below)
  run-opposite (node ∷ next ∷ nodes) first part top at some is (inl one) spine = absurd (omega arith)
  run-opposite (node ∷ next ∷ nodes) first part top at some is (inr (d, groups, all)) spine =
      let here = subst (λ (n : Bor Rule). connective_of n.now ≡ None) at is in
      let head = All-head (λ (n : Rule). connective_of n ≡ Some d) node.now (rules_at (next ∷ nodes)) all in
      absurd (cc)

  -- right operands in two parts
  gathered-parts : (c : Connective) → regroups c ≡ true → (x : Rule) (xs : List Rule) (y : Rule) (ys : List Rule)
      → gathered c vars features ((x ∷ xs) ++ (y ∷ ys)) ≡ connection c (gathered c vars features (x ∷ xs)) (gathered c vars features (y ∷ ys))
  gathered-parts c is x [] y ys = refl
  gathered-parts c is x (z ∷ zs) y ys =
      let first = function_or_no vars features (right_operand x) in
      let front = gathered c vars features (z ∷ zs) in
      let back = gathered c vars features (y ∷ ys) in
      ap (λ (f : Function). connection c first f) (gathered-parts c is z zs y ys) ∙ (λ i a. sym (grouped c is (first a) (front a) (back a)) i)

  pub gathered-append : (c : Connective) → regroups c ≡ true → (run front back : List (Bor Rule)) → run ≡ front ++ back → 0 < length front → 0 < length back
      → connection c (gathered c vars features (rules_at front)) (gathered c vars features (rules_at back)) ≡ gathered c vars features (rules_at run)
  gathered-append c is run [] back parts some more = absurd (omega arith)
  gathered-append c is run (x ∷ xs) [] parts some more = absurd (omega arith)
  gathered-append c is run (x ∷ xs) (y ∷ ys) parts some more =
      sym (ap (λ (nodes : List (Bor Rule)). gathered c vars features (rules_at nodes)) parts
      ∙ ap (gathered c vars features) (map-append (λ (n : Bor Rule). n.now) (x ∷ xs) (y ∷ ys))
      ∙ gathered-parts c is x.now (rules_at xs) y.now (rules_at ys))

-- two parts of a list
pub split-parts : (run front back : List (Bor Rule)) (n : ℕ) → front ≡ take n run → back ≡ drop n run → run ≡ front ++ back
split-parts run front back n one two =
    sym (ap (λ (xs : List (Bor Rule)). xs ++ back) one ∙ ap (λ (ys : List (Bor Rule)). take n run ++ ys) two ∙ take-append-drop n run)

weight-append : (xs ys : List Rule) → weight (xs ++ ys) ≡ weight xs + weight ys
weight-append [] ys = omega arith
weight-append (x ∷ xs) ys = let rest = weight-append xs ys in omega arith

weight-some : (ys : List (Bor Rule)) → 0 < length ys → 0 < weight (rules_at ys)
weight-some [] some = absurd (omega arith)
weight-some (y ∷ ys) some = omega arith

-- each of two parts weighs less
pub parts-lighter : (run front back : List (Bor Rule)) → run ≡ front ++ back → 0 < length front → 0 < length back
    → (weight (rules_at front) < weight (rules_at run)) × (weight (rules_at back) < weight (rules_at run))
parts-lighter run front back parts one two =
    let sum = ap (λ (nodes : List (Bor Rule)). weight (rules_at nodes)) parts ∙ ap weight (map-append (λ (n : Bor Rule). n.now) front back)
    ∙ weight-append (rules_at front) (rules_at back) in
    let first = weight-some front one in
    let second = weight-some back two in
    (omega arith, omega arith)

-- a spine in two parts
spine-split : (xs ys : List Rule) (part rule : Rule) → IsSpine (xs ++ ys) part rule → (top : Rule) × IsSpine xs top rule × IsSpine ys part top
spine-split [] ys part rule spine = (rule, refl, spine)
spine-split (x ∷ xs) ys part rule (is, (left, of, rest)) =
    let (top, above, below) = spine-split xs ys part left rest in
    (top, (is, (left, of, above)), below)

pub spine-cut : (items run : List (Bor Rule)) (start : ℕ) (part rule : Rule) → run ≡ drop start items → IsSpine (rules_at items) part rule
    → (top : Rule) × IsSpine (rules_at (take start items)) top rule × IsSpine (rules_at run) part top
spine-cut items run start part rule is spine =
    let parts = ap rules_at (split-parts items (take start items) run start refl is) ∙ map-append (λ (n : Bor Rule). n.now) (take start items) run in
    spine-split (rules_at (take start items)) (rules_at run) part rule (subst (λ (nodes : List Rule). IsSpine nodes part rule) parts spine)

node-weight : (x : Rule-F Rule) (left : Rule) → left_node x ≡ Some left → 1 + nodes_or_none (right_node x) + nodes_of left ≡ nodes_node (map-Rule Rule ℕ nodes_of x)
node-weight (Rule-F.Feature f) left is = absurd (cc)
node-weight (Rule-F.Not p) left is = let same : nodes_of left ≡ nodes_of p = cc in omega arith
node-weight (Rule-F.And l r) left is = let same : nodes_of left ≡ nodes_of l = cc in omega arith
node-weight (Rule-F.Or l r) left is = let same : nodes_of left ≡ nodes_of l = cc in omega arith
node-weight (Rule-F.Implies l r) left is = let same : nodes_of left ≡ nodes_of l = cc in omega arith
node-weight (Rule-F.Iff l r) left is = let same : nodes_of left ≡ nodes_of l = cc in omega arith
node-weight (Rule-F.Compare how l r) left is = absurd (cc)

-- the nodes of a spine weigh no more than the rule has nodes
pub spine-weight : (nodes : List Rule) (part top : Rule) → IsSpine nodes part top → weight nodes + nodes_of part ≤ nodes_of top
spine-weight [] part top is = let same = ap nodes_of is in omega arith
spine-weight (node ∷ nodes) part top (is, (left, of, rest)) =
    let below = spine-weight nodes part left rest in
    let here = node-weight (out-Rule node) left of in
    let count = ap nodes_of (sym (roll-out-Rule node)) ∙ fold-roll-Rule ℕ nodes_node (out-Rule node) in
    let same = ap nodes_of is in
    omega arith
