-- What is wrong first in an expression, node by node.
use Rattle.std.proofs.Common.{◌≡◌, ℕ, ℤ, Bool, true, not, List, Option, sym, ap, ◌∙◌, subst, if◌then◌else◌}
use Rattle.std.specs.Option.{option_or}
use Rattle.uvl_base.specs.declared.fault.FaultKind.TheVariants.{WrongSort}
use Rattle.uvl_base.specs.declared.place.Place.{Place}
use Rattle.uvl_ast.specs.declared.feature.Attribute.{Attribute}
use Rattle.uvl_ast.specs.declared.names.Ref.{Ref}
use Rattle.uvl_ast.specs.declared.expression.BinOp.{BinOp}
use Rattle.uvl_ast.specs.declared.expression.Expr.{Expr, roll-Expr}
use Rattle.uvl_ast.specs.declared.expression.Expr.TheVariants as expr
use Rattle.uvl_ast.specs.declared.expression.Expr.TheVariants.{rolls-Number, rolls-Name, rolls-Sum, rolls-Not, rolls-Binary}
use Rattle.uvl_ast.specs.declared.expression.Expr.TheOpen.{Expr-F}
use Rattle.uvl_ast.specs.declared.expression.Expr.TheFolds.{fold-roll-Expr, ind-Expr, map-Expr}
use Rattle.uvl_placing.specs.Names.{dotted}
use Rattle.uvl_scope.specs.declared.factors.Factor.{Factor}
use Rattle.uvl_scope.specs.Firsts.{when}
use Rattle.uvl_scope.specs.LineFaults.{Finding, finding}
use Rattle.uvl_scope.specs.NumberFaults.{Part, factor_at, factor_of, fault_of_number, fault_of_operator, fault_of_truth, fault_within, part_at, part_of}
use Rattle.uvl_scope.specs.Rules.{joins_truths}
use Rattle.uvl_scope.proofs.InOrder.{or_assoc}

module _ (names : List (List ℕ)) (attributes : List (List Attribute)) where
  part_roll : (x : Expr-F Expr) → part_of names attributes (roll-Expr x) ≡ part_at names attributes (map-Expr Expr Part (part_of names attributes) x)
  part_roll = fold-roll-Expr Part (part_at names attributes)

  -- a part sees the factor
  abbrev IsFactor : Expr → Type 0
  IsFactor e = (part_of names attributes e).factor ≡ factor_of e

  abbrev Factored : Type 0
  Factored = (e : Expr) × IsFactor e

  factor_node : (y : Expr-F Factored) → IsFactor (roll-Expr (map-Expr Factored Expr (λ e. e.0) y))
  factor_node (Expr-F.Number value place) =
      ap (λ (p : Part). p.factor) (part_roll (Expr-F.Number value place)) ∙ sym (fold-roll-Expr Factor factor_at (Expr-F.Number value place))
  factor_node (Expr-F.Name reference) =
      ap (λ (p : Part). p.factor) (part_roll (Expr-F.Name reference)) ∙ sym (fold-roll-Expr Factor factor_at (Expr-F.Name reference))
  factor_node (Expr-F.Sum key place) =
      ap (λ (p : Part). p.factor) (part_roll (Expr-F.Sum key place)) ∙ sym (fold-roll-Expr Factor factor_at (Expr-F.Sum key place))
  factor_node (Expr-F.Not operand place) =
      ap (λ (p : Part). p.factor) (part_roll (Expr-F.Not operand.0 place))
      ∙ ap (λ (f : Factor). factor_at (Expr-F.Not f place)) operand.1 ∙ sym (fold-roll-Expr Factor factor_at (Expr-F.Not operand.0 place))
  factor_node (Expr-F.Binary operator left right place) =
      ap (λ (p : Part). p.factor) (part_roll (Expr-F.Binary operator left.0 right.0 place))
      ∙ ap (λ (f : Factor). factor_at (Expr-F.Binary operator f (part_of names attributes right.0).factor place)) left.1
      ∙ ap (λ (f : Factor). factor_at (Expr-F.Binary operator (factor_of left.0) f place)) right.1
      ∙ sym (fold-roll-Expr Factor factor_at (Expr-F.Binary operator left.0 right.0 place))

  factor_is : (e : Expr) → IsFactor e
  factor_is = ind-Expr IsFactor (λ x y is. subst (λ (z : Expr-F Expr). IsFactor (roll-Expr z)) is (factor_node y))

  -- the fault of each kind of node
  pub fault_number : (v : ℤ) (p : Place) (b : Bool) → fault_within names attributes (expr.Number v p) b ≡ when b (finding WrongSort p)
  fault_number v p b =
      ap (λ e. fault_within names attributes e b) (sym (rolls-Number v p)) ∙ ap (λ (part : Part). part.fault b) (part_roll (Expr-F.Number v p))

  pub fault_sum : (name : List ℕ) (p : Place) (b : Bool) → fault_within names attributes (expr.Sum name p) b ≡ when b (finding WrongSort p)
  fault_sum name p b =
      ap (λ e. fault_within names attributes e b) (sym (rolls-Sum name p)) ∙ ap (λ (part : Part). part.fault b) (part_roll (Expr-F.Sum name p))

  pub fault_name : (r : Ref) (b : Bool)
      → fault_within names attributes (expr.Name r) b
      ≡ (if b then fault_of_truth names (dotted r.parts) r.place else fault_of_number names attributes r.parts r.place)
  fault_name r b =
      ap (λ e. fault_within names attributes e b) (sym (rolls-Name r)) ∙ ap (λ (part : Part). part.fault b) (part_roll (Expr-F.Name r))

  pub fault_not : (e : Expr) (p : Place) (b : Bool)
      → fault_within names attributes (expr.Not e p) b ≡ option_or (when (not b) (finding WrongSort p)) (fault_within names attributes e true)
  fault_not e p b =
      ap (λ e. fault_within names attributes e b) (sym (rolls-Not e p)) ∙ ap (λ (part : Part). part.fault b) (part_roll (Expr-F.Not e p))

  -- the left operand, then the operator, then the right operand
  pub fault_binary : (o : BinOp) (left right : Expr) (p : Place) (b : Bool)
      → fault_within names attributes (expr.Binary o left right p) b
      ≡ option_or (fault_within names attributes left (joins_truths o))
      (option_or (fault_of_operator o (factor_of left) (factor_of right) p b) (fault_within names attributes right (joins_truths o)))
  fault_binary o left right p b =
      ap (λ e. fault_within names attributes e b) (sym (rolls-Binary o left right p)) ∙ ap (λ (part : Part). part.fault b) (part_roll (Expr-F.Binary o left right p))
      ∙ ap (λ (f : Factor). option_or (fault_within names attributes left (joins_truths o))
      (option_or (fault_of_operator o f (part_of names attributes right).factor p b) (fault_within names attributes right (joins_truths o)))) (factor_is left)
      ∙ ap (λ (f : Factor). option_or (fault_within names attributes left (joins_truths o))
      (option_or (fault_of_operator o (factor_of left) f p b) (fault_within names attributes right (joins_truths o)))) (factor_is right)

  -- the same, as a walk down the left operands finds it
  pub fault_step : (whole : Option Finding) (current left right found_left found_right first second : Expr) (o : BinOp) (p : Place) (before truth : Bool)
      (here behind found new : Option Finding)
      → option_or (fault_within names attributes current before) found ≡ whole → current ≡ expr.Binary o left right p → truth ≡ joins_truths o
      → found_left ≡ left → found_right ≡ right → first ≡ left → second ≡ right → here ≡ fault_of_operator o (factor_of first) (factor_of second) p before
      → behind ≡ option_or here (fault_within names attributes found_right truth) → new ≡ option_or behind found
      → option_or (fault_within names attributes found_left truth) new ≡ whole
  fault_step whole current left right found_left found_right first second o p before truth here behind found new h is joins lefts rights firsts seconds here_is behind_is new_is =
      let f : Expr → Bool → Option Finding = λ e b. fault_within names attributes e b in
      let at : Option Finding = fault_of_operator o (factor_of left) (factor_of right) p before in
      let heres : here ≡ at =
      here_is ∙ ap (λ (e : Expr). fault_of_operator o (factor_of e) (factor_of second) p before) firsts
      ∙ ap (λ (e : Expr). fault_of_operator o (factor_of left) (factor_of e) p before) seconds in
      let behinds : behind ≡ option_or at (f right (joins_truths o)) =
      behind_is ∙ ap (λ (a : Option Finding). option_or a (f found_right truth)) heres
      ∙ ap (λ (e : Expr). option_or at (f e truth)) rights ∙ ap (λ (b : Bool). option_or at (f right b)) joins in
      ap (λ (n : Option Finding). option_or (f found_left truth) n) (new_is ∙ ap (λ (u : Option Finding). option_or u found) behinds)
      ∙ ap (λ (e : Expr). option_or (f e truth) (option_or (option_or at (f right (joins_truths o))) found)) lefts
      ∙ ap (λ (b : Bool). option_or (f left b) (option_or (option_or at (f right (joins_truths o))) found)) joins
      ∙ sym (or_assoc (f left (joins_truths o)) (option_or at (f right (joins_truths o))) found)
      ∙ ap (λ (u : Option Finding). option_or u found) (sym (fault_binary o left right p before))
      ∙ ap (λ (e : Expr). option_or (f e before) found) (sym is)
      ∙ h
