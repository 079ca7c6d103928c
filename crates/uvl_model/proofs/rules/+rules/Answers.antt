-- The whole is what the truth of the part makes of it, by what its operands are.
use Rattle.std.proofs.Common.{◌≡◌, ◌≤◌, Bool, not, ◌&&◌, ◌||◌, sym, ap, ◌∙◌, subst, arith}
use Rattle.std.specs.Bool.{beq}
use Rattle.uvl_model.specs.declared.numbers.Amount.{Amount}
use Rattle.uvl_model.specs.declared.rule.Number.{Number}
use Rattle.uvl_model.specs.declared.rule.Rule.{Rule}
use Rattle.uvl_model.specs.Amounts.{IsReadable, amount_of, most_terms, rule_is_met}
use Rattle.uvl_model.specs.Constraints.{comparison_of}
use Rattle.uvl_model.specs.Outcome.{outcome_at}
use Rattle.uvl_model.specs.Rules.{IsNumber, nodes_of, terms_of}
use Rattle.uvl_semantics.specs.Holding.{compares}
use Rattle.uvl_model.proofs.Nodes.{nodes-And, nodes-Iff, nodes-Implies, nodes-Or}
use Rattle.uvl_model.proofs.RuleSteps.{and_readable, iff_false, iff_readable, iff_true, implies_readable, met-And, met-Compare, met-Feature, met-Iff, met-Implies, met-Or, or_readable, outcome_step, sides}
use Rattle.uvl_model.proofs.rules.+rules.Goals as goal

pub returns-in-Feature : goal.returns-in-Feature
returns-in-Feature t c =
    let features = c.args.model.now.features in
    let marks = c.args.chosen.now in
    c.at.ensures
    ∙ ap (outcome_at c.loop-part.outcome) (c.is_chosen.ensures ∙ sym (ap (rule_is_met features marks) c.in-Feature.is ∙ met-Feature features marks c.in-Feature.f))
    ∙ sym c.loop-part.invariant.0

pub amount_of-left-requires-clause-number : goal.amount_of-left-requires-clause-number
amount_of-left-requires-clause-number t c =
    let two = sides c.args.model.now c.loop-part.part.now c.in-Compare.how c.in-Compare.left c.in-Compare.right c.in-Compare.is c.loop-part.invariant.2 in
    subst (λ (n : Number). IsNumber c.args.model.now n) (sym c.get.ensures) two.0.0

pub amount_of-left-requires-clause-few : goal.amount_of-left-requires-clause-few
amount_of-left-requires-clause-few t c =
    let two = sides c.args.model.now c.loop-part.part.now c.in-Compare.how c.in-Compare.left c.in-Compare.right c.in-Compare.is c.loop-part.invariant.2 in
    subst (λ (n : Number). terms_of c.args.model.now n ≤ most_terms) (sym c.get.ensures) two.0.1

pub amount_of-right-requires-clause-number : goal.amount_of-right-requires-clause-number
amount_of-right-requires-clause-number t c =
    let two = sides c.args.model.now c.loop-part.part.now c.in-Compare.how c.in-Compare.left c.in-Compare.right c.in-Compare.is c.loop-part.invariant.2 in
    subst (λ (n : Number). IsNumber c.args.model.now n) (sym c.get-in-Compare.ensures) two.1.0

pub amount_of-right-requires-clause-few : goal.amount_of-right-requires-clause-few
amount_of-right-requires-clause-few t c =
    let two = sides c.args.model.now c.loop-part.part.now c.in-Compare.how c.in-Compare.left c.in-Compare.right c.in-Compare.is c.loop-part.invariant.2 in
    subst (λ (n : Number). terms_of c.args.model.now n ≤ most_terms) (sym c.get-in-Compare.ensures) two.1.1

pub returns-in-Compare : goal.returns-in-Compare
returns-in-Compare t c =
    let features = c.args.model.now.features in
    let marks = c.args.chosen.now in
    let how = comparison_of c.in-Compare.how in
    let left : c.amount_of-left.result ≡ amount_of features marks c.in-Compare.left = c.amount_of-left.ensures.amount ∙ ap (amount_of features marks) c.get.ensures in
    let right : c.amount_of-right.result ≡ amount_of features marks c.in-Compare.right = c.amount_of-right.ensures.amount ∙ ap (amount_of features marks) c.get-in-Compare.ensures in
    c.at-in-Compare.ensures
    ∙ ap (outcome_at c.loop-part.outcome) (
    c.compares.ensures
    ∙ ap (λ (a : Amount). compares how a.value c.amount_of-right.result.value) left
    ∙ ap (λ (a : Amount). compares how (amount_of features marks c.in-Compare.left).value a.value) right
    ∙ sym (ap (rule_is_met features marks) c.in-Compare.is ∙ met-Compare features marks c.in-Compare.how c.in-Compare.left c.in-Compare.right)
    )
    ∙ sym c.loop-part.invariant.0

pub rule_holds-requires : goal.rule_holds-requires
rule_holds-requires t c =
    let parts = and_readable c.args.model.now c.loop-part.part.now c.in-And.left c.in-And.right c.in-And.is c.loop-part.invariant.2 in (
      omega (arith, ap nodes_of c.in-And.is, nodes-And c.in-And.left c.in-And.right, ap nodes_of c.get-in-And.ensures, c.loop-part.invariant.1),
      subst (λ (r : Rule). IsReadable c.args.model.now r) (sym c.get-in-And.ensures) parts.1,
    )

pub loop-part-preserved-in-And : goal.loop-part-preserved-in-And
loop-part-preserved-in-And t c =
    let features = c.args.model.now.features in
    let marks = c.args.chosen.now in
    let parts = and_readable c.args.model.now c.loop-part.part.now c.in-And.left c.in-And.right c.in-And.is c.loop-part.invariant.2 in
    let right : rule_is_met features marks c.in-And.right ≡ c.rule_holds.result = sym (c.rule_holds.ensures ∙ ap (rule_is_met features marks) c.get-in-And.ensures) in
    let part : rule_is_met features marks c.loop-part.part.now ≡ (λ (b r : Bool). b && r) (rule_is_met features marks c.get-part-in-And.result.now) c.rule_holds.result =
    ap (rule_is_met features marks) c.in-And.is ∙ met-And features marks c.in-And.left c.in-And.right
    ∙ ap (λ (r : Bool). (λ (b r : Bool). b && r) (rule_is_met features marks c.in-And.left) r) right
    ∙ ap (λ (b : Bool). (λ (b r : Bool). b && r) b c.rule_holds.result) (ap (rule_is_met features marks) (sym c.get-part-in-And.ensures)) in (
      outcome_step (rule_is_met features marks c.args.rule.now) c.loop-part.outcome c.of-outcome-in-And.result (rule_is_met features marks c.loop-part.part.now)
          (rule_is_met features marks c.get-part-in-And.result.now) (λ (b : Bool). (λ (b r : Bool). b && r) b c.rule_holds.result) c.loop-part.invariant.0 part
          (c.of-outcome-in-And.ensures.without) (c.of-outcome-in-And.ensures.with),
      omega (arith, ap nodes_of c.in-And.is, nodes-And c.in-And.left c.in-And.right, ap nodes_of c.get-part-in-And.ensures, c.loop-part.invariant.1),
      subst (λ (r : Rule). IsReadable c.args.model.now r) (sym c.get-part-in-And.ensures) parts.0,
    )

pub rule_holds-requires-in-Or : goal.rule_holds-requires-in-Or
rule_holds-requires-in-Or t c =
    let parts = or_readable c.args.model.now c.loop-part.part.now c.in-Or.left c.in-Or.right c.in-Or.is c.loop-part.invariant.2 in (
      omega (arith, ap nodes_of c.in-Or.is, nodes-Or c.in-Or.left c.in-Or.right, ap nodes_of c.get-in-Or.ensures, c.loop-part.invariant.1),
      subst (λ (r : Rule). IsReadable c.args.model.now r) (sym c.get-in-Or.ensures) parts.1,
    )

pub loop-part-preserved-in-Or : goal.loop-part-preserved-in-Or
loop-part-preserved-in-Or t c =
    let features = c.args.model.now.features in
    let marks = c.args.chosen.now in
    let parts = or_readable c.args.model.now c.loop-part.part.now c.in-Or.left c.in-Or.right c.in-Or.is c.loop-part.invariant.2 in
    let right : rule_is_met features marks c.in-Or.right ≡ c.rule_holds-in-Or.result = sym (c.rule_holds-in-Or.ensures ∙ ap (rule_is_met features marks) c.get-in-Or.ensures) in
    let part : rule_is_met features marks c.loop-part.part.now ≡ (λ (b r : Bool). b || r) (rule_is_met features marks c.get-part-in-Or.result.now) c.rule_holds-in-Or.result =
    ap (rule_is_met features marks) c.in-Or.is ∙ met-Or features marks c.in-Or.left c.in-Or.right
    ∙ ap (λ (r : Bool). (λ (b r : Bool). b || r) (rule_is_met features marks c.in-Or.left) r) right
    ∙ ap (λ (b : Bool). (λ (b r : Bool). b || r) b c.rule_holds-in-Or.result) (ap (rule_is_met features marks) (sym c.get-part-in-Or.ensures)) in (
      outcome_step (rule_is_met features marks c.args.rule.now) c.loop-part.outcome c.of-outcome-in-Or.result (rule_is_met features marks c.loop-part.part.now)
          (rule_is_met features marks c.get-part-in-Or.result.now) (λ (b : Bool). (λ (b r : Bool). b || r) b c.rule_holds-in-Or.result) c.loop-part.invariant.0 part
          (c.of-outcome-in-Or.ensures.without) (c.of-outcome-in-Or.ensures.with),
      omega (arith, ap nodes_of c.in-Or.is, nodes-Or c.in-Or.left c.in-Or.right, ap nodes_of c.get-part-in-Or.ensures, c.loop-part.invariant.1),
      subst (λ (r : Rule). IsReadable c.args.model.now r) (sym c.get-part-in-Or.ensures) parts.0,
    )

pub rule_holds-requires-in-Implies : goal.rule_holds-requires-in-Implies
rule_holds-requires-in-Implies t c =
    let parts = implies_readable c.args.model.now c.loop-part.part.now c.in-Implies.left c.in-Implies.right c.in-Implies.is c.loop-part.invariant.2 in (
      omega (arith, ap nodes_of c.in-Implies.is, nodes-Implies c.in-Implies.left c.in-Implies.right, ap nodes_of c.get-in-Implies.ensures, c.loop-part.invariant.1),
      subst (λ (r : Rule). IsReadable c.args.model.now r) (sym c.get-in-Implies.ensures) parts.1,
    )

pub loop-part-preserved-in-Implies : goal.loop-part-preserved-in-Implies
loop-part-preserved-in-Implies t c =
    let features = c.args.model.now.features in
    let marks = c.args.chosen.now in
    let parts = implies_readable c.args.model.now c.loop-part.part.now c.in-Implies.left c.in-Implies.right c.in-Implies.is c.loop-part.invariant.2 in
    let right : rule_is_met features marks c.in-Implies.right ≡ c.rule_holds-in-Implies.result = sym (c.rule_holds-in-Implies.ensures ∙ ap (rule_is_met features marks) c.get-in-Implies.ensures) in
    let part : rule_is_met features marks c.loop-part.part.now ≡ (λ (b r : Bool). not b || r) (rule_is_met features marks c.get-part-in-Implies.result.now) c.rule_holds-in-Implies.result =
    ap (rule_is_met features marks) c.in-Implies.is ∙ met-Implies features marks c.in-Implies.left c.in-Implies.right
    ∙ ap (λ (r : Bool). (λ (b r : Bool). not b || r) (rule_is_met features marks c.in-Implies.left) r) right
    ∙ ap (λ (b : Bool). (λ (b r : Bool). not b || r) b c.rule_holds-in-Implies.result) (ap (rule_is_met features marks) (sym c.get-part-in-Implies.ensures)) in (
      outcome_step (rule_is_met features marks c.args.rule.now) c.loop-part.outcome c.of-outcome-in-Implies.result (rule_is_met features marks c.loop-part.part.now)
          (rule_is_met features marks c.get-part-in-Implies.result.now) (λ (b : Bool). (λ (b r : Bool). not b || r) b c.rule_holds-in-Implies.result) c.loop-part.invariant.0 part
          (c.of-outcome-in-Implies.ensures.without) (c.of-outcome-in-Implies.ensures.with),
      omega (arith, ap nodes_of c.in-Implies.is, nodes-Implies c.in-Implies.left c.in-Implies.right, ap nodes_of c.get-part-in-Implies.ensures, c.loop-part.invariant.1),
      subst (λ (r : Rule). IsReadable c.args.model.now r) (sym c.get-part-in-Implies.ensures) parts.0,
    )

pub rule_holds-right-requires : goal.rule_holds-right-requires
rule_holds-right-requires t c =
    let parts = iff_readable c.args.model.now c.loop-part.part.now c.in-Iff.left c.in-Iff.right c.in-Iff.is c.loop-part.invariant.2 in (
      omega (arith, ap nodes_of c.in-Iff.is, nodes-Iff c.in-Iff.left c.in-Iff.right, ap nodes_of c.get-in-Iff.ensures, c.loop-part.invariant.1),
      subst (λ (r : Rule). IsReadable c.args.model.now r) (sym c.get-in-Iff.ensures) parts.1,
    )

pub loop-part-preserved : goal.loop-part-preserved
loop-part-preserved t c =
    let features = c.args.model.now.features in
    let marks = c.args.chosen.now in
    let parts = iff_readable c.args.model.now c.loop-part.part.now c.in-Iff.left c.in-Iff.right c.in-Iff.is c.loop-part.invariant.2 in
    let right : rule_is_met features marks c.in-Iff.right ≡ c.rule_holds-right.result = sym (c.rule_holds-right.ensures ∙ ap (rule_is_met features marks) c.get-in-Iff.ensures) in
    let part : rule_is_met features marks c.loop-part.part.now ≡ (λ (b r : Bool). beq b r) (rule_is_met features marks c.get-part-in-Iff.result.now) c.rule_holds-right.result =
    ap (rule_is_met features marks) c.in-Iff.is ∙ met-Iff features marks c.in-Iff.left c.in-Iff.right
    ∙ ap (λ (r : Bool). (λ (b r : Bool). beq b r) (rule_is_met features marks c.in-Iff.left) r) right
    ∙ ap (λ (b : Bool). (λ (b r : Bool). beq b r) b c.rule_holds-right.result) (ap (rule_is_met features marks) (sym c.get-part-in-Iff.ensures)) in (
      outcome_step (rule_is_met features marks c.args.rule.now) c.loop-part.outcome c.of-outcome-in-Iff.result (rule_is_met features marks c.loop-part.part.now)
          (rule_is_met features marks c.get-part-in-Iff.result.now) (λ (b : Bool). (λ (b r : Bool). beq b r) b c.rule_holds-right.result) c.loop-part.invariant.0 part
          (c.of-outcome-in-Iff.ensures.without ∙ ap (outcome_at c.loop-part.outcome) (iff_false c.rule_holds-right.result)) (c.of-outcome-in-Iff.ensures.with ∙ ap (outcome_at c.loop-part.outcome) (iff_true c.rule_holds-right.result)),
      omega (arith, ap nodes_of c.in-Iff.is, nodes-Iff c.in-Iff.left c.in-Iff.right, ap nodes_of c.get-part-in-Iff.ensures, c.loop-part.invariant.1),
      subst (λ (r : Rule). IsReadable c.args.model.now r) (sym c.get-part-in-Iff.ensures) parts.0,
    )
