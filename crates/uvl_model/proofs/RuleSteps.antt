-- The walk down a rule: what is left of it decides the whole, and its numbers are ones that a model may have.
use Rattle.std.proofs.Common.{◌≡◌, ℕ, ◌+◌, ◌<◌, ◌≤◌, Bool, true, false, not, ◌&&◌, ◌||◌, List, [], ◌∷◌, ◌++◌, get_or, length, map, refl, sym, ap, ◌∙◌, subst, arith}
use Rattle.std.specs.Prelude.{sum}
use Rattle.std.specs.Bool.{beq}
use Rattle.std.specs.List.{All}
use Rattle.std.proofs.lemmas.List.Elements.{All-head, All-tail}
use Rattle.std.proofs.lemmas.List.Sums.{sum-map, sum_by-append}
use Rattle.uvl_model.specs.declared.rows.FeatureNo.{FeatureNo}
use Rattle.uvl_model.specs.declared.rows.FeatureRow.{FeatureRow}
use Rattle.uvl_model.specs.declared.rule.Cmp.{Cmp}
use Rattle.uvl_model.specs.declared.rule.Number.{Number}
use Rattle.uvl_model.specs.declared.rule.Rule.{Rule}
use Rattle.uvl_model.specs.declared.rule.Rule.TheFolds.{fold-roll-Rule}
use Rattle.uvl_model.specs.declared.rule.Rule.TheOpen.{Rule-F}
use Rattle.uvl_model.specs.declared.rule.Rule.TheVariants as rule
use Rattle.uvl_model.specs.declared.rules.Outcome.{Outcome}
use Rattle.uvl_model.specs.Amounts.{IsReadable, amount_of, met_node, most_terms, rule_is_met}
use Rattle.uvl_model.specs.Check.{is_marked}
use Rattle.uvl_model.specs.Constraints.{comparison_of}
use Rattle.uvl_model.specs.Outcome.{outcome_at}
use Rattle.uvl_model.specs.Rows.{Rows}
use Rattle.uvl_model.specs.Rules.{IsNumber, IsRule, numbers_node, numbers_of, terms_of}
use Rattle.uvl_semantics.specs.Holding.{compares}
use Rattle.uvl_model.proofs.Everywhere.{all_front, all_rest}

pub numbers-Not : (operand : Rule) → numbers_of (rule.Not operand) ≡ numbers_of operand
numbers-Not operand = ap (numbers_of) (sym (rule.rolls-Not operand)) ∙ fold-roll-Rule (List Number) (numbers_node) (Rule-F.Not operand)

pub numbers-And : (left right : Rule) → numbers_of (rule.And left right) ≡ numbers_of left ++ numbers_of right
numbers-And left right = ap (numbers_of) (sym (rule.rolls-And left right)) ∙ fold-roll-Rule (List Number) (numbers_node) (Rule-F.And left right)

pub numbers-Or : (left right : Rule) → numbers_of (rule.Or left right) ≡ numbers_of left ++ numbers_of right
numbers-Or left right = ap (numbers_of) (sym (rule.rolls-Or left right)) ∙ fold-roll-Rule (List Number) (numbers_node) (Rule-F.Or left right)

pub numbers-Implies : (left right : Rule) → numbers_of (rule.Implies left right) ≡ numbers_of left ++ numbers_of right
numbers-Implies left right = ap (numbers_of) (sym (rule.rolls-Implies left right)) ∙ fold-roll-Rule (List Number) (numbers_node) (Rule-F.Implies left right)

pub numbers-Iff : (left right : Rule) → numbers_of (rule.Iff left right) ≡ numbers_of left ++ numbers_of right
numbers-Iff left right = ap (numbers_of) (sym (rule.rolls-Iff left right)) ∙ fold-roll-Rule (List Number) (numbers_node) (Rule-F.Iff left right)

pub numbers-Compare : (how : Cmp) (left right : Number) → numbers_of (rule.Compare how left right) ≡ left ∷ right ∷ []
numbers-Compare how left right = ap (numbers_of) (sym (rule.rolls-Compare how left right)) ∙ fold-roll-Rule (List Number) (numbers_node) (Rule-F.Compare how left right)

pub met-Feature : (rows : List FeatureRow) (marks : List Bool) (f : FeatureNo) → rule_is_met rows marks (rule.Feature f) ≡ is_marked marks f
met-Feature rows marks f = ap (rule_is_met rows marks) (sym (rule.rolls-Feature f)) ∙ fold-roll-Rule Bool (met_node rows marks) (Rule-F.Feature f)

pub met-Not : (rows : List FeatureRow) (marks : List Bool) (operand : Rule) → rule_is_met rows marks (rule.Not operand) ≡ not (rule_is_met rows marks operand)
met-Not rows marks operand = ap (rule_is_met rows marks) (sym (rule.rolls-Not operand)) ∙ fold-roll-Rule Bool (met_node rows marks) (Rule-F.Not operand)

pub met-And : (rows : List FeatureRow) (marks : List Bool) (left right : Rule) → rule_is_met rows marks (rule.And left right) ≡ (rule_is_met rows marks left && rule_is_met rows marks right)
met-And rows marks left right = ap (rule_is_met rows marks) (sym (rule.rolls-And left right)) ∙ fold-roll-Rule Bool (met_node rows marks) (Rule-F.And left right)

pub met-Or : (rows : List FeatureRow) (marks : List Bool) (left right : Rule) → rule_is_met rows marks (rule.Or left right) ≡ (rule_is_met rows marks left || rule_is_met rows marks right)
met-Or rows marks left right = ap (rule_is_met rows marks) (sym (rule.rolls-Or left right)) ∙ fold-roll-Rule Bool (met_node rows marks) (Rule-F.Or left right)

pub met-Implies : (rows : List FeatureRow) (marks : List Bool) (left right : Rule) → rule_is_met rows marks (rule.Implies left right) ≡ (not (rule_is_met rows marks left) || rule_is_met rows marks right)
met-Implies rows marks left right = ap (rule_is_met rows marks) (sym (rule.rolls-Implies left right)) ∙ fold-roll-Rule Bool (met_node rows marks) (Rule-F.Implies left right)

pub met-Iff : (rows : List FeatureRow) (marks : List Bool) (left right : Rule) → rule_is_met rows marks (rule.Iff left right) ≡ beq (rule_is_met rows marks left) (rule_is_met rows marks right)
met-Iff rows marks left right = ap (rule_is_met rows marks) (sym (rule.rolls-Iff left right)) ∙ fold-roll-Rule Bool (met_node rows marks) (Rule-F.Iff left right)

pub met-Compare : (rows : List FeatureRow) (marks : List Bool) (how : Cmp) (left right : Number) → rule_is_met rows marks (rule.Compare how left right) ≡ compares (comparison_of how) (amount_of rows marks left).value (amount_of rows marks right).value
met-Compare rows marks how left right = ap (rule_is_met rows marks) (sym (rule.rolls-Compare how left right)) ∙ fold-roll-Rule Bool (met_node rows marks) (Rule-F.Compare how left right)

-- ---- the numbers of operands

module _ (rows : Rows) where
  -- a rule of a model is readable
  pub rule_is_readable : (r : Rule) → IsRule rows r → IsReadable rows r
  rule_is_readable r is = record { numbers = is.numbers; few = omega (arith, is.light) }

  operands_are_readable : (x l r : Rule) → numbers_of x ≡ numbers_of l ++ numbers_of r → IsReadable rows x → IsReadable rows l × IsReadable rows r
  operands_are_readable x l r e is =
      let all = subst (λ (ns : List Number). All (IsNumber rows) ns) e is.numbers in
      let total : sum (map (terms_of rows) (numbers_of x)) ≡ sum (map (terms_of rows) (numbers_of l)) + sum (map (terms_of rows) (numbers_of r)) =
      omega (
        arith,
        ap (λ (ns : List Number). sum (map (terms_of rows) ns)) e,
        sum-map (terms_of rows) (numbers_of l ++ numbers_of r),
        sum_by-append (terms_of rows) (numbers_of l) (numbers_of r),
        sum-map (terms_of rows) (numbers_of l),
        sum-map (terms_of rows) (numbers_of r),
      ) in (
        record { numbers = all_front (IsNumber rows) (numbers_of l) (numbers_of r) all; few = omega (arith, is.few, total) },
        record { numbers = all_rest (IsNumber rows) (numbers_of l) (numbers_of r) all; few = omega (arith, is.few, total) },
      )

  pub not_readable : (x o : Rule) → x ≡ rule.Not o → IsReadable rows x → IsReadable rows o
  not_readable x o e is =
      let same = ap numbers_of e ∙ numbers-Not o in
      record {
        numbers = subst (λ (ns : List Number). All (IsNumber rows) ns) same is.numbers;
        few = subst (λ (ns : List Number). sum (map (terms_of rows) ns) ≤ most_terms) same is.few;
      }

  pub and_readable : (x l r : Rule) → x ≡ rule.And l r → IsReadable rows x → IsReadable rows l × IsReadable rows r
  and_readable x l r e is = operands_are_readable x l r (ap numbers_of e ∙ numbers-And l r) is

  pub or_readable : (x l r : Rule) → x ≡ rule.Or l r → IsReadable rows x → IsReadable rows l × IsReadable rows r
  or_readable x l r e is = operands_are_readable x l r (ap numbers_of e ∙ numbers-Or l r) is

  pub implies_readable : (x l r : Rule) → x ≡ rule.Implies l r → IsReadable rows x → IsReadable rows l × IsReadable rows r
  implies_readable x l r e is = operands_are_readable x l r (ap numbers_of e ∙ numbers-Implies l r) is

  pub iff_readable : (x l r : Rule) → x ≡ rule.Iff l r → IsReadable rows x → IsReadable rows l × IsReadable rows r
  iff_readable x l r e is = operands_are_readable x l r (ap numbers_of e ∙ numbers-Iff l r) is

  -- the two sides of a comparison
  pub sides : (x : Rule) (how : Cmp) (l r : Number) → x ≡ rule.Compare how l r → IsReadable rows x
      → (IsNumber rows l × (terms_of rows l ≤ most_terms)) × (IsNumber rows r × (terms_of rows r ≤ most_terms))
  sides x how l r e is =
      let same = ap numbers_of e ∙ numbers-Compare how l r in
      let all = subst (λ (ns : List Number). All (IsNumber rows) ns) same is.numbers in
      let total : sum (map (terms_of rows) (numbers_of x)) ≡ 0 + terms_of rows l + terms_of rows r = ap (λ (ns : List Number). sum (map (terms_of rows) ns)) same in (
        (All-head (IsNumber rows) l (r ∷ []) all, omega (arith, is.few, total)),
        (All-head (IsNumber rows) r [] (All-tail (IsNumber rows) l (r ∷ []) all), omega (arith, is.few, total)),
      )

-- ---- the truth of the whole

-- what an operand makes of the whole, by what it makes of the part
pub outcome_step : (whole : Bool) (old new : Outcome) (part left : Bool) (f : Bool → Bool) → whole ≡ outcome_at old part → part ≡ f left
    → new.without ≡ outcome_at old (f false) → new.with ≡ outcome_at old (f true) → whole ≡ outcome_at new left
outcome_step whole old new part left f w p a b = w ∙ ap (outcome_at old) p ∙ by left
  where
    by : (v : Bool) → outcome_at old (f v) ≡ outcome_at new v
    by true = sym b
    by false = sym a

pub iff_false : (b : Bool) → not b ≡ beq false b
iff_false true = refl
iff_false false = refl

pub iff_true : (b : Bool) → b ≡ beq true b
iff_true true = refl
iff_true false = refl

-- a rule at its place among those of a model
pub rule_at : (rows : Rows) (rules : List Rule) → All (IsRule rows) rules → (i : ℕ) (r : Rule) → i < length rules → r ≡ get_or rules i r → IsRule rows r
rule_at rows rules all i r inside is = subst (λ (x : Rule). IsRule rows x) (sym is) (all i r inside)
