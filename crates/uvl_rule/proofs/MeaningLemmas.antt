-- A rule as a function says what its constraint says of the set of features whose variables are true.
use Rattle.std.proofs.Common.{◌≡◌, ℕ, Bool, List, [], ◌∷◌, Result, Ok, Err, IfOk, sym, ◌∙◌}
use Rattle.std.specs.List.{All}
use Rattle.std.proofs.Math.Bool.{and-true}
use Rattle.std.proofs.lemmas.List.Elements.{All-cons, All-nil, All-weaker}
use Rattle.dd_store.specs.declared.refusal.Refusal.{Refusal}
use Rattle.dd_store.specs.declared.row.Var.{Var}
use Rattle.dd_store.specs.Table.{Table, value_of}
use Rattle.uvl_functions.specs.Functions.{rule_function}
use Rattle.uvl_functions.specs.Variables.{marks_under}
use Rattle.uvl_model.specs.declared.rule.Number.{Number}
use Rattle.uvl_model.specs.declared.rule.Rule.{Rule}
use Rattle.uvl_model.specs.Amounts.{rule_is_met}
use Rattle.uvl_model.specs.Constraints.{constraint_of}
use Rattle.uvl_model.specs.Heads.{heads_of_rows}
use Rattle.uvl_model.specs.Marks.{StandFor}
use Rattle.uvl_model.specs.Names.{feature_names}
use Rattle.uvl_model.specs.Rows.{Rows}
use Rattle.uvl_model.specs.Rules.{IsNumber, IsRead, IsRule, Read, numbers_of, reads_of}
use Rattle.uvl_model.specs.Sound.{IsSound}
use Rattle.uvl_model.proofs.Amounts.{rules_met}
use Rattle.uvl_model.proofs.Marks.{stand_agree}
use Rattle.uvl_semantics.specs.Holding.{holds_by}

-- the model with this rule alone
abbrev with-rule : Rows → Rule → Rows
with-rule rows rule = record { features = rows.features; groups = rows.groups; rules = rule ∷ [] }

read-alone : (rows : Rows) (rule : Rule) (read : Read) → IsRead rows read → IsRead (with-rule rows rule) read
read-alone rows rule read is = record { feature = is.feature; number = is.number }

number-alone : (rows : Rows) (rule : Rule) (number : Number) → IsNumber rows number → IsNumber (with-rule rows rule) number
number-alone rows rule number is = record {
  tops = is.tops;
  reads = All-weaker (IsRead rows) (IsRead (with-rule rows rule)) (read-alone rows rule) (reads_of number) is.reads;
  linear = is.linear;
}

rule-alone : (rows : Rows) (rule : Rule) → IsRule rows rule → IsRule (with-rule rows rule) rule
rule-alone rows rule is = record {
  features = is.features;
  numbers = All-weaker (IsNumber rows) (IsNumber (with-rule rows rule)) (number-alone rows rule) (numbers_of rule) is.numbers;
  light = is.light;
  shallow = is.shallow;
}

one-rule : (rows : Rows) (rule : Rule) → IsRule rows rule → All (IsRule (with-rule rows rule)) (rule ∷ [])
one-rule rows rule is = All-cons (IsRule (with-rule rows rule)) rule [] (rule-alone rows rule is) (All-nil (IsRule (with-rule rows rule)))

-- so is the model with this rule alone
sound-alone : (rows : Rows) (rule : Rule) → IsSound rows → IsRule rows rule → IsSound (with-rule rows rule)
sound-alone rows rule sound is = record {
  tree = sound.tree;
  spelled = record { features = sound.spelled.features; groups = sound.spelled.groups };
  within = sound.within;
  attributes = sound.attributes;
  rules = one-rule rows rule is;
}

rule-means : (rows : Rows) (rule : Rule) → IsSound rows → IsRule rows rule → (marks : List Bool) (set : List (List ℕ))
    → StandFor (feature_names rows) marks set
    → rule_is_met rows.features marks rule ≡ holds_by (heads_of_rows rows) (constraint_of (feature_names rows) rule) set
rule-means rows rule sound is marks set stand =
    let told = rules_met (with-rule rows rule) (sound-alone rows rule sound is) marks set (stand_agree (feature_names rows) marks set stand) in
    sym (and-true (rule_is_met rows.features marks rule)) ∙ told ∙ and-true (holds_by (heads_of_rows rows) (constraint_of (feature_names rows) rule) set)

-- the same of a call's result
pub told-meaning : (rows : Rows) (vars : List Var) (rule : Rule) (t : Table) (result : Result ℕ Refusal) → IsSound rows → IsRule rows rule
    → IfOk result (λ h. (a : ℕ → Bool) → value_of t h a ≡ rule_function vars rows.features rule a)
    → IfOk result (λ h. (a : ℕ → Bool) (set : List (List ℕ)) → StandFor (feature_names rows) (marks_under vars a) set →
    value_of t h a ≡ holds_by (heads_of_rows rows) (constraint_of (feature_names rows) rule) set)
told-meaning rows vars rule t (Ok h) sound is value = λ a set stand. value a ∙ rule-means rows rule sound is (marks_under vars a) set stand
told-meaning rows vars rule t (Err r) sound is value = tt
