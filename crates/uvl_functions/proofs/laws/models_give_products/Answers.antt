-- The plain check of rows tells products for every row of marks.
use Rattle.std.proofs.Common.{◌≡◌, true, false, Bool, ◌&&◌, refl, ◌∙◌}
use Rattle.std.proofs.lemmas.List.Elements.{All-nil}
use Rattle.uvl_model.specs.Check.{groups_hold}
use Rattle.uvl_model.specs.Rows.{Rows}
use Rattle.uvl_model.specs.Rules.{IsRule}
use Rattle.uvl_model.specs.Sound.{IsSound}
use Rattle.uvl_functions.specs.Functions.{without_rules}
use Rattle.uvl_functions.specs.Variables.{marks_under}
use Rattle.uvl_functions.proofs.laws.models_give_products.Goals as goal

pub returns-clause-models : goal.returns-clause-models
returns-clause-models c vars rows sound = λ j a. c.rows_tell_products.ensures rows (marks_under vars a) sound j

and-true : (b : Bool) → (b && true) ≡ b
and-true true = refl
and-true false = refl

-- a model without its rules is sound
sound-tree : (rows : Rows) → IsSound rows → IsSound (without_rules rows)
sound-tree rows sound = record {
  tree = sound.tree;
  spelled = record { features = sound.spelled.features; groups = sound.spelled.groups };
  within = sound.within;
  attributes = sound.attributes;
  rules = All-nil (IsRule (without_rules rows));
}

pub returns-clause-trees : goal.returns-clause-trees
returns-clause-trees c vars rows sound = λ j a.
    (c.rows_tell_products.ensures (without_rules rows) (marks_under vars a) (sound-tree rows sound)
    ∙ and-true (groups_hold (without_rules rows) (marks_under vars a))) j
