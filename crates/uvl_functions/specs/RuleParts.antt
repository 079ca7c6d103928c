-- The functions that the parts of a rule are, and which of them are wanted at a time.
use Rattle.std.specs.Prelude.{not, ◌&&◌, ◌||◌, List, [], ◌∷◌, ◌++◌, map}
use Rattle.std.specs.Bool.{beq}
use Rattle.dd_store.specs.declared.row.Var.{Var}
use Rattle.dd_store.specs.Size.{Function}
use Rattle.uvl_model.specs.declared.rows.FeatureRow.{FeatureRow}
use Rattle.uvl_model.specs.declared.rule.Rule.{Rule}
use Rattle.uvl_model.specs.declared.rule.Rule.TheOpen.{Rule-F}
use Rattle.uvl_model.specs.declared.rule.Rule.TheFolds.{fold-Rule}
use Rattle.uvl_functions.specs.Functions.{comparison_function, is_chosen}

-- the function that is true where another is not
abbrev pub opposite : Function → Function
opposite f a = not (f a)

-- A subrule's group: it and its Boolean operands, the opposites of these, and the functions beside them.
abbrev pub group_of : Function → List Function → List Function → List Function
group_of whole operands beside = (whole ∷ operands) ++ (map opposite (whole ∷ operands) ++ beside)

-- What a rule is as a function, and its groups, one for each of its subrules, itself among them, where some functions
-- stand beside it: the left operand of each operator in whose right operand it stands.
pub record Parts : Type 0 where
  pub whole : Function
  pub groups : List Function → List (List Function)

-- an operator over two operands: while the right one is made, the left one is held
abbrev pub operator : Function → Parts → Parts → Parts
operator whole left right =
    record {
      whole = whole;
      groups = λ beside.
          group_of whole (left.whole ∷ right.whole ∷ []) beside
          ∷ (left.groups beside ++ right.groups (left.whole ∷ beside));
    }

-- a node of a rule, where the parts stand for each operand
abbrev pub parts_node : List Var → List FeatureRow → Rule-F Parts → Parts
parts_node vars features (Rule-F.Feature f) =
    record { whole = is_chosen vars f; groups = λ beside. group_of (is_chosen vars f) [] beside ∷ [] }
parts_node vars features (Rule-F.Not p) =
    record {
      whole = opposite p.whole;
      groups = λ beside. group_of (opposite p.whole) (p.whole ∷ []) beside ∷ p.groups beside;
    }
parts_node vars features (Rule-F.And p q) = operator (λ a. p.whole a && q.whole a) p q
parts_node vars features (Rule-F.Or p q) = operator (λ a. p.whole a || q.whole a) p q
parts_node vars features (Rule-F.Implies p q) = operator (λ a. not (p.whole a) || q.whole a) p q
parts_node vars features (Rule-F.Iff p q) = operator (λ a. beq (p.whole a) (q.whole a)) p q
parts_node vars features (Rule-F.Compare how left right) =
    record {
      whole = comparison_function vars features how left right;
      groups = λ beside. group_of (comparison_function vars features how left right) [] beside ∷ [];
    }

-- the parts of a rule, where the features have these rows
abbrev pub parts_of : List Var → List FeatureRow → Rule → Parts
parts_of vars features = fold-Rule Parts (parts_node vars features)
