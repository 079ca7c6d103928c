-- The rows of a set without fault are sound, and say what the set says.
use Rattle.std.proofs.Common.{◌≡◌, ℕ, ◌-◌, ◌<◌, ◌≤◌, List, [], ◌∷◌, length, map, get_or, Some, None, refl, sym, ap, ◌∙◌, subst, arith}
use Rattle.std.specs.Prelude.{slice_get, false}
use Rattle.std.specs.List.{All}
use Rattle.std.proofs.lemmas.List.{length-map}
use Rattle.std.proofs.lemmas.Option.{slice_get-get_or}
use Rattle.uvl_base.specs.Limits.{most_depth, most_features}
use Rattle.uvl_imports.specs.Sets.{IsWhole}
use Rattle.uvl_imports.specs.Texts.{AreDistinct}
use Rattle.uvl_imports.specs.declared.file_set.Loaded.{Loaded}
use Rattle.uvl_model.specs.declared.rows.FeatureRow.{FeatureRow}
use Rattle.uvl_model.specs.declared.rows.GroupRow.{GroupRow}
use Rattle.uvl_model.specs.declared.rule.Rule.{Rule}
use Rattle.uvl_model.specs.Comparisons.{HaveNoComparison}
use Rattle.uvl_model.specs.Constraints as model
use Rattle.uvl_model.specs.Laws.{RowsGiveNames}
use Rattle.uvl_model.specs.Heads.{head_of_row}
use Rattle.uvl_model.specs.Names.{feature_names}
use Rattle.uvl_model.specs.Rows.{Rows}
use Rattle.uvl_model.specs.Rules.{IsRule}
use Rattle.uvl_model.specs.Sound as sound
use Rattle.uvl_model.specs.Spelling.{Spells, feature_rows, group_rows}
use Rattle.uvl_model.proofs.Below.{heads_spelled}
use Rattle.uvl_placing.specs.Files.{main_tree, placed, said}
use Rattle.uvl_placing.specs.Options.{known}
use Rattle.uvl_resolve.specs.Flat.{Flat}
use Rattle.uvl_resolve.specs.Under.{constraint_under}
use Rattle.uvl_resolve.specs.steps.Placements.{heads_at, heads_there}
use Rattle.uvl_resolve.specs.steps.Rules.{IsAmong, Says, StandAt, heads_with, names_of_heads}
use Rattle.uvl_resolve.proofs.Accepted.{scopes_count, trees_good}
use Rattle.uvl_resolve.proofs.Distinct.{none_contained}
use Rattle.uvl_resolve.proofs.Good.{RowIsGood, bounded, rows_good}
use Rattle.uvl_resolve.proofs.Heads.{heads_again}
use Rattle.uvl_resolve.proofs.Heads.{names_are as names_are_of}
use Rattle.uvl_resolve.proofs.Numberless.{numberless_rows}
use Rattle.uvl_resolve.proofs.Standing.{stand_here}
use Rattle.uvl_resolve.proofs.UnderTexts.{constraint_bare}
use Rattle.uvl_scope.specs.declared.scope.Scope.{Scope}
use Rattle.uvl_scope.specs.Faults.{HasNoFault, have_numbers, scopes_of}
use Rattle.uvl_scope.specs.Trees.{AreScopesOf}
use Rattle.uvl_semantics.specs.Constraint.{Constraint}
use Rattle.uvl_semantics.specs.Tree.{Tree, Head, heads_of, names_of}

-- the last of some
last_there : {A : Type 0} (xs : List A) → 1 ≤ length xs → (x : A) × (slice_get xs (length xs - 1) ≡ Some x)
last_there [] some = absurd (omega (arith, some))
last_there (x ∷ xs) some =
    let n : ℕ = length (x ∷ xs) - 1 in
    let lt : n < length (x ∷ xs) = omega arith in
    (get_or (x ∷ xs) n x, slice_get-get_or (x ∷ xs) n x lt)

-- the placed tree of the main file, with the features of its scope
pub record MainTree (files : List Loaded) (scopes : List Scope) : Type 0 where
  pub tree : Tree
  pub says : main_tree files ≡ Some tree
  pub at : slice_get (placed files) (length files - 1) ≡ Some (Some tree)
  pub heads : heads_at scopes (length files - 1) ≡ heads_of tree
  pub apart : AreDistinct (names_of tree)
  pub within : sound.IsWithinLimits tree
  pub good : All RowIsGood (feature_rows None 0 tree)

pub main_is : (files : List Loaded) (scopes : List Scope) → IsWhole files → HasNoFault files → scopes ≡ scopes_of files → AreScopesOf files scopes → MainTree files scopes
main_is files scopes whole none is trees =
    let count : length scopes ≡ length files = ap length is ∙ scopes_count files in
    let last = last_there scopes (omega (arith, whole.some, count)) in
    let found : slice_get scopes (length files - 1) ≡ Some last.0 = ap (λ (n : ℕ). slice_get scopes (n - 1)) (sym count) ∙ last.1 in
    let has = trees (length files - 1) last.0 found in
    let good = trees_good files whole none (length files - 1) has.tree has.placed in
    record {
      tree = has.tree;
      says = ap known has.placed;
      at = has.placed;
      heads = ap heads_there found ∙ ap (λ (ns : List (List ℕ)). heads_with ns last.0.attributes) (has.of_tree.names ∙ names_are_of has.tree)
          ∙ ap (heads_with (names_of_heads (heads_of has.tree))) has.of_tree.attributes ∙ heads_again (heads_of has.tree);
      apart = subst AreDistinct has.of_tree.names has.within.distinct;
      within = record {
        few = subst (λ (ns : List (List ℕ)). length ns ≤ most_features) has.of_tree.names has.within.few;
        shallow = subst (λ (n : ℕ). n ≤ most_depth) has.of_tree.depth has.within.shallow;
        distinct = subst sound.AreDistinct has.of_tree.names (none_contained last.0.names has.within.distinct);
        bounded = bounded has.tree good;
      };
      good = rows_good None 0 has.tree good;
    }

bare : (cs : List Constraint) → map (constraint_under []) cs ≡ cs
bare [] = refl
bare (c ∷ cs) =
    ap (λ (x : Constraint). x ∷ map (constraint_under []) cs) (constraint_bare c) ∙ ap (λ (xs : List Constraint). c ∷ xs) (bare cs)

abbrev rows_with : List FeatureRow → List GroupRow → List Rule → Rows
rows_with features groups rules = record { features = features; groups = groups; rules = rules }

module _ (files : List Loaded) (scopes : List Scope) (main : MainTree files scopes) (give : RowsGiveNames)
    (features : List FeatureRow) (groups : List GroupRow) (rules : List Rule) (features_are : features ≡ feature_rows None 0 main.tree) (groups_are : groups ≡ group_rows 0 main.tree)
    (says : Says (heads_at scopes (length files - 1)) 0 [] rules (known (slice_get (said files) (length files - 1)))) where
  spelled : Spells main.tree (rows_with features groups rules)
  spelled = record { features = features_are; groups = groups_are }

  names_are : feature_names (rows_with features groups rules) ≡ names_of main.tree
  names_are = give main.tree (rows_with features groups rules) spelled

  -- the features of the rows are those of the tree
  heads_are : map head_of_row features ≡ heads_at scopes (length files - 1)
  heads_are = ap (map head_of_row) features_are ∙ heads_spelled main.tree None 0 ∙ sym main.heads

  few : length features ≤ most_features
  few = omega (arith, ap length names_are, length-map features (λ (row : FeatureRow). row.name), main.within.few)

  among : IsAmong (rows_with features groups rules) 0 [] (heads_at scopes (length files - 1))
  among = record {
    stand = subst (λ (all : List Head). StandAt all 0 [] (heads_at scopes (length files - 1))) (sym heads_are) (stand_here (heads_at scopes (length files - 1)));
    few = few;
    distinct = subst (λ (hs : List Head). AreDistinct (names_of_heads hs)) (sym (heads_are ∙ main.heads)) (subst AreDistinct (names_are_of main.tree) main.apart);
  }

  pub rows_sound : sound.IsSound (rows_with features groups rules)
  rows_sound = record {
    tree = main.tree;
    spelled = spelled;
    within = main.within;
    attributes = subst (All RowIsGood) (sym features_are) main.good;
    rules = subst (All (IsRule (rows_with features groups rules))) (sym says.behind) (says.may_be (rows_with features groups rules) [] among);
  }

  pub rows_flat : Flat files (rows_with features groups rules)
  rows_flat = record {
    tree = main.tree;
    placed = main.says;
    spelled = spelled;
    constraints = says.are ∙ ap (λ (cs : List Constraint). Some cs) said_is;
  }
    where
      read : map (model.constraint_of (names_of_heads (heads_at scopes (length files - 1)))) says.added ≡ map (constraint_under []) says.said
      read = says.read (heads_at scopes (length files - 1)) [] (stand_here (heads_at scopes (length files - 1)))

      said_is : says.said ≡ model.constraints_of (rows_with features groups rules)
      said_is =
          sym (read ∙ bare says.said)
          ∙ ap (λ (ns : List (List ℕ)). map (model.constraint_of ns) says.added) (ap names_of_heads main.heads ∙ sym (names_are_of main.tree) ∙ sym names_are)
          ∙ ap (map (model.constraint_of (feature_names (rows_with features groups rules)))) (sym says.behind)

  pub rows_boolean : have_numbers files ≡ false → HaveNoComparison (rows_with features groups rules)
  rows_boolean none = numberless_rows files (rows_with features groups rules) none rows_flat.constraints

  pub rows_apart : AreDistinct (map (λ (row : FeatureRow). row.name) features)
  rows_apart = subst AreDistinct (sym names_are) main.apart

  pub rows_few : length features ≤ most_features
  rows_few = few
