-- The rows of the main file's tree and its rules are a sound model.
use Rattle.std.proofs.Common.{◌≡◌, ◌-◌, ◌≤◌, ℕ, List, [], map, Option, Some, None, length, refl, subst, sym, ap, ◌∙◌, arith}
use Rattle.std.specs.Prelude.{slice_get, unwrap_or}
use Rattle.uvl_base.specs.Limits.{most_features}
use Rattle.uvl_imports.specs.Sets.{IsWhole}
use Rattle.uvl_imports.specs.Texts.{AreDistinct}
use Rattle.uvl_imports.specs.declared.file_set.Loaded.{Loaded}
use Rattle.uvl_model.specs.declared.rows.FeatureRow.{FeatureRow}
use Rattle.uvl_model.specs.declared.rule.Rule.{Rule}
use Rattle.uvl_model.specs.Comparisons.{HaveNoComparison}
use Rattle.uvl_model.proofs.Below.{heads_counted}
use Rattle.uvl_model.specs.Spelling.{feature_rows, group_rows, size_of}
use Rattle.uvl_placing.specs.Files.{main_tree, said}
use Rattle.uvl_placing.specs.Options.{known}
use Rattle.uvl_resolve.specs.Flat.{Flat}
use Rattle.uvl_resolve.specs.steps.Placements.{heads_at}
use Rattle.uvl_resolve.specs.steps.Rules.{Says}
use Rattle.uvl_resolve.proofs.Accepted.{are_ready}
use Rattle.uvl_resolve.proofs.Model.{MainTree, main_is, rows_apart, rows_boolean, rows_few, rows_flat, rows_sound}
use Rattle.uvl_scope.specs.declared.scope.Scope.{Scope}
use Rattle.uvl_scope.specs.Faults.{HasNoFault, scopes_of}
use Rattle.uvl_scope.specs.Trees.{AreScopesOf}
use Rattle.uvl_semantics.specs.Tree.{Tree, feature, no_groups}
use Rattle.uvl_resolve.proofs.resolving.model_of.Goals as goal

abbrev picked : List Loaded → Tree
picked files = unwrap_or (main_tree files) (feature (record { name = []; attributes = [] }) no_groups)

main : (files : List Loaded) (scopes : List Scope) → IsWhole files → HasNoFault files → scopes ≡ scopes_of files → AreScopesOf files scopes → MainTree files scopes
main files scopes whole none is trees = main_is files scopes whole none is trees

picked_is : (files : List Loaded) (tree : Tree) → main_tree files ≡ Some tree → picked files ≡ tree
picked_is files tree says = ap (λ (o : Option Tree). unwrap_or o (feature (record { name = []; attributes = [] }) no_groups)) says

-- what the rules say, by the number of files
says_at : (files : List Loaded) (scopes : List Scope) (n : ℕ) (old new : List Rule) → n ≡ length files → old ≡ []
    → Says (heads_at scopes (n - 1)) 0 old new (known (slice_get (said files) (n - 1)))
    → Says (heads_at scopes (length files - 1)) 0 [] new (known (slice_get (said files) (length files - 1)))
says_at files scopes n old new count none h =
    subst (λ (m : ℕ). Says (heads_at scopes (m - 1)) 0 [] new (known (slice_get (said files) (m - 1)))) count
    (subst (λ (rules : List Rule). Says (heads_at scopes (n - 1)) 0 rules new (known (slice_get (said files) (n - 1)))) none h)

pub rows_of-requires : goal.rows_of-requires
rows_of-requires c =
    let files = c.args.files.now in
    let m = main files c.args.scopes.now c.requires.whole c.requires.no_fault c.requires.scopes c.requires.trees in
    let same = picked_is files m.tree m.says in (
      c.deref.ensures.value ∙ c.in_ok-qualifiers.ensures,
      (
        m.says ∙ ap (λ (t : Tree). Some t) (sym same),
        subst (λ (t : Tree). size_of t ≤ most_features) (sym same) m.within.few,
      ),
    )

pub add_file-requires : goal.add_file-requires
add_file-requires c =
    let files = c.args.files.now in
    let scopes = c.args.scopes.now in
    let m = main files scopes c.requires.whole c.requires.no_fault c.requires.scopes c.requires.trees in
    record {
      whole = c.requires.whole;
      ready = are_ready files c.requires.whole c.requires.no_fault scopes c.requires.scopes c.requires.trees;
      known = c.deref-2.ensures.value ∙ c.in_ok-qualifiers.ensures;
      there = omega (arith, c.requires.whole.some);
      few = omega (arith, ap length m.heads, heads_counted m.tree, m.within.few);
    }

pub names_of-requires : goal.names_of-requires
names_of-requires c =
    let files = c.args.files.now in
    let scopes = c.args.scopes.now in
    let m = main files scopes c.requires.whole c.requires.no_fault c.requires.scopes c.requires.trees in
    let features = c.in_ok-rows.ensures.features ∙ ap (feature_rows None 0) (picked_is files m.tree m.says) in
    let groups = c.in_ok-rows.ensures.groups ∙ ap (group_rows 0) (picked_is files m.tree m.says) in
    let says = says_at files scopes (length files) c.new-rules.result.rules c.add_file.new.self.rules refl c.new-rules.ensures c.in_ok-add_file.ensures in
    let is : c.as_slice.result.now ≡ c.in_ok-rows.rows.features = c.as_slice.ensures in
    record {
      few = omega (arith, ap length is, rows_few files scopes m c.rows_give_names.ensures c.in_ok-rows.rows.features c.in_ok-rows.rows.groups c.add_file.new.self.rules features groups says);
      distinct = subst (λ (rows : List FeatureRow). AreDistinct (map (λ (row : FeatureRow). row.name) rows)) (sym is)
          (rows_apart files scopes m c.rows_give_names.ensures c.in_ok-rows.rows.features c.in_ok-rows.rows.groups c.add_file.new.self.rules features groups says);
    }

pub new-requires : goal.new-requires
new-requires c =
    let files = c.args.files.now in
    let scopes = c.args.scopes.now in
    let m = main files scopes c.requires.whole c.requires.no_fault c.requires.scopes c.requires.trees in
    let features = c.in_ok-rows.ensures.features ∙ ap (feature_rows None 0) (picked_is files m.tree m.says) in
    let groups = c.in_ok-rows.ensures.groups ∙ ap (group_rows 0) (picked_is files m.tree m.says) in
    let says = says_at files scopes (length files) c.new-rules.result.rules c.add_file.new.self.rules refl c.new-rules.ensures c.in_ok-add_file.ensures in
    record {
      sound = rows_sound files scopes m c.rows_give_names.ensures c.in_ok-rows.rows.features c.in_ok-rows.rows.groups c.add_file.new.self.rules features groups says;
      named = c.in_ok-names.ensures ∙ ap (map (λ (row : FeatureRow). row.name)) c.as_slice.ensures;
    }

pub returns : goal.returns
returns c =
    let files = c.args.files.now in
    let scopes = c.args.scopes.now in
    let m = main files scopes c.requires.whole c.requires.no_fault c.requires.scopes c.requires.trees in
    let features = c.in_ok-rows.ensures.features ∙ ap (feature_rows None 0) (picked_is files m.tree m.says) in
    let groups = c.in_ok-rows.ensures.groups ∙ ap (group_rows 0) (picked_is files m.tree m.says) in
    let says = says_at files scopes (length files) c.new-rules.result.rules c.add_file.new.self.rules refl c.new-rules.ensures c.in_ok-add_file.ensures in
    record {
      flat = subst (Flat files) (sym c.new.ensures)
          (rows_flat files scopes m c.rows_give_names.ensures c.in_ok-rows.rows.features c.in_ok-rows.rows.groups c.add_file.new.self.rules features groups says);
      boolean = λ none. subst HaveNoComparison (sym c.new.ensures)
          (rows_boolean files scopes m c.rows_give_names.ensures c.in_ok-rows.rows.features c.in_ok-rows.rows.groups c.add_file.new.self.rules features groups says none);
    }
