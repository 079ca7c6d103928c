-- The scopes of files without fault are of their trees.
use Rattle.std.proofs.Common.{◌≡◌, List, [], ◌∷◌, ◌++◌, Option, Some, None, refl, sym, ap, ◌∙◌, subst, zero-add}
use Rattle.uvl_ast.specs.declared.feature.Feature.{Feature}
use Rattle.uvl_ast.specs.Rules.{rules_of}
use Rattle.uvl_imports.specs.declared.file_set.Loaded.{Loaded}
use Rattle.uvl_placing.specs.Files.{imports_of, tree_of_root, tree_of_file, trees_behind}
use Rattle.uvl_scope.specs.declared.scope.Scope.{Scope}
use Rattle.uvl_scope.specs.Brought.{Brought, placed_scope, nothing, brought_by_lines}
use Rattle.uvl_scope.specs.Faults.{brought_in, fault_in_file, fault_of_file, in_file, scope_of, scope_with, scopes_behind, scopes_of}
use Rattle.uvl_scope.specs.Firsts.{first_along}
use Rattle.uvl_scope.specs.Lines.{lines_from, lines_of}
use Rattle.uvl_scope.specs.Trees.{IsScopeOf, IsWithinLimits, ScopesAreOfTrees}
use Rattle.uvl_scope.proofs.FileWalked.{brought_with, lines_fault, rules_fault, fault_is, fault_missing}
use Rattle.uvl_scope.proofs.FilesWalked.{scopes_more}
use Rattle.uvl_scope.proofs.LinesFit.{line_fits}
use Rattle.uvl_scope.proofs.NoFault.{neither, none_mapped, all_placed}
use Rattle.uvl_scope.proofs.Placements.{Fits, AllFit, none_fit, one_more_fits, scope_places}
use Rattle.uvl_scope.proofs.Together.{brought_all}
use Rattle.uvl_scope.proofs.WithinLimits.{IsSmall, nothing_small, PlacesDistinct, lines_small, rules_small}
use Rattle.uvl_semantics.specs.Tree.{Tree, depth_of}

module _ (trees : List (Option Tree)) (scopes : List Scope) (loaded : Loaded) (fit : AllFit trees scopes) where
  -- what is placed has distinct names
  distinct : PlacesDistinct (placed_scope scopes loaded)
  distinct parts scope is = (scope_places trees scopes loaded fit parts scope is).within.distinct

  -- a file with a features section
  fits_with : (root : Feature) → loaded.file.root ≡ Some root → fault_in_file scopes loaded ≡ None → Fits (tree_of_file trees loaded) (scope_of scopes loaded)
  fits_with root is h =
      let placing = placed_scope scopes loaded in
      let rules = rules_of loaded.file in
      let brought : brought_in scopes loaded ≡ brought_with scopes loaded root = ap (λ (r : Option Feature). brought_by_lines placing (lines_of r)) is in
      let parts = neither (lines_fault scopes loaded root) (rules_fault (brought_with scopes loaded root) rules) (sym (fault_is scopes loaded root is) ∙ h) in
      let line = line_fits trees scopes loaded fit root 0 (all_placed placing nothing (lines_from root 1) parts.0) in
      let small : IsSmall (brought_with scopes loaded root) =
      subst IsSmall (brought_all placing (lines_from root 1)) (lines_small placing distinct nothing (lines_from root 1) nothing_small parts.0) in
      let few = rules_small (brought_with scopes loaded root).names (brought_with scopes loaded root).attributes (brought_with scopes loaded root).rules (brought_with scopes loaded root).nodes rules small.few_rules small.few_nodes parts.1 in
      let scope : scope_with (brought_with scopes loaded root) rules ≡ scope_of scopes loaded = ap (λ (b : Brought). scope_with b rules) (sym brought) in
      record {
        there = line.tree;
        is = ap (tree_of_root (imports_of trees loaded)) is ∙ line.is;
        of_tree = subst (λ (s : Scope). IsScopeOf line.tree s) scope (record { names = line.names; attributes = line.attributes; depth = line.depth ∙ zero-add (depth_of line.tree) });
        within = subst IsWithinLimits scope (record { distinct = small.distinct; few = small.few; shallow = small.shallow; few_rules = few.0; few_nodes = few.1 });
      }

  -- a file without fault
  file_fits : (root : Option Feature) → loaded.file.root ≡ root → fault_in_file scopes loaded ≡ None → Fits (tree_of_file trees loaded) (scope_of scopes loaded)
  file_fits None is h = (cc (fault_missing scopes loaded is, h))
  file_fits (Some root) is h = fits_with root is h

-- files behind files
files_fit : (trees : List (Option Tree)) (scopes : List Scope) (front files : List Loaded) → AllFit trees scopes → scopes ≡ scopes_of front
    → first_along fault_of_file front files ≡ None → AllFit (trees_behind trees files) (scopes_behind scopes files)
files_fit trees scopes front [] fit is h = fit
files_fit trees scopes front (loaded ∷ files) fit is h =
    let parts = neither (fault_of_file front loaded) (first_along fault_of_file (front ++ loaded ∷ []) files) h in
    let none : fault_in_file scopes loaded ≡ None =
    ap (λ (ss : List Scope). fault_in_file ss loaded) is ∙ none_mapped (in_file loaded) (fault_in_file (scopes_of front) loaded) parts.0 in
    files_fit (trees ++ tree_of_file trees loaded ∷ []) (scopes ++ scope_of scopes loaded ∷ []) (front ++ loaded ∷ []) files
    (one_more_fits trees scopes (tree_of_file trees loaded) (scope_of scopes loaded) fit (file_fits trees scopes loaded fit loaded.file.root refl none))
    (ap (λ (ss : List Scope). ss ++ scope_of ss loaded ∷ []) is ∙ sym (scopes_more front loaded)) parts.1

-- the law
pub scopes_fit : ScopesAreOfTrees
scopes_fit files none position scope at =
    let here = (files_fit [] [] [] files none_fit refl none).each position scope at in
    record {
      tree = here.2.there;
      placed = here.1 ∙ ap (λ (t : Option Tree). Some t) here.2.is;
      of_tree = here.2.of_tree;
      within = here.2.within;
    }
