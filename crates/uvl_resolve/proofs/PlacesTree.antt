-- The trees that the placing lines of a file place stand within the file's tree.
use Rattle.std.proofs.Common.{◌≡◌, ℕ, ◌+◌, List, [], ◌∷◌, ◌++◌, length, map, Option, Some, None, Bool, true, false, cond, refl, sym, ap, ◌∙◌, subst}
use Rattle.std.specs.Prelude.{slice_get}
use Rattle.std.specs.List.{AllByRecursion, flat_map}
use Rattle.std.specs.Option.{option_and_then}
use Rattle.std.specs.Str.{bytes_eq}
use Rattle.std.proofs.lemmas.Slice.Eq.{bytes_eq-Decides}
use Rattle.uvl_ast.specs.declared.feature.Attribute.{Attribute}
use Rattle.uvl_ast.specs.declared.feature.Feature.{Feature, roll-Feature}
use Rattle.uvl_ast.specs.declared.feature.Feature.TheOpen.{Feature-F, Group-F}
use Rattle.uvl_ast.specs.declared.feature.Feature.TheFolds.{fold-roll-Feature, fold-roll-Group}
use Rattle.uvl_ast.specs.declared.feature.Group.{Group, roll-Group}
use Rattle.uvl_placing.specs.Constraints.{placing_names, placings_below, placings_from, placings_of_feature, placings_of_group}
use Rattle.uvl_placing.specs.Names.{dotted, front_of, last_of, target_called}
use Rattle.uvl_placing.specs.Options.{known}
use Rattle.uvl_placing.specs.Trees.{Imports, Branch, branch_of, branch_of_group, branch_of_written, groups_of, members_of, tree_called, tree_of_feature, tree_of_line, tree_of_names, tree_placed, with_root}
use Rattle.uvl_resolve.specs.steps.Rules.{StandAt}
use Rattle.uvl_resolve.proofs.Parts.{by_parts, both_all}
use Rattle.uvl_resolve.proofs.Options.{both_there, known_there, made_there, then_there}
use Rattle.uvl_resolve.proofs.Standing.{stand_behind, stand_before, stand_under, heads_prefixed, top_first, last_dotted, get_behind, get_before}
use Rattle.uvl_semantics.specs.Prefix.{prefixed, prefixed_head, prefixed_name}
use Rattle.uvl_semantics.specs.Tree.{Tree, Groups, Members, Head, feature, group, member, heads_of, heads_of_groups, heads_of_members, top_head, top_name}

module _ (imports : Imports) where
  -- a reference places the tree of a file of the set, whose features stand among these under the qualifier
  pub record PlacesTree (all : List Head) (reference : List (List ℕ)) : Type 0 where
    pub target : ℕ
    pub called : target_called (dotted (front_of reference)) imports.lines imports.targets ≡ Some target
    pub tree : Tree
    pub there : slice_get imports.trees target ≡ Some (Some tree)
    pub number : ℕ
    pub top : Head
    pub at : slice_get all number ≡ Some top
    pub named : top.name ≡ dotted reference
    pub stand : StandAt all number (dotted (front_of reference) ++ 46 ∷ []) (heads_of tree)

  behind : (front all : List Head) (reference : List (List ℕ)) → PlacesTree all reference → PlacesTree (front ++ all) reference
  behind front all reference h = record {
    target = h.target;
    called = h.called;
    tree = h.tree;
    there = h.there;
    number = length front + h.number;
    top = h.top;
    at = get_behind front all (length front + h.number) h.number refl ∙ h.at;
    named = h.named;
    stand = stand_behind front all h.number (dotted (front_of reference) ++ 46 ∷ []) (heads_of h.tree) h.stand;
  }

  before : (all rest : List Head) (reference : List (List ℕ)) → PlacesTree all reference → PlacesTree (all ++ rest) reference
  before all rest reference h = record {
    target = h.target;
    called = h.called;
    tree = h.tree;
    there = h.there;
    number = h.number;
    top = h.top;
    at = get_before all rest h.number h.top h.at;
    named = h.named;
    stand = stand_before all rest h.number (dotted (front_of reference) ++ 46 ∷ []) (heads_of h.tree) h.stand;
  }

  EachPlaces : List Head → List (List (List ℕ)) → Type 0
  EachPlaces all references = AllByRecursion (PlacesTree all) references

  each_behind : (front all : List Head) (references : List (List (List ℕ))) → AllByRecursion (PlacesTree all) references → AllByRecursion (PlacesTree (front ++ all)) references
  each_behind front all [] h = tt
  each_behind front all (r ∷ rs) h = (behind front all r h.0, each_behind front all rs h.1)

  each_before : (all rest : List Head) (references : List (List (List ℕ))) → AllByRecursion (PlacesTree all) references → AllByRecursion (PlacesTree (all ++ rest)) references
  each_before all rest [] h = tt
  each_before all rest (r ∷ rs) h = (before all rest r h.0, each_before all rest rs h.1)

  pub root_there : (name : List ℕ) (tree found : Tree) → with_root name tree ≡ Some found → (tree ≡ found) × (top_name found ≡ name)
  root_there name tree found h = by (bytes_eq (top_name tree) name) refl
    where
      by : (b : Bool) → bytes_eq (top_name tree) name ≡ b → (tree ≡ found) × (top_name found ≡ name)
      by true e =
          let same : tree ≡ found = let s : Some tree ≡ Some found = sym (ap (λ (t : Bool). cond t (Some tree) None) e) ∙ h in cc in
          (same, ap top_name (sym same) ∙ (bytes_eq-Decides (top_name tree) name).0 e)
      by false e = let s : None ≡ Some found = sym (ap (λ (t : Bool). cond t (Some tree) None) e) ∙ h in absurd cc

  -- a placing line
  placed_line : (name next : List ℕ) (names : List (List ℕ)) (tree : Tree) → tree_placed imports (name ∷ next ∷ names) ≡ Some tree
      → PlacesTree (heads_of tree) (name ∷ next ∷ names)
  placed_line name next names tree is =
      let reference = name ∷ next ∷ names in
      let q = dotted (front_of reference) in
      let whole = made_there (prefixed q) (option_and_then (with_root (last_of reference)) (tree_called imports q)) tree is in
      let rooted = then_there (with_root (last_of reference)) (tree_called imports q) whole.0 whole.1 in
      let called = then_there (λ (position : ℕ). known (slice_get imports.trees position)) (target_called q imports.lines imports.targets) rooted.0 rooted.1 in
      let root = root_there (last_of reference) rooted.0 whole.0 rooted.2 in
      let under : heads_of tree ≡ map (prefixed_head q) (heads_of whole.0) = ap heads_of whole.2 ∙ heads_prefixed q whole.0 in
      let stand : StandAt (heads_of tree) 0 (q ++ 46 ∷ []) (heads_of whole.0) =
      subst (λ (hs : List Head). StandAt hs 0 (q ++ 46 ∷ []) (heads_of whole.0)) (sym under) (stand_under q (heads_of whole.0)) in
      record {
        target = called.0;
        called = called.1;
        tree = whole.0;
        there = known_there (slice_get imports.trees called.0) rooted.0 called.2 ∙ ap (λ (t : Tree). Some (Some t)) root.0;
        number = 0;
        top = top_head tree;
        at = top_first tree;
        named = ap (λ (t : Tree). (top_head t).name) whole.2 ∙ top_under q whole.0
            ∙ ap (prefixed_name q) root.1 ∙ last_dotted name next names;
        stand = stand;
      }
    where
      top_under : (q : List ℕ) (tree : Tree) → (top_head (prefixed q tree)).name ≡ prefixed_name q (top_name tree)
      top_under q (feature head below) = refl

  -- what a line says, and each placing line from it on
  abbrev PlacesBelow : Feature → Type 0
  PlacesBelow line = (tree : Tree) → tree_of_line imports line ≡ Some tree → AllByRecursion (PlacesTree (heads_of tree)) (placings_from line)

  abbrev PlacesInside : Group → Type 0
  PlacesInside written =
      (branch : Branch) → branch_of_written imports written ≡ Some branch → AllByRecursion (PlacesTree (heads_of_members branch.members)) (placings_below written)

  groups_place : (groups : List Group) → AllByRecursion PlacesInside groups → (below : Groups) → groups_of (map (branch_of_written imports) groups) ≡ Some below
      → AllByRecursion (PlacesTree (heads_of_groups below)) (flat_map (λ placings. placings) (map placings_below groups))
  groups_place [] h below is = tt
  groups_place (written ∷ groups) h below is =
      let both = both_there (λ (first : Branch) (others : Groups). group first.lo first.hi first.members others) (branch_of_written imports written)
      (groups_of (map (branch_of_written imports) groups)) below is in
      let here = h.0 both.0 both.2 in
      let rest = groups_place groups h.1 both.1 both.3 in
      subst (λ (hs : List Head). AllByRecursion (PlacesTree hs) (placings_below written ++ flat_map (λ placings. placings) (map placings_below groups)))
      (sym (ap heads_of_groups both.4))
      (both_all (PlacesTree (heads_of_members both.0.members ++ heads_of_groups both.1)) (placings_below written) (flat_map (λ placings. placings) (map placings_below groups))
      (each_before (heads_of_members both.0.members) (heads_of_groups both.1) (placings_below written) here)
      (each_behind (heads_of_members both.0.members) (heads_of_groups both.1) (flat_map (λ placings. placings) (map placings_below groups)) rest))

  members_place : (lines : List Feature) → AllByRecursion PlacesBelow lines → (members : Members) → members_of (map (tree_of_line imports) lines) ≡ Some members
      → AllByRecursion (PlacesTree (heads_of_members members)) (flat_map (λ placings. placings) (map placings_from lines))
  members_place [] h members is = tt
  members_place (line ∷ lines) h members is =
      let both = both_there (λ (first : Tree) (others : Members). member first others) (tree_of_line imports line) (members_of (map (tree_of_line imports) lines)) members is in
      let here = h.0 both.0 both.2 in
      let rest = members_place lines h.1 both.1 both.3 in
      subst (λ (hs : List Head). AllByRecursion (PlacesTree hs) (placings_from line ++ flat_map (λ placings. placings) (map placings_from lines)))
      (sym (ap heads_of_members both.4))
      (both_all (PlacesTree (heads_of both.0 ++ heads_of_members both.1)) (placings_from line) (flat_map (λ placings. placings) (map placings_from lines))
      (each_before (heads_of both.0) (heads_of_members both.1) (placings_from line) here)
      (each_behind (heads_of both.0) (heads_of_members both.1) (flat_map (λ placings. placings) (map placings_from lines)) rest))

  -- a line, by its names
  names_place : (names : List (List ℕ)) (attributes : List Attribute) (groups : List Group) → AllByRecursion PlacesInside groups → (tree : Tree)
      → tree_of_names imports names attributes (groups_of (map (branch_of_written imports) groups)) ≡ Some tree
      → AllByRecursion (PlacesTree (heads_of tree)) (placing_names names (flat_map (λ placings. placings) (map placings_below groups)))
  names_place [] attributes groups h tree is = tt
  names_place (name ∷ []) attributes groups h tree is =
      let made = made_there (λ (below : Groups). feature (record { name = name; attributes = attributes }) below) (groups_of (map (branch_of_written imports) groups)) tree is in
      subst (λ (hs : List Head). AllByRecursion (PlacesTree hs) (flat_map (λ placings. placings) (map placings_below groups)))
      (sym (ap heads_of made.2))
      (each_behind (record { name = name; attributes = attributes } ∷ []) (heads_of_groups made.0) (flat_map (λ placings. placings) (map placings_below groups)) (groups_place groups h made.0 made.1))
  names_place (name ∷ next ∷ names) attributes groups h tree is = (placed_line name next names tree is, tt)

  line_places : (x : Feature-F Feature Group) → AllByRecursion PlacesInside x.groups → PlacesBelow (roll-Feature x)
  line_places x h tree is =
      subst (λ (rs : List (List (List ℕ))). AllByRecursion (PlacesTree (heads_of tree)) rs)
      (sym (fold-roll-Feature (List (List (List ℕ))) (List (List (List ℕ))) placings_of_feature placings_of_group x))
      (names_place x.name.parts x.attributes x.groups h tree
      (sym (fold-roll-Feature (Option Tree) (Option Branch) (tree_of_feature imports) branch_of_group x) ∙ is))

  group_places : (x : Group-F Feature Group) → AllByRecursion PlacesBelow x.members → PlacesInside (roll-Group x)
  group_places x h branch is =
      let made = made_there (branch_of x.kind (length (map (tree_of_line imports) x.members))) (members_of (map (tree_of_line imports) x.members)) branch
      (sym (fold-roll-Group (Option Tree) (Option Branch) (tree_of_feature imports) branch_of_group x) ∙ is) in
      subst (λ (rs : List (List (List ℕ))). AllByRecursion (PlacesTree (heads_of_members branch.members)) rs)
      (sym (fold-roll-Group (List (List (List ℕ))) (List (List (List ℕ))) placings_of_feature placings_of_group x))
      (subst (λ (b : Branch). AllByRecursion (PlacesTree (heads_of_members b.members)) (flat_map (λ placings. placings) (map placings_from x.members))) (sym made.2)
      (members_place x.members h made.0 made.1))

  -- each placing line of a file
  pub each_places : (line : Feature) (tree : Tree) → tree_of_line imports line ≡ Some tree → AllByRecursion (PlacesTree (heads_of tree)) (placings_from line)
  each_places = by_parts PlacesBelow PlacesInside line_places group_places
