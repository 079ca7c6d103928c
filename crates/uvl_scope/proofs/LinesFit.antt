-- What the lines of a feature bring is its tree.
use Rattle.std.proofs.Common.{◌≡◌, ℕ, zero, suc, ◌+◌, ◌-◌, ◌≤◌, max, Bool, true, false, not, List, [], ◌∷◌, ◌++◌, map, length, Option, Some, None, refl, sym, ap, ◌∙◌, subst, arith, ◌==◌}
use Rattle.std.specs.Prelude.{◌||◌}
use Rattle.std.specs.List.{All}
use Rattle.std.specs.Option.{option_map, is_none}
use borrow.Author.Tests.{ne_eqb}
use Rattle.std.proofs.lemmas.Bool.{false≢true}
use Rattle.std.proofs.lemmas.List.{length-map, append-nil}
use Rattle.std.proofs.lemmas.List.Elements.{All-nil, All-cons, All-head, All-tail}
use Rattle.uvl_ast.specs.Depth.{greatest, feature_depth, group_depth, depth_of_group}
use Rattle.uvl_ast.specs.Depth.{depth_of as written_depth}
use Rattle.uvl_ast.specs.declared.feature.Attribute.{Attribute}
use Rattle.uvl_ast.specs.declared.feature.Feature.{Feature, out-Feature}
use Rattle.uvl_ast.specs.declared.feature.Feature.TheFolds.{fold_out-Feature, fold_out-Group}
use Rattle.uvl_ast.specs.declared.feature.Group.{Group, out-Group}
use Rattle.uvl_imports.specs.declared.file_set.Loaded.{Loaded}
use Rattle.uvl_placing.specs.Files.{imports_of}
use Rattle.uvl_placing.specs.Names.{dotted, front_of}
use Rattle.uvl_placing.specs.Options.{of_both}
use Rattle.uvl_placing.specs.Trees.{Imports, Branch, tree_of_names, members_of, groups_of, branch_of, tree_of_feature, branch_of_group, tree_of_line, branch_of_written}
use Rattle.uvl_scope.specs.declared.scope.Scope.{Scope}
use Rattle.uvl_scope.specs.Brought.{Brought, Placing, nothing, together, declared, placed, placed_scope, brought_at, brought_by_lines, is_placing}
use Rattle.uvl_scope.specs.LineFaults.{has_more}
use Rattle.uvl_scope.specs.Lines.{Line, of_feature, line_of, lines_from, lines_below}
use Rattle.uvl_scope.proofs.NoFault.{PlacesOne, IsPlaced, fails_second}
use Rattle.uvl_scope.proofs.Placements.{AllFit, scope_places}
use Rattle.uvl_scope.proofs.Prefixing.{attributes_both, attributes-prefixed, names-prefixed, depth-prefixed}
use Rattle.uvl_scope.proofs.Together.{brought-append}
use Rattle.uvl_scope.proofs.WalkLines.{lines_of_groups, lines_of_members, group_line, lines_at, lines_in}
use Rattle.uvl_semantics.specs.Prefix.{prefixed_name, prefixed}
use Rattle.uvl_semantics.specs.Tree.{Tree, Groups, Members, Head, feature, no_groups, group, no_members, member, heads_of, heads_of_groups, heads_of_members, names_of, names_of_groups, names_of_members, depth_of, depth_of_groups, depth_of_members}

-- of each of the front, and of each of the rest
front_all : {X : Type 0} (P : X → Type 0) (xs ys : List X) → All P (xs ++ ys) → All P xs
front_all P [] ys h = All-nil P
front_all P (x ∷ xs) ys h = All-cons P x xs (All-head P x (xs ++ ys) h) (front_all P xs ys (All-tail P x (xs ++ ys) h))

rest_all : {X : Type 0} (P : X → Type 0) (xs ys : List X) → All P (xs ++ ys) → All P ys
rest_all P [] ys h = h
rest_all P (x ∷ xs) ys h = rest_all P xs ys (All-tail P x (xs ++ ys) h)

-- how deep a line and a group are written
depth_at : (line : Feature) → written_depth line ≡ 1 + greatest (map depth_of_group (out-Feature line).groups)
depth_at line = fold_out-Feature ℕ ℕ feature_depth group_depth line

depth_in : (written : Group) → depth_of_group written ≡ greatest (map written_depth (out-Group written).members)
depth_in written = fold_out-Group ℕ ℕ feature_depth group_depth written

-- a line by what stands below it, and a group by its members
line_at : (imports : Imports) (line : Feature)
    → tree_of_line imports line
    ≡ tree_of_names imports (out-Feature line).name.parts (out-Feature line).attributes (groups_of (map (branch_of_written imports) (out-Feature line).groups))
line_at imports line = fold_out-Feature (Option Tree) (Option Branch) (tree_of_feature imports) branch_of_group line

group_at : (imports : Imports) (written : Group)
    → branch_of_written imports written
    ≡ option_map (branch_of (out-Group written).kind (length (out-Group written).members)) (members_of (map (tree_of_line imports) (out-Group written).members))
group_at imports written =
    fold_out-Group (Option Tree) (Option Branch) (tree_of_feature imports) branch_of_group written
    ∙ ap (λ (n : ℕ). option_map (branch_of (out-Group written).kind n) (members_of (map (tree_of_line imports) (out-Group written).members)))
    (length-map (out-Group written).members (tree_of_line imports))

-- what stands at features
abbrev attributes_at : List Head → List (List Attribute)
attributes_at heads = map (λ head. head.attributes) heads

-- a line one deeper than this has a tree, of which it brings the names, the attributes and the depth
pub record LineFits (placing : Placing) (imports : Imports) (line : Feature) (above : ℕ) : Type 0 where
  pub tree : Tree
  pub is : tree_of_line imports line ≡ Some tree
  pub names : (brought_by_lines placing (lines_from line (above + 1))).names ≡ names_of tree
  pub attributes : (brought_by_lines placing (lines_from line (above + 1))).attributes ≡ attributes_at (heads_of tree)
  pub depth : (brought_by_lines placing (lines_from line (above + 1))).depth ≡ above + depth_of tree

-- so have the members of a group
record MembersFit (placing : Placing) (imports : Imports) (written : List Feature) (above : ℕ) : Type 0 where
  trees : Members
  are : members_of (map (tree_of_line imports) written) ≡ Some trees
  names : (brought_by_lines placing (lines_of_members (above + 1) written)).names ≡ names_of_members trees
  attributes : (brought_by_lines placing (lines_of_members (above + 1) written)).attributes ≡ attributes_at (heads_of_members trees)
  depth : max above (brought_by_lines placing (lines_of_members (above + 1) written)).depth ≡ above + depth_of_members trees

-- and the groups of a feature at this depth
record GroupsFit (placing : Placing) (imports : Imports) (written : List Group) (above : ℕ) : Type 0 where
  below : Groups
  are : groups_of (map (branch_of_written imports) written) ≡ Some below
  names : (brought_by_lines placing (lines_of_groups above written)).names ≡ names_of_groups below
  attributes : (brought_by_lines placing (lines_of_groups above written)).attributes ≡ attributes_at (heads_of_groups below)
  depth : max above (brought_by_lines placing (lines_of_groups above written)).depth ≡ above + depth_of_groups below

module _ (trees : List (Option Tree)) (scopes : List Scope) (loaded : Loaded) (fit : AllFit trees scopes) where
  abbrev placing : Placing
  placing = placed_scope scopes loaded

  abbrev imports : Imports
  imports = imports_of trees loaded

  -- lines that are written at most n deep
  abbrev Fit : ℕ → Type 0
  Fit n = (line : Feature) (above : ℕ) → written_depth line ≤ n → All (IsPlaced placing) (lines_from line (above + 1)) → LineFits placing imports line above

  members_fit : (n : ℕ) → Fit n → (written : List Feature) (above : ℕ) → greatest (map written_depth written) ≤ n
      → All (IsPlaced placing) (lines_of_members (above + 1) written) → MembersFit placing imports written above
  members_fit n each [] above few all = record { trees = no_members; are = refl; names = refl; attributes = refl; depth = omega arith }
  members_fit n each (line ∷ written) above few all =
      let front = lines_from line (above + 1) in
      let rest = lines_of_members (above + 1) written in
      let first = each line above (omega (arith, few)) (front_all (IsPlaced placing) front rest all) in
      let others = members_fit n each written above (omega (arith, few)) (rest_all (IsPlaced placing) front rest all) in
      let whole : brought_by_lines placing (front ++ rest) ≡ together (brought_by_lines placing front) (brought_by_lines placing rest) = brought-append placing front rest in
      let deep : max above (max (brought_by_lines placing front).depth (brought_by_lines placing rest).depth) ≡ above + max (depth_of first.tree) (depth_of_members others.trees) =
      omega (arith, first.depth, others.depth) in
      record {
        trees = member first.tree others.trees;
        are = ap (λ (t : Option Tree). of_both (λ tree others. member tree others) t (members_of (map (tree_of_line imports) written))) first.is
            ∙ ap (λ (ms : Option Members). of_both (λ tree others. member tree others) (Some first.tree) ms) others.are;
        names = ap (λ (b : Brought). b.names) whole ∙ ap (λ (ns : List (List ℕ)). ns ++ (brought_by_lines placing rest).names) first.names
            ∙ ap (λ (ns : List (List ℕ)). names_of first.tree ++ ns) others.names;
        attributes = ap (λ (b : Brought). b.attributes) whole
            ∙ attributes_both (heads_of first.tree) (heads_of_members others.trees) (brought_by_lines placing front).attributes (brought_by_lines placing rest).attributes
            first.attributes others.attributes;
        depth = ap (λ (b : Brought). max above b.depth) whole ∙ deep;
      }

  groups_fit : (n : ℕ) → Fit n → (written : List Group) (above : ℕ) → greatest (map depth_of_group written) ≤ n
      → All (IsPlaced placing) (lines_of_groups above written) → GroupsFit placing imports written above
  groups_fit n each [] above few all = record { below = no_groups; are = refl; names = refl; attributes = refl; depth = omega arith }
  groups_fit n each (one ∷ written) above few all =
      let members = (out-Group one).members in
      let front = lines_below one above in
      let inner = lines_of_members (above + 1) members in
      let rest = lines_of_groups above written in
      let here : All (IsPlaced placing) (group_line one ∷ inner) = subst (λ (ls : List Line). All (IsPlaced placing) ls) (lines_in one above) (front_all (IsPlaced placing) front rest all) in
      let first = members_fit n each members above (omega (arith, few, depth_in one)) (All-tail (IsPlaced placing) (group_line one) inner here) in
      let others = groups_fit n each written above (omega (arith, few)) (rest_all (IsPlaced placing) front rest all) in
      let whole : brought_by_lines placing (front ++ rest) ≡ together (together nothing (brought_by_lines placing inner)) (brought_by_lines placing rest) =
      brought-append placing front rest
      ∙ ap (λ (ls : List Line). together (brought_by_lines placing ls) (brought_by_lines placing rest)) (lines_in one above) in
      let made : Branch = branch_of (out-Group one).kind (length members) first.trees in
      let is : branch_of_written imports one ≡ Some made =
      group_at imports one ∙ ap (option_map (branch_of (out-Group one).kind (length members))) first.are in
      let deep : max above (max (max 0 (brought_by_lines placing inner).depth) (brought_by_lines placing rest).depth)
      ≡ above + max (depth_of_members first.trees) (depth_of_groups others.below) = omega (arith, first.depth, others.depth) in
      record {
        below = group made.lo made.hi first.trees others.below;
        are = ap (λ (b : Option Branch). of_both (λ one others. group one.lo one.hi one.members others) b (groups_of (map (branch_of_written imports) written))) is
            ∙ ap (λ (gs : Option Groups). of_both (λ one others. group one.lo one.hi one.members others) (Some made) gs) others.are;
        names = ap (λ (b : Brought). b.names) whole ∙ ap (λ (ns : List (List ℕ)). ns ++ (brought_by_lines placing rest).names) first.names
            ∙ ap (λ (ns : List (List ℕ)). names_of_members first.trees ++ ns) others.names;
        attributes = ap (λ (b : Brought). b.attributes) whole
            ∙ attributes_both (heads_of_members first.trees) (heads_of_groups others.below) (brought_by_lines placing inner).attributes (brought_by_lines placing rest).attributes
            first.attributes others.attributes;
        depth = ap (λ (b : Brought). max above b.depth) whole ∙ deep;
      }

  -- a line that declares a feature
  declares : (line : Feature) (above : ℕ) (name : List ℕ) → (out-Feature line).name.parts ≡ name ∷ []
      → GroupsFit placing imports (out-Feature line).groups (above + 1) → LineFits placing imports line above
  declares line above name is groups =
      let rest = lines_of_groups (above + 1) (out-Feature line).groups in
      let brought : brought_by_lines placing (lines_from line (above + 1)) ≡ together (declared (above + 1) (out-Feature line).attributes name) (brought_by_lines placing rest) =
      ap (brought_by_lines placing) (lines_at line (above + 1))
      ∙ ap (λ (ps : List (List ℕ)). together (brought_at placing (above + 1) (out-Feature line).attributes ps) (brought_by_lines placing rest)) is in
      let deep : max (above + 1) (brought_by_lines placing rest).depth ≡ above + (1 + depth_of_groups groups.below) = omega (arith, groups.depth) in
      record {
        tree = feature (record { name = name; attributes = (out-Feature line).attributes }) groups.below;
        is = line_at imports line
            ∙ ap (λ (ps : List (List ℕ)). tree_of_names imports ps (out-Feature line).attributes (groups_of (map (branch_of_written imports) (out-Feature line).groups))) is
            ∙ ap (tree_of_names imports (name ∷ []) (out-Feature line).attributes) groups.are;
        names = ap (λ (b : Brought). b.names) brought ∙ ap (λ (ns : List (List ℕ)). name ∷ ns) groups.names;
        attributes = ap (λ (b : Brought). b.attributes) brought ∙ ap (λ (lists : List (List Attribute)). (out-Feature line).attributes ∷ lists) groups.attributes;
        depth = ap (λ (b : Brought). b.depth) brought ∙ deep;
      }

  -- no groups stand below a line without more
  no_groups_below : (attributes rules : Bool) (groups : List Group) → (attributes || rules || not (length groups == 0)) ≡ false → groups ≡ []
  no_groups_below attributes rules [] h = refl
  no_groups_below true rules (one ∷ groups) h = absurd (false≢true (sym h))
  no_groups_below false true (one ∷ groups) h = absurd (false≢true (sym h))
  no_groups_below false false (one ∷ groups) h =
      let some : (suc (length groups) == 0) ≡ false = ne_eqb (suc (length groups)) 0 (λ e. absurd (omega (arith, e))) in
      absurd (false≢true (sym h ∙ ap not some))

  -- a line that places a file
  places : (line : Feature) (above : ℕ) (part next : List ℕ) (parts : List (List ℕ)) (scope : Scope)
      → (out-Feature line).name.parts ≡ part ∷ next ∷ parts → placing (part ∷ next ∷ parts) ≡ Some scope → (out-Feature line).groups ≡ [] → LineFits placing imports line above
  places line above part next parts scope is found none =
      let all : List (List ℕ) = part ∷ next ∷ parts in
      let qualifier = dotted (front_of (part ∷ next ∷ parts)) in
      let here = scope_places trees scopes loaded fit (part ∷ next ∷ parts) scope found in
      let brought : brought_by_lines placing (lines_from line (above + 1)) ≡ together (placed (above + 1) qualifier (Some scope)) nothing =
      ap (brought_by_lines placing) (lines_at line (above + 1))
      ∙ ap (λ (ps : List (List ℕ)). together (brought_at placing (above + 1) (out-Feature line).attributes ps) (brought_by_lines placing (lines_of_groups (above + 1) (out-Feature line).groups))) is
      ∙ ap (λ (s : Option Scope). together (placed (above + 1) qualifier s) (brought_by_lines placing (lines_of_groups (above + 1) (out-Feature line).groups))) found
      ∙ ap (λ (gs : List Group). together (placed (above + 1) qualifier (Some scope)) (brought_by_lines placing (lines_of_groups (above + 1) gs))) none in
      let deep : max ((above + 1) + scope.depth - 1) 0 ≡ above + depth_of (prefixed qualifier here.tree) = omega (arith, here.of_tree.depth, depth-prefixed qualifier here.tree) in
      record {
        tree = prefixed qualifier here.tree;
        is = line_at imports line
            ∙ ap (λ (ps : List (List ℕ)). tree_of_names imports ps (out-Feature line).attributes (groups_of (map (branch_of_written imports) (out-Feature line).groups))) is
            ∙ here.is;
        names = ap (λ (b : Brought). b.names) brought ∙ append-nil (map (prefixed_name qualifier) scope.names)
            ∙ ap (map (prefixed_name qualifier)) here.of_tree.names ∙ sym (names-prefixed qualifier here.tree);
        attributes = ap (λ (b : Brought). b.attributes) brought ∙ append-nil scope.attributes ∙ here.of_tree.attributes
            ∙ sym (attributes-prefixed qualifier here.tree);
        depth = ap (λ (b : Brought). b.depth) brought ∙ deep;
      }

  -- by the parts of the reference
  by_parts : (line : Feature) (above : ℕ) (parts : List (List ℕ)) → (out-Feature line).name.parts ≡ parts
      → PlacesOne placing (line_of (out-Feature line) (above + 1)) → GroupsFit placing imports (out-Feature line).groups (above + 1) → LineFits placing imports line above
  by_parts line above [] is one groups =
      absurd (false≢true (sym (ap (λ (ps : List (List ℕ)). is_none (placing ps)) (sym is) ∙ fails_second (is_placing (out-Feature line).name.parts) (is_none (placing (out-Feature line).name.parts)) one.one (ap is_placing is))))
  by_parts line above (name ∷ []) is one groups = declares line above name is groups
  by_parts line above (part ∷ next ∷ parts) is one groups =
      let bare = fails_second (is_placing (out-Feature line).name.parts) (has_more (line_of (out-Feature line) (above + 1))) one.bare (ap is_placing is) in
      let there : is_none (placing (part ∷ next ∷ parts)) ≡ false =
      ap (λ (ps : List (List ℕ)). is_none (placing ps)) (sym is) ∙ fails_second (is_placing (out-Feature line).name.parts) (is_none (placing (out-Feature line).name.parts)) one.one (ap is_placing is) in
      let none : (out-Feature line).groups ≡ [] =
      no_groups_below (not (length (out-Feature line).attributes == 0)) (not (length (out-Feature line).rules == 0)) (out-Feature line).groups bare in
      found (placing (part ∷ next ∷ parts)) refl there none
    where
      found : (scope : Option Scope) → placing (part ∷ next ∷ parts) ≡ scope → is_none scope ≡ false → (out-Feature line).groups ≡ [] → LineFits placing imports line above
      found None at there none = absurd (false≢true (sym there))
      found (Some scope) at there none = places line above part next parts scope is at none

  lines_fit : (n : ℕ) → Fit n
  lines_fit zero line above few all = absurd (omega (arith, few, depth_at line))
  lines_fit (suc n) line above few all =
      let own : Line = of_feature (line_of (out-Feature line) (above + 1)) in
      let rest = lines_of_groups (above + 1) (out-Feature line).groups in
      let here : All (IsPlaced placing) (own ∷ rest) = subst (λ (ls : List Line). All (IsPlaced placing) ls) (lines_at line (above + 1)) all in
      let groups = groups_fit n (lines_fit n) (out-Feature line).groups (above + 1) (omega (arith, few, depth_at line)) (All-tail (IsPlaced placing) own rest here) in
      by_parts line above (out-Feature line).name.parts refl (All-head (IsPlaced placing) own rest here) groups

  -- a line whose lines place what they are to place has a tree
  pub line_fits : (line : Feature) (above : ℕ) → All (IsPlaced placing) (lines_from line (above + 1)) → LineFits placing imports line above
  line_fits line above all = lines_fit (written_depth line) line above (omega arith) all
