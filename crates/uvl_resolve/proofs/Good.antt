-- The placed trees of a set have bounds that a model may have, and attributes that a model may have.
use Rattle.std.proofs.Common.{◌≡◌, ℕ, ◌+◌, ◌≤◌, min, List, [], ◌∷◌, length, map, Option, Some, None, false, refl, sym, ap, ◌∙◌, subst, arith, inl, inr}
use Rattle.std.specs.Prelude.{slice_get}
use Rattle.std.specs.List.{All, AllByRecursion, flat_map}
use Rattle.std.specs.Option.{option_and_then}
use Rattle.std.proofs.lemmas.Bool.{cases_order, ltb-false}
use Rattle.std.proofs.lemmas.List.{length-map}
use Rattle.std.proofs.lemmas.List.Elements.{All-cons, All-nil, All-append}
use Rattle.uvl_ast.specs.declared.feature.Attribute.{Attribute}
use Rattle.uvl_ast.specs.declared.feature.Feature.{Feature, roll-Feature}
use Rattle.uvl_ast.specs.declared.feature.Feature.TheOpen.{Feature-F, Group-F}
use Rattle.uvl_ast.specs.declared.feature.Feature.TheFolds.{fold-roll-Feature, fold-roll-Group}
use Rattle.uvl_ast.specs.declared.feature.Group.{Group, roll-Group}
use Rattle.uvl_ast.specs.declared.feature.GroupKind.{GroupKind}
use Rattle.uvl_ast.specs.declared.feature.GroupKind.TheVariants.{Mandatory, Optional, Alternative, Or, Range}
use Rattle.uvl_ast.specs.Members.{feature_counts, group_counts, member_counts, member_counts_of_group}
use Rattle.uvl_ast.specs.Nesting.{all_attributes, all_attributes_of_group, feature_attributes, group_attributes}
use Rattle.uvl_model.specs.declared.rows.FeatureNo.{FeatureNo}
use Rattle.uvl_model.specs.declared.rows.FeatureRow.{FeatureRow}
use Rattle.uvl_model.specs.Sound.{AreAttributes, AreBounded, HasBounds, IsBounded, MembersAreBounded}
use Rattle.uvl_model.specs.Spelling.{feature_rows, feature_rows_of_groups, feature_rows_of_members, numbered, size_of, size_of_members}
use Rattle.uvl_placing.specs.Bounds.{least_of, most_of}
use Rattle.uvl_placing.specs.Names.{dotted, front_of, last_of, target_called}
use Rattle.uvl_placing.specs.Options.{known}
use Rattle.uvl_placing.specs.Trees.{Imports, Branch, branch_of, branch_of_group, branch_of_written, groups_of, members_of, tree_called, tree_of_feature, tree_of_line, tree_of_names, tree_placed, with_root}
use Rattle.uvl_resolve.proofs.Options.{both_there, known_there, made_there, then_there}
use Rattle.uvl_resolve.proofs.Parts.{by_parts, front_all, rest_all, parts_all}
use Rattle.uvl_resolve.proofs.PlacesTree.{root_there}
use Rattle.uvl_scope.specs.Keys.{repeated_key}
use Rattle.uvl_scope.specs.LineFaults.{is_bad_range}
use Rattle.uvl_scope.specs.Lines.{Line, of_feature, of_group, lines_below, lines_from, lines_of_feature, lines_of_group}
use Rattle.uvl_semantics.specs.Prefix.{prefixed, prefixed_groups, prefixed_members}
use Rattle.uvl_semantics.specs.Tree.{Tree, Groups, Members, feature, no_groups, group, no_members, member, member_count}

-- ---- trees that a model may have

abbrev mutual
  -- each feature has attributes that a model may have, and each group such bounds
  pub IsGood : Tree → Type 0
  IsGood (feature head below) = AreAttributes head.attributes × AreGood below

  pub AreGood : Groups → Type 0
  AreGood no_groups = Unit {0}
  AreGood (group lo hi members others) = HasBounds lo hi (member_count members) × (MembersAreGood members × AreGood others)

  pub MembersAreGood : Members → Type 0
  MembersAreGood no_members = Unit {0}
  MembersAreGood (member tree others) = IsGood tree × MembersAreGood others

mutual
  pub bounded : (tree : Tree) → IsGood tree → IsBounded tree
  bounded (feature head below) good = groups_bounded below good.1

  groups_bounded : (below : Groups) → AreGood below → AreBounded below
  groups_bounded no_groups good = tt
  groups_bounded (group lo hi members others) good = (good.0, members_bounded members good.1.0, groups_bounded others good.1.1)

  members_bounded : (members : Members) → MembersAreGood members → MembersAreBounded members
  members_bounded no_members good = tt
  members_bounded (member tree others) good = (bounded tree good.0, members_bounded others good.1)

-- a row has attributes that a model may have
abbrev pub RowIsGood : FeatureRow → Type 0
RowIsGood row = AreAttributes row.attributes

mutual
  pub rows_good : (parent : Option FeatureNo) (n : ℕ) (tree : Tree) → IsGood tree → All RowIsGood (feature_rows parent n tree)
  rows_good parent n (feature head below) good =
      All-cons RowIsGood (record { name = head.name; parent = parent; attributes = head.attributes }) (feature_rows_of_groups (numbered n) (n + 1) below) good.0
      (groups_rows_good (numbered n) (n + 1) below good.1)

  groups_rows_good : (parent : FeatureNo) (n : ℕ) (below : Groups) → AreGood below → All RowIsGood (feature_rows_of_groups parent n below)
  groups_rows_good parent n no_groups good = All-nil RowIsGood
  groups_rows_good parent n (group lo hi members others) good =
      All-append RowIsGood (feature_rows_of_members parent n members) (feature_rows_of_groups parent (n + size_of_members members) others)
      (members_rows_good parent n members good.1.0) (groups_rows_good parent (n + size_of_members members) others good.1.1)

  members_rows_good : (parent : FeatureNo) (n : ℕ) (members : Members) → MembersAreGood members → All RowIsGood (feature_rows_of_members parent n members)
  members_rows_good parent n no_members good = All-nil RowIsGood
  members_rows_good parent n (member tree others) good =
      All-append RowIsGood (feature_rows (Some parent) n tree) (feature_rows_of_members parent (n + size_of tree) others)
      (rows_good (Some parent) n tree good.0) (members_rows_good parent (n + size_of tree) others good.1)

-- as many members under a qualifier
same_count : (qualifier : List ℕ) (members : Members) → member_count (prefixed_members qualifier members) ≡ member_count members
same_count qualifier no_members = refl
same_count qualifier (member tree others) = ap (λ (n : ℕ). 1 + n) (same_count qualifier others)

mutual
  pub good_under : (qualifier : List ℕ) (tree : Tree) → IsGood tree → IsGood (prefixed qualifier tree)
  good_under qualifier (feature head below) good = (good.0, groups_under qualifier below good.1)

  groups_under : (qualifier : List ℕ) (below : Groups) → AreGood below → AreGood (prefixed_groups qualifier below)
  groups_under qualifier no_groups good = tt
  groups_under qualifier (group lo hi members others) good =
      (subst (HasBounds lo hi) (sym (same_count qualifier members)) good.0, (members_under qualifier members good.1.0, groups_under qualifier others good.1.1))

  members_under : (qualifier : List ℕ) (members : Members) → MembersAreGood members → MembersAreGood (prefixed_members qualifier members)
  members_under qualifier no_members good = tt
  members_under qualifier (member tree others) good = (good_under qualifier tree good.0, members_under qualifier others good.1)

-- ---- what is known of the lines of a file

-- nothing is wrong with the keys or the range of a line
abbrev pub IsClean : Line → Type 0
IsClean (of_feature line) = repeated_key line.attributes ≡ None
IsClean (of_group line) = is_bad_range line.kind ≡ false

-- bounds of a kind without such a range
range_bounds : (least most k : ℕ) → 1 ≤ k → least ≤ most → HasBounds (min least (k + 1)) (min most k) k
range_bounds least most k some order =
    elim (cases_order least (k + 1)) [
      | inl same ↦ (some, omega arith, inr (omega arith, omega arith))
      | inr other ↦ elim other [
        | inl less ↦ (some, omega arith, inl (omega arith))
        | inr more ↦ (some, omega arith, inr (omega arith, omega arith))
      ]
    ]

pub kind_bounds : (kind : GroupKind) (k : ℕ) → 1 ≤ k → is_bad_range kind ≡ false → HasBounds (least_of kind k) (most_of kind k) k
kind_bounds Mandatory k some clean = range_bounds k k k some (omega arith)
kind_bounds Optional k some clean = range_bounds 0 k k some (omega arith)
kind_bounds Alternative k some clean = range_bounds 1 1 k some (omega arith)
kind_bounds Or k some clean = range_bounds 1 k k some some
kind_bounds (Range lo None) k some clean = open_bounds lo k some
  where
    open_bounds : (lo k : ℕ) → 1 ≤ k → HasBounds (min lo (k + 1)) (min k k) k
    open_bounds lo k some =
        elim (cases_order lo (k + 1)) [
          | inl same ↦ (some, omega arith, inr (omega arith, omega arith))
          | inr other ↦ elim other [
            | inl less ↦ (some, omega arith, inl (omega arith))
            | inr more ↦ (some, omega arith, inr (omega arith, omega arith))
          ]
        ]
kind_bounds (Range lo (Some hi)) k some clean = range_bounds lo hi k some (ltb-false hi lo clean)

module _ (IsTidy : Attribute → Type 0) (tidied : (attributes : List Attribute) → repeated_key attributes ≡ None → AllByRecursion IsTidy attributes → AreAttributes attributes) where
  -- of a line and of all below it
  abbrev pub FineLine : ℕ → Feature → Type 0
  FineLine depth line =
      AllByRecursion IsClean (lines_from line depth) × (AllByRecursion IsTidy (all_attributes line) × AllByRecursion (λ count. 1 ≤ count) (member_counts line))

  abbrev FineGroup : ℕ → Group → Type 0
  FineGroup depth written =
      AllByRecursion IsClean (lines_below written depth)
      × (AllByRecursion IsTidy (all_attributes_of_group written) × AllByRecursion (λ count. 1 ≤ count) (member_counts_of_group written))

  -- three facts of each item
  three_all : {A : Type 0} (P Q R : A → Type 0) (xs : List A) → AllByRecursion P xs → AllByRecursion Q xs → AllByRecursion R xs
      → AllByRecursion (λ x. P x × (Q x × R x)) xs
  three_all P Q R [] p q r = tt
  three_all P Q R (x ∷ xs) p q r = ((p.0, (q.0, r.0)), three_all P Q R xs p.1 q.1 r.1)

  -- lines of items at a depth
  lines_all : {A : Type 0} (f : A → ℕ → List Line) (depth : ℕ) (items : List A) → AllByRecursion IsClean (flat_map (λ lines. lines depth) (map f items))
      → AllByRecursion (λ item. AllByRecursion IsClean (f item depth)) items
  lines_all f depth [] h = tt
  lines_all f depth (item ∷ items) h = (front_all IsClean (f item depth) _ h, lines_all f depth items (rest_all IsClean (f item depth) _ h))

  -- a feature by its parts
  record LineParts (depth : ℕ) (x : Feature-F Feature Group) : Type 0 where
    keys : repeated_key x.attributes ≡ None
    tidy : AllByRecursion IsTidy x.attributes
    groups : AllByRecursion (FineGroup depth) x.groups

  line_parts : (depth : ℕ) (x : Feature-F Feature Group) → FineLine depth (roll-Feature x) → LineParts depth x
  line_parts depth x fine =
      let lines = subst (AllByRecursion IsClean) (ap (λ (lines : ℕ → List Line). lines depth) (fold-roll-Feature (ℕ → List Line) (ℕ → List Line) lines_of_feature lines_of_group x)) fine.0 in
      let attributes = subst (AllByRecursion IsTidy) (fold-roll-Feature (List Attribute) (List Attribute) feature_attributes group_attributes x) fine.1.0 in
      let counts = subst (AllByRecursion (λ (count : ℕ). 1 ≤ count)) (fold-roll-Feature (List ℕ) (List ℕ) feature_counts group_counts x) fine.1.1 in
      record {
        keys = lines.0;
        tidy = front_all IsTidy x.attributes _ attributes;
        groups = three_all (λ (written : Group). AllByRecursion IsClean (lines_below written depth)) (λ (written : Group). AllByRecursion IsTidy (all_attributes_of_group written))
            (λ (written : Group). AllByRecursion (λ (count : ℕ). 1 ≤ count) (member_counts_of_group written)) x.groups
            (lines_all lines_below depth x.groups lines.1)
            (parts_all IsTidy all_attributes_of_group x.groups (rest_all IsTidy x.attributes _ attributes))
            (parts_all (λ (count : ℕ). 1 ≤ count) member_counts_of_group x.groups counts);
      }

  -- and a group
  record GroupParts (depth : ℕ) (x : Group-F Feature Group) : Type 0 where
    range : is_bad_range x.kind ≡ false
    some : 1 ≤ length x.members
    members : AllByRecursion (FineLine (depth + 1)) x.members

  group_parts : (depth : ℕ) (x : Group-F Feature Group) → FineGroup depth (roll-Group x) → GroupParts depth x
  group_parts depth x fine =
      let lines = subst (AllByRecursion IsClean) (ap (λ (lines : ℕ → List Line). lines depth) (fold-roll-Group (ℕ → List Line) (ℕ → List Line) lines_of_feature lines_of_group x)) fine.0 in
      let attributes = subst (AllByRecursion IsTidy) (fold-roll-Group (List Attribute) (List Attribute) feature_attributes group_attributes x) fine.1.0 in
      let counts = subst (AllByRecursion (λ (count : ℕ). 1 ≤ count)) (fold-roll-Group (List ℕ) (List ℕ) feature_counts group_counts x) fine.1.1 in
      record {
        range = lines.0;
        some = omega (arith, counts.0, length-map x.members member_counts);
        members = three_all (λ (line : Feature). AllByRecursion IsClean (lines_from line (depth + 1))) (λ (line : Feature). AllByRecursion IsTidy (all_attributes line))
            (λ (line : Feature). AllByRecursion (λ (count : ℕ). 1 ≤ count) (member_counts line)) x.members
            (lines_all lines_from (depth + 1) x.members lines.1)
            (parts_all IsTidy all_attributes x.members attributes)
            (parts_all (λ (count : ℕ). 1 ≤ count) member_counts x.members counts.1);
      }

  -- ---- the trees of lines

  module _ (imports : Imports) (trees : (at : ℕ) (tree : Tree) → slice_get imports.trees at ≡ Some (Some tree) → IsGood tree) where
    abbrev GoodLine : Feature → Type 0
    GoodLine line = (depth : ℕ) (tree : Tree) → FineLine depth line → tree_of_line imports line ≡ Some tree → IsGood tree

    abbrev GoodBranch : Branch → Type 0
    GoodBranch branch = HasBounds branch.lo branch.hi (member_count branch.members) × MembersAreGood branch.members

    abbrev GoodGroup : Group → Type 0
    GoodGroup written = (depth : ℕ) (branch : Branch) → FineGroup depth written → branch_of_written imports written ≡ Some branch → GoodBranch branch

    groups_good : (depth : ℕ) (groups : List Group) → AllByRecursion GoodGroup groups → AllByRecursion (FineGroup depth) groups → (below : Groups)
        → groups_of (map (branch_of_written imports) groups) ≡ Some below → AreGood below
    groups_good depth [] h fine below is = let same : no_groups ≡ below = cc in subst AreGood same tt
    groups_good depth (written ∷ groups) h fine below is =
        let both = both_there (λ (first : Branch) (others : Groups). group first.lo first.hi first.members others) (branch_of_written imports written)
        (groups_of (map (branch_of_written imports) groups)) below is in
        let here = h.0 depth both.0 fine.0 both.2 in
        subst AreGood (sym both.4) (here.0, (here.1, groups_good depth groups h.1 fine.1 both.1 both.3))

    -- members, of which there are as many as lines
    members_good : (depth : ℕ) (lines : List Feature) → AllByRecursion GoodLine lines → AllByRecursion (FineLine depth) lines → (members : Members)
        → members_of (map (tree_of_line imports) lines) ≡ Some members → MembersAreGood members × (member_count members ≡ length lines)
    members_good depth [] h fine members is = let same : no_members ≡ members = cc in subst (λ (ms : Members). MembersAreGood ms × (member_count ms ≡ 0)) same (tt, refl)
    members_good depth (line ∷ lines) h fine members is =
        let both = both_there (λ (first : Tree) (others : Members). member first others) (tree_of_line imports line) (members_of (map (tree_of_line imports) lines)) members is in
        let rest = members_good depth lines h.1 fine.1 both.1 both.3 in
        let count : member_count (member both.0 both.1) ≡ length (line ∷ lines) = omega (arith, rest.1) in
        subst (λ (ms : Members). MembersAreGood ms × (member_count ms ≡ length (line ∷ lines))) (sym both.4) ((h.0 depth both.0 fine.0 both.2, rest.0), count)

    placed_good : (names : List (List ℕ)) (tree : Tree) → tree_placed imports names ≡ Some tree → IsGood tree
    placed_good names tree is =
        let q = dotted (front_of names) in
        let whole = made_there (prefixed q) (option_and_then (with_root (last_of names)) (tree_called imports q)) tree is in
        let rooted = then_there (with_root (last_of names)) (tree_called imports q) whole.0 whole.1 in
        let called = then_there (λ (position : ℕ). known (slice_get imports.trees position)) (target_called q imports.lines imports.targets) rooted.0 rooted.1 in
        let root = root_there imports (last_of names) rooted.0 whole.0 rooted.2 in
        let good = trees called.0 rooted.0 (known_there (slice_get imports.trees called.0) rooted.0 called.2) in
        subst IsGood (sym whole.2) (good_under q whole.0 (subst IsGood root.0 good))

    names_good : (depth : ℕ) (x : Feature-F Feature Group) (names : List (List ℕ)) → AllByRecursion GoodGroup x.groups → LineParts depth x → (tree : Tree)
        → tree_of_names imports names x.attributes (groups_of (map (branch_of_written imports) x.groups)) ≡ Some tree → IsGood tree
    names_good depth x [] h parts tree is = absurd cc
    names_good depth x (name ∷ []) h parts tree is =
        let made = made_there (λ (below : Groups). feature (record { name = name; attributes = x.attributes }) below) (groups_of (map (branch_of_written imports) x.groups)) tree is in
        subst IsGood (sym made.2) (tidied x.attributes parts.keys parts.tidy, groups_good depth x.groups h parts.groups made.0 made.1)
    names_good depth x (name ∷ next ∷ names) h parts tree is = placed_good (name ∷ next ∷ names) tree is

    line_good : (x : Feature-F Feature Group) → AllByRecursion GoodGroup x.groups → GoodLine (roll-Feature x)
    line_good x h depth tree fine is =
        names_good depth x x.name.parts h (line_parts depth x fine) tree
        (sym (fold-roll-Feature (Option Tree) (Option Branch) (tree_of_feature imports) branch_of_group x) ∙ is)

    group_good : (x : Group-F Feature Group) → AllByRecursion GoodLine x.members → GoodGroup (roll-Group x)
    group_good x h depth branch fine is =
        let count = length (map (tree_of_line imports) x.members) in
        let made = made_there (branch_of x.kind count) (members_of (map (tree_of_line imports) x.members)) branch
        (sym (fold-roll-Group (Option Tree) (Option Branch) (tree_of_feature imports) branch_of_group x) ∙ is) in
        let parts = group_parts depth x fine in
        let good = members_good (depth + 1) x.members h parts.members made.0 made.1 in
        let same : count ≡ member_count made.0 = length-map x.members (tree_of_line imports) ∙ sym good.1 in
        let bounds = kind_bounds x.kind count (omega (arith, parts.some, length-map x.members (tree_of_line imports))) parts.range in
        subst GoodBranch (sym made.2) (subst (HasBounds (least_of x.kind count) (most_of x.kind count)) same bounds, good.0)

    -- the tree that a line says
    pub tree_good : (line : Feature) → GoodLine line
    tree_good = by_parts GoodLine GoodGroup line_good group_good
