-- The features and the sums of rows are those of the tree that the rows spell.
use Rattle.std.proofs.Common.{◌≡◌, ℕ, zero, suc, ◌+◌, ◌<◌, Bool, true, false, ◌||◌, List, [], ◌∷◌, ◌++◌, length, map, Option, None, Some, refl, sym, ap, ◌∙◌, subst, append_assoc, append-nil, length-append, if◌then◌else◌, arith}
use Rattle.std.specs.Str.{bytes_eq}
use Rattle.std.proofs.Math.Path.{fun_ext}
use Rattle.std.proofs.lemmas.List.{map-append}
use Rattle.uvl_model.specs.declared.rows.FeatureNo.{FeatureNo}
use Rattle.uvl_model.specs.declared.rows.FeatureRow.{FeatureRow}
use Rattle.uvl_model.specs.Check.{is_marked}
use Rattle.uvl_model.specs.Heads.{head_of_row, has_marked_parent, marks_below, heads_below_rows, heads_of_rows}
use Rattle.uvl_model.specs.Rows.{Rows}
use Rattle.uvl_model.specs.Spelling.{Spells, numbered, size_of, size_of_members, feature_rows, feature_rows_of_groups, feature_rows_of_members}
use Rattle.uvl_semantics.specs.Family.{marked}
use Rattle.uvl_semantics.specs.Tree.{Tree, Groups, Members, feature, no_groups, group, no_members, member}
use Rattle.uvl_semantics.specs.Tree.{heads_of, heads_of_groups, heads_of_members, names_of, names_of_groups, names_of_members}
use Rattle.uvl_semantics.specs.Values.{heads_in, heads_below, heads_below_groups, heads_below_members}

mutual
  -- the rows of a tree have its heads
  pub heads_spelled : (tree : Tree) (parent : Option FeatureNo) (n : ℕ) → map head_of_row (feature_rows parent n tree) ≡ heads_of tree
  heads_spelled (feature head below) parent n = ap (λ heads. head ∷ heads) (groups_spelled below (numbered n) (n + 1))

  pub groups_spelled : (groups : Groups) (parent : FeatureNo) (n : ℕ) → map head_of_row (feature_rows_of_groups parent n groups) ≡ heads_of_groups groups
  groups_spelled no_groups parent n = refl
  groups_spelled (group lo hi members others) parent n =
      map-append head_of_row (feature_rows_of_members parent n members) (feature_rows_of_groups parent (n + size_of_members members) others)
      ∙ rw (members_spelled members parent n, groups_spelled others parent (n + size_of_members members)) refl

  pub members_spelled : (members : Members) (parent : FeatureNo) (n : ℕ) → map head_of_row (feature_rows_of_members parent n members) ≡ heads_of_members members
  members_spelled no_members parent n = refl
  members_spelled (member tree others) parent n =
      map-append head_of_row (feature_rows (Some parent) n tree) (feature_rows_of_members parent (n + size_of tree) others)
      ∙ rw (heads_spelled tree (Some parent) n, members_spelled others parent (n + size_of tree)) refl

mutual
  -- as many heads as names
  pub heads_counted : (tree : Tree) → length (heads_of tree) ≡ size_of tree
  heads_counted (feature head below) = ap suc (groups_counted below)

  pub groups_counted : (groups : Groups) → length (heads_of_groups groups) ≡ length (names_of_groups groups)
  groups_counted no_groups = refl
  groups_counted (group lo hi members others) =
      length-append (heads_of_members members) (heads_of_groups others)
      ∙ rw (members_counted members, groups_counted others) (sym (length-append (names_of_members members) (names_of_groups others)))

  pub members_counted : (members : Members) → length (heads_of_members members) ≡ size_of_members members
  members_counted no_members = refl
  members_counted (member tree others) =
      length-append (heads_of tree) (heads_of_members others)
      ∙ rw (heads_counted tree, members_counted others) (sym (length-append (names_of tree) (names_of_members others)))

-- a mark stays where more marks come behind it
mark_stays : (marks more : List Bool) (n : ℕ) → n < length marks → is_marked (marks ++ more) (numbered n) ≡ is_marked marks (numbered n)
mark_stays [] more n inside = absurd (omega arith)
mark_stays (mark ∷ marks) more zero inside = refl
mark_stays (mark ∷ marks) more (suc n) inside = mark_stays marks more n (omega arith)

-- a mark behind others
mark_last : (marks : List Bool) (mark : Bool) → is_marked (marks ++ mark ∷ []) (numbered (length marks)) ≡ mark
mark_last [] mark = refl
mark_last (first ∷ marks) mark = mark_last marks mark

-- items and marks of two lists, one behind the other
marked-append : {A : Type 0} (xs ys : List A) (ms ns : List Bool) → length xs ≡ length ms → marked (xs ++ ys) (ms ++ ns) ≡ marked xs ms ++ marked ys ns
marked-append [] ys [] ns e = refl
marked-append [] ys (m ∷ ms) ns e = absurd (omega (arith, e))
marked-append (x ∷ xs) ys [] ns e = absurd (omega (arith, e))
marked-append (x ∷ xs) ys (true ∷ ms) ns e = ap (λ zs. x ∷ zs) (marked-append xs ys ms ns (omega (arith, e)))
marked-append (x ∷ xs) ys (false ∷ ms) ns e = marked-append xs ys ms ns (omega (arith, e))

module _ (top : List ℕ) where
  -- rows behind rows
  below-append : (marks : List Bool) (xs ys : List FeatureRow) → marks_below top marks (xs ++ ys) ≡ marks_below top (marks_below top marks xs) ys
  below-append marks [] ys = refl
  below-append marks (row ∷ xs) ys = below-append (marks ++ (bytes_eq row.name top || has_marked_parent marks row.parent) ∷ []) xs ys

  abbrev mutual
    -- the marks of a tree, by whether what it hangs on is below the top
    tree_marks : Bool → Tree → List Bool
    tree_marks b (feature head below) = (bytes_eq head.name top || b) ∷ groups_marks (bytes_eq head.name top || b) below

    groups_marks : Bool → Groups → List Bool
    groups_marks b no_groups = []
    groups_marks b (group lo hi members others) = members_marks b members ++ groups_marks b others

    members_marks : Bool → Members → List Bool
    members_marks b no_members = []
    members_marks b (member tree others) = tree_marks b tree ++ members_marks b others

  mutual
    marks_counted : (b : Bool) (tree : Tree) → length (tree_marks b tree) ≡ size_of tree
    marks_counted b (feature head below) = ap suc (group_marks_counted (bytes_eq head.name top || b) below)

    group_marks_counted : (b : Bool) (groups : Groups) → length (groups_marks b groups) ≡ length (names_of_groups groups)
    group_marks_counted b no_groups = refl
    group_marks_counted b (group lo hi members others) =
        length-append (members_marks b members) (groups_marks b others)
        ∙ rw (member_marks_counted b members, group_marks_counted b others) (sym (length-append (names_of_members members) (names_of_groups others)))

    member_marks_counted : (b : Bool) (members : Members) → length (members_marks b members) ≡ size_of_members members
    member_marks_counted b no_members = refl
    member_marks_counted b (member tree others) =
        length-append (tree_marks b tree) (members_marks b others)
        ∙ rw (marks_counted b tree, member_marks_counted b others) (sym (length-append (names_of tree) (names_of_members others)))

  -- the number behind a tree or members is that of the marks so far
  counted_on : (marks more : List Bool) (n k : ℕ) → length marks ≡ n → length more ≡ k → length (marks ++ more) ≡ n + k
  counted_on marks more n k e f = omega (arith, length-append marks more, e, f)

  mutual
    -- the rows of a tree give its marks behind those in front
    tree_marked : (tree : Tree) (parent : Option FeatureNo) (n : ℕ) (marks : List Bool) (b : Bool) → length marks ≡ n → has_marked_parent marks parent ≡ b
        → marks_below top marks (feature_rows parent n tree) ≡ marks ++ tree_marks b tree
    tree_marked (feature head below) parent n marks b e h =
        let mark = bytes_eq head.name top || b in
        let last : is_marked (marks ++ mark ∷ []) (numbered n) ≡ mark =
        subst (λ (m : ℕ). is_marked (marks ++ mark ∷ []) (numbered m) ≡ mark) e (mark_last marks mark) in
        let count = counted_on marks (mark ∷ []) n 1 e refl in
        subst (λ (c : Bool). marks_below top (marks ++ (bytes_eq head.name top || c) ∷ []) (feature_rows_of_groups (numbered n) (n + 1) below)
        ≡ marks ++ tree_marks b (feature head below)) (sym h)
        (groups_marked below (numbered n) (n + 1) (marks ++ mark ∷ []) mark count (omega arith) last ∙ append_assoc marks (mark ∷ []) (groups_marks mark below))

    groups_marked : (groups : Groups) (parent : FeatureNo) (n : ℕ) (marks : List Bool) (b : Bool) → length marks ≡ n → parent.0 < n → is_marked marks parent ≡ b
        → marks_below top marks (feature_rows_of_groups parent n groups) ≡ marks ++ groups_marks b groups
    groups_marked no_groups parent n marks b e inside h = sym (append-nil marks)
    groups_marked (group lo hi members others) parent n marks b e inside h =
        let more = members_marks b members in
        let within : parent.0 < length marks = omega (arith, e) in
        below-append marks (feature_rows_of_members parent n members) (feature_rows_of_groups parent (n + size_of_members members) others)
        ∙ rw (members_marked members parent n marks b e inside h)
        (groups_marked others parent (n + size_of_members members) (marks ++ more) b (counted_on marks more n _ e (member_marks_counted b members)) (omega arith) (mark_stays marks more parent.0 within ∙ h)
        ∙ append_assoc marks more (groups_marks b others))

    members_marked : (members : Members) (parent : FeatureNo) (n : ℕ) (marks : List Bool) (b : Bool) → length marks ≡ n → parent.0 < n → is_marked marks parent ≡ b
        → marks_below top marks (feature_rows_of_members parent n members) ≡ marks ++ members_marks b members
    members_marked no_members parent n marks b e inside h = sym (append-nil marks)
    members_marked (member tree others) parent n marks b e inside h =
        let more = tree_marks b tree in
        let within : parent.0 < length marks = omega (arith, e) in
        below-append marks (feature_rows (Some parent) n tree) (feature_rows_of_members parent (n + size_of tree) others)
        ∙ rw (tree_marked tree (Some parent) n marks b e h)
        (members_marked others parent (n + size_of tree) (marks ++ more) b (counted_on marks more n _ e (marks_counted b tree)) (omega arith) (mark_stays marks more parent.0 within ∙ h)
        ∙ append_assoc marks more (members_marks b others))

  mutual
    -- all of a tree is marked below something that is
    all_marked : (tree : Tree) → marked (heads_of tree) (tree_marks true tree) ≡ heads_of tree
    all_marked (feature head below) = elim (bytes_eq head.name top) as (λ b. marked (head ∷ heads_of_groups below) ((b || true) ∷ groups_marks (b || true) below) ≡ head ∷ heads_of_groups below) [
      | true ↦ ap (λ heads. head ∷ heads) (all_groups_marked below)
      | false ↦ ap (λ heads. head ∷ heads) (all_groups_marked below)
    ]

    all_groups_marked : (groups : Groups) → marked (heads_of_groups groups) (groups_marks true groups) ≡ heads_of_groups groups
    all_groups_marked no_groups = refl
    all_groups_marked (group lo hi members others) =
        marked-append (heads_of_members members) (heads_of_groups others) (members_marks true members) (groups_marks true others) (members_counted members ∙ sym (member_marks_counted true members))
        ∙ rw (all_members_marked members, all_groups_marked others) refl

    all_members_marked : (members : Members) → marked (heads_of_members members) (members_marks true members) ≡ heads_of_members members
    all_members_marked no_members = refl
    all_members_marked (member tree others) =
        marked-append (heads_of tree) (heads_of_members others) (tree_marks true tree) (members_marks true others) (heads_counted tree ∙ sym (marks_counted true tree))
        ∙ rw (all_marked tree, all_members_marked others) refl

  mutual
    -- else the marked ones are those from the top downwards
    top_marked : (tree : Tree) → marked (heads_of tree) (tree_marks false tree) ≡ heads_below top tree
    top_marked (feature head below) =
        elim (bytes_eq head.name top) as (λ b. marked (head ∷ heads_of_groups below) ((b || false) ∷ groups_marks (b || false) below) ≡ (if b then head ∷ heads_of_groups below else heads_below_groups top below)) [
          | true ↦ ap (λ heads. head ∷ heads) (all_groups_marked below)
          | false ↦ top_groups_marked below
        ]

    top_groups_marked : (groups : Groups) → marked (heads_of_groups groups) (groups_marks false groups) ≡ heads_below_groups top groups
    top_groups_marked no_groups = refl
    top_groups_marked (group lo hi members others) =
        marked-append (heads_of_members members) (heads_of_groups others) (members_marks false members) (groups_marks false others) (members_counted members ∙ sym (member_marks_counted false members))
        ∙ rw (top_members_marked members, top_groups_marked others) refl

    top_members_marked : (members : Members) → marked (heads_of_members members) (members_marks false members) ≡ heads_below_members top members
    top_members_marked no_members = refl
    top_members_marked (member tree others) =
        marked-append (heads_of tree) (heads_of_members others) (tree_marks false tree) (members_marks false others) (heads_counted tree ∙ sym (marks_counted false tree))
        ∙ rw (top_marked tree, top_members_marked others) refl

-- what is below a name in rows
pub below_spelled : (tree : Tree) (rows : Rows) → Spells tree rows → (top : List ℕ) → heads_below_rows rows top ≡ heads_below top tree
below_spelled tree rows spelled top =
    rw (spelled.features, heads_spelled tree None 0, tree_marked top tree None 0 [] false refl refl) (top_marked top tree)

-- what numbers are read from
pub heads_of_spelled : (tree : Tree) (rows : Rows) → Spells tree rows → heads_of_rows rows ≡ heads_in tree
heads_of_spelled tree rows spelled =
    let all = ap (map head_of_row) spelled.features ∙ heads_spelled tree None 0 in
    let below = fun_ext (below_spelled tree rows spelled) in
    λ i. record { all = all i; below = below i }
