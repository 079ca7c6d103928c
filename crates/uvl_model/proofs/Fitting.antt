-- The groups' rows hold under marks exactly where the tree fits the set that the marks agree with.
use Rattle.std.proofs.Common.{◌≡◌, ℕ, ◌+◌, ◌==◌, nat_le, Bool, true, false, not, ◌&&◌, List, refl, sym, ap, ◌∙◌, zero-add, arith, if◌then◌else◌}
use Rattle.std.specs.List.{list_all}
use Rattle.std.proofs.lemmas.List.Folds.{list_all-append}
use Rattle.std.proofs.lemmas.List.Sums.{sum_by-cons}
use Rattle.std.proofs.lemmas.Bool.Decides.{nat_tests}
use Rattle.uvl_model.specs.declared.rows.FeatureNo.{FeatureNo}
use Rattle.uvl_model.specs.Check.{is_marked, marked_count, group_holds}
use Rattle.uvl_semantics.specs.Product.{has, chosen_count, is_absent, fits, groups_fit, members_fit}
use Rattle.uvl_model.specs.Spelling.{numbered, size_of, size_of_members, member_numbers, group_rows, group_rows_of_groups, group_rows_of_members}
use Rattle.uvl_semantics.specs.Tree.{Tree, Groups, Members, feature, no_groups, group, no_members, member, top_name, names_of, names_of_groups, names_of_members}
use Rattle.uvl_model.proofs.Marks.{AgreeFrom, agree_parts}

-- grouping by `&&` is the same from either side
and_assoc : (x y z : Bool) → ((x && y) && z) ≡ (x && (y && z))
and_assoc true y z = refl
and_assoc false y z = refl

-- a top that is chosen needs its groups, and one that isn't has to be absent with all below it
by_top : (top groups absent : Bool) → (if top then groups else absent) ≡ (if top then groups else (not top && absent))
by_top true groups absent = refl
by_top false groups absent = refl

-- a group and what is below it and behind it, by whether its parent is chosen
group_case : (b below behind fit absent groups gone in_bounds none : Bool) →
    below ≡ fit → (none && below) ≡ absent → behind ≡ (if b then groups else gone) →
    ((if b then in_bounds else none) && (below && behind)) ≡ (if b then in_bounds && fit && groups else absent && gone)
group_case true below behind fit absent groups gone in_bounds none f a g = rw (f, g) (sym (and_assoc in_bounds fit groups))
group_case false below behind fit absent groups gone in_bounds none f a g = rw (g) (sym (and_assoc none below gone) ∙ ap (λ x. x && gone) a)

-- a member and the others, of a parent that isn't chosen
none_case : (s : Bool) (k : ℕ) (rows fit absent others gone : Bool) →
    rows ≡ (if s then fit else absent) → (s ≡ true → absent ≡ false) → ((k == 0) && others) ≡ gone →
    (((if s then 1 else 0) + k == 0) && (rows && others)) ≡ (absent && gone)
none_case true k rows fit absent others gone t a g =
    let nonzero : (1 + k == 0) ≡ false = grind (arith, nat_tests) in
    rw (nonzero, a refl) refl
none_case false k rows fit absent others gone t a g =
    let same : (0 + k == 0) ≡ (k == 0) = ap (λ (m : ℕ). m == 0) (zero-add k) in
    rw (same, t) (swapped (k == 0) absent others ∙ ap (λ x. absent && x) g)
  where
    swapped : (x y z : Bool) → (x && (y && z)) ≡ (y && (x && z))
    swapped true y z = refl
    swapped false true z = refl
    swapped false false z = refl

module _ (marks : List Bool) (set : List (List ℕ)) where
  -- a tree is not absent where its top is in the set
  absent_top : (tree : Tree) → has set (top_name tree) ≡ true → is_absent tree set ≡ false
  absent_top (feature head below) h = rw h refl

  -- as many members are marked as are in the set
  chosen_is : (members : Members) (n : ℕ) → AgreeFrom marks set n (names_of_members members) → marked_count marks (member_numbers n members) ≡ chosen_count members set
  chosen_is no_members n h = refl
  chosen_is (member (feature head below) others) n h =
      let parts = agree_parts marks set (names_of (feature head below)) (names_of_members others) n h in
      sum_by-cons (λ f. if is_marked marks f then 1 else 0) (numbered n) (member_numbers (n + size_of (feature head below)) others)
      ∙ rw (sym parts.0.0) (ap (λ (m : ℕ). (if has set head.name then 1 else 0) + m) (chosen_is others (n + size_of (feature head below)) parts.1))

  mutual
    -- the rows of a tree: it fits where its top is chosen, and all of it is absent elsewhere
    pub tree_holds : (tree : Tree) (n : ℕ) → AgreeFrom marks set n (names_of tree)
        → list_all (group_holds marks) (group_rows n tree) ≡ (if has set (top_name tree) then fits tree set else is_absent tree set)
    tree_holds (feature head below) n h =
        groups_hold below (numbered n) (n + 1) (has set head.name) (sym h.0) h.1
        ∙ by_top (has set head.name) (groups_fit below set) (list_all (λ x. not (has set x)) (names_of_groups below))

    -- the rows of a feature's groups, by whether the feature is chosen
    groups_hold : (groups : Groups) (parent : FeatureNo) (n : ℕ) (b : Bool) → is_marked marks parent ≡ b → AgreeFrom marks set n (names_of_groups groups)
        → list_all (group_holds marks) (group_rows_of_groups parent n groups) ≡ (if b then groups_fit groups set else list_all (λ x. not (has set x)) (names_of_groups groups))
    groups_hold no_groups parent n b e h = elim b as (λ v. true ≡ (if v then true else true)) [ true ↦ refl | false ↦ refl ]
    groups_hold (group lo hi members others) parent n b e h =
        let parts = agree_parts marks set (names_of_members members) (names_of_groups others) n h in
        let behind = n + size_of_members members in
        rw (
          list_all-append (group_holds marks) (group_rows_of_members n members) (group_rows_of_groups parent behind others),
          list_all-append (λ x. not (has set x)) (names_of_members members) (names_of_groups others),
          e,
          chosen_is members n parts.0,
        )
        (group_case b _ _ (members_fit members set) (list_all (λ x. not (has set x)) (names_of_members members))
        (groups_fit others set) (list_all (λ x. not (has set x)) (names_of_groups others))
        (nat_le lo (chosen_count members set) && nat_le (chosen_count members set) hi) (chosen_count members set == 0)
        (members_hold members n parts.0) (none_held members n parts.0) (groups_hold others parent behind b e parts.1))

    -- the rows of the trees of members, each by whether it is chosen
    members_hold : (members : Members) (n : ℕ) → AgreeFrom marks set n (names_of_members members)
        → list_all (group_holds marks) (group_rows_of_members n members) ≡ members_fit members set
    members_hold no_members n h = refl
    members_hold (member tree others) n h =
        let parts = agree_parts marks set (names_of tree) (names_of_members others) n h in
        rw (list_all-append (group_holds marks) (group_rows n tree) (group_rows_of_members (n + size_of tree) others), tree_holds tree n parts.0, members_hold others (n + size_of tree) parts.1) refl

    -- and where no member is chosen and the rows hold, all is absent
    none_held : (members : Members) (n : ℕ) → AgreeFrom marks set n (names_of_members members)
        → ((chosen_count members set == 0) && list_all (group_holds marks) (group_rows_of_members n members)) ≡ list_all (λ x. not (has set x)) (names_of_members members)
    none_held no_members n h = refl
    none_held (member tree others) n h =
        let parts = agree_parts marks set (names_of tree) (names_of_members others) n h in
        rw (
          list_all-append (group_holds marks) (group_rows n tree) (group_rows_of_members (n + size_of tree) others),
          list_all-append (λ x. not (has set x)) (names_of tree) (names_of_members others),
        )
        (none_case (has set (top_name tree)) (chosen_count others set) _ (fits tree set) _ _ _ (tree_holds tree n parts.0) (absent_top tree) (none_held others (n + size_of tree) parts.1))
