-- The products of rows are those of each tree that the rows spell: a set is one where the root and the groups' rows hold under
-- its marks, and the rules hold in it.
use Rattle.std.proofs.Common.{◌≡◌, ℕ, ◌+◌, Bool, true, false, ◌&&◌, List, [], ◌∷◌, map, inl, inr, refl, sym, ap, ◌∙◌, subst, if◌then◌else◌}
use Rattle.std.specs.List.{list_all}
use Rattle.std.proofs.Math.Path.{fun_ext}
use Rattle.std.specs.Str.{bytes_eq}
use Rattle.std.proofs.lemmas.Bool.{and_parts, false≢true, or_cases}
use Rattle.std.proofs.lemmas.Bool.Decides.{same_from_decides}
use Rattle.std.proofs.lemmas.Slice.Eq.{bytes_eq-Decides}
use Rattle.uvl_model.specs.Amounts.{rows_are_met}
use Rattle.uvl_model.specs.Check.{is_marked, groups_hold, rows_hold}
use Rattle.uvl_model.specs.Comparisons.{HaveNoComparison}
use Rattle.uvl_model.specs.Constraints.{constraints_of}
use Rattle.uvl_model.specs.Heads.{heads_of_rows}
use Rattle.uvl_model.specs.Marks.{StandFor}
use Rattle.uvl_model.specs.Names.{feature_names, chosen_names}
use Rattle.uvl_model.specs.Products.{Products, is_product_of, rules_hold}
use Rattle.uvl_model.specs.Rows.{Rows}
use Rattle.uvl_model.specs.Sound.{IsSound, AreDistinct}
use Rattle.uvl_model.specs.Spelling.{Spells, numbered}
use Rattle.uvl_semantics.specs.Family.{IsTestOfSets, IsOfSets, ProductsOf, is_product}
use Rattle.uvl_semantics.specs.Holding.{holds_by}
use Rattle.uvl_semantics.specs.Values.{Heads}
use Rattle.uvl_semantics.specs.Product.{has, fits, is_absent, is_product_of_tree}
use Rattle.uvl_semantics.specs.Tree.{Tree, feature, top_name, names_of}
use Rattle.uvl_semantics.proofs.Membership.{marked_within, all_have-same, member_of_all}
use Rattle.uvl_semantics.proofs.Sets.{all_hold-same}
use Rattle.uvl_model.proofs.Amounts.{rules_met}
use Rattle.uvl_model.proofs.Below.{heads_of_spelled}
use Rattle.uvl_model.proofs.Fitting.{tree_holds}
use Rattle.uvl_model.proofs.Marks.{AgreeFrom, marks_agree, given_marks_agree, stand_agree}
pub use Rattle.uvl_model.proofs.NamesSpelled.{spelled_names}
use Rattle.uvl_model.proofs.Truths.{rules_told}

root_case : (within top marked_ : Bool) (fit absent held : Bool) → top ≡ marked_ → held ≡ (if top then fit else absent) → ((within && top) && fit) ≡ (within && (marked_ && held))
root_case true true m fit absent held e h = rw (sym e, h) refl
root_case true false m fit absent held e h = rw (sym e) refl
root_case false top m fit absent held e h = refl

top_agrees : (marks : List Bool) (set : List (List ℕ)) (tree : Tree) → AgreeFrom marks set 0 (names_of tree) → has set (top_name tree) ≡ is_marked marks (numbered 0)
top_agrees marks set (feature head below) h = h.0

-- a tree allows a set where the set has only features of the rows, has the root, and each group holds
pub tree_by_rows : (marks : List Bool) (set : List (List ℕ)) (tree : Tree) (rows : Rows) → Spells tree rows → AgreeFrom marks set 0 (feature_names rows)
    → is_product_of_tree tree set ≡ (list_all (has (feature_names rows)) set && groups_hold rows marks)
tree_by_rows marks set tree rows spelled agree =
    let names = spelled_names tree rows spelled in
    let here = subst (λ (ns : List (List ℕ)). AgreeFrom marks set 0 ns) names agree in
    rw (names, spelled.groups)
    (root_case (list_all (has (names_of tree)) set) (has set (top_name tree)) _ (fits tree set) (is_absent tree set) _ (top_agrees marks set tree here) (tree_holds marks set tree 0 here))

-- a product of rows, where the tree that they spell allows it and the rules hold
product_by_tree : (set : List (List ℕ)) (tree : Tree) (rows : Rows) → Spells tree rows → is_product_of rows set ≡ (is_product_of_tree tree set && rules_hold rows set)
unfolding is_product_of
product_by_tree set tree rows spelled =
    let agree = given_marks_agree set (feature_names rows) in
    ap (λ b. b && rules_hold rows set) (sym (tree_by_rows (map (has set) (feature_names rows)) set tree rows spelled agree))

-- marks that agree with a set tell whether it is a product
product_by_marks : (rows : Rows) (marks : List Bool) (set : List (List ℕ)) → IsSound rows → AgreeFrom marks set 0 (feature_names rows)
    → is_product_of rows set ≡ (list_all (has (feature_names rows)) set && rows_are_met rows marks)
product_by_marks rows marks set sound agree =
    product_by_tree set sound.tree rows sound.spelled
    ∙ ap (λ b. b && rules_hold rows set) (tree_by_rows marks set sound.tree rows sound.spelled agree)
    ∙ grouped _ _ _ _ (rules_met rows sound marks set agree)
  where
    grouped : (within groups rules told : Bool) → told ≡ rules → (within && groups && rules) ≡ (within && (groups && told))
    grouped true groups rules told e = rw e refl
    grouped false groups rules told e = refl

-- the chosen names are those whose marks say so
chosen_agree : (rows : Rows) (marks : List Bool) → IsSound rows → AgreeFrom marks (chosen_names rows marks) 0 (feature_names rows)
chosen_agree rows marks sound =
    marks_agree (feature_names rows) marks (subst AreDistinct (sym (spelled_names sound.tree rows sound.spelled)) sound.within.distinct)

-- the chosen features are a product exactly where the check of the rows says so
pub product_of_chosen : (rows : Rows) (marks : List Bool) → IsSound rows → is_product_of rows (chosen_names rows marks) ≡ rows_are_met rows marks
product_of_chosen rows marks sound =
    product_by_marks rows marks (chosen_names rows marks) sound (chosen_agree rows marks sound) ∙ rw (marked_within (feature_names rows) marks) refl

-- and so is each set that the marks stand for
pub product_of_set : (rows : Rows) (marks : List Bool) (set : List (List ℕ)) → IsSound rows → StandFor (feature_names rows) marks set
    → is_product_of rows set ≡ rows_are_met rows marks
product_of_set rows marks set sound stand =
    product_by_marks rows marks set sound (stand_agree (feature_names rows) marks set stand) ∙ rw (stand.named) refl

-- the check without numbers is the same where no rule compares
pub product_of_boolean : (rows : Rows) (marks : List Bool) → IsSound rows → HaveNoComparison rows → is_product_of rows (chosen_names rows marks) ≡ rows_hold rows marks
product_of_boolean rows marks sound boolean =
    let agree = chosen_agree rows marks sound in
    product_of_chosen rows marks sound
    ∙ ap (λ b. groups_hold rows marks && b)
    (rules_met rows sound marks (chosen_names rows marks) agree ∙ sym (rules_told rows marks (chosen_names rows marks) sound.rules boolean agree))

-- sets with the same members are products alike
same_products : (rows : Rows) → IsTestOfSets (is_product_of rows)
unfolding is_product_of
same_products rows first second same =
    let marks = ap (λ (test : List ℕ → Bool). map test (feature_names rows)) (fun_ext same) in
    rw (all_have-same (feature_names rows) first second same, marks, all_hold-same first second same (heads_of_rows rows) (constraints_of rows)) refl

-- the products of rows have only names of the features
named_products : (rows : Rows) (set : List (List ℕ)) → is_product_of rows set ≡ true → list_all (has (feature_names rows)) set ≡ true
unfolding is_product_of
named_products rows set product = (and_parts (list_all (has (feature_names rows)) set) _ (and_parts _ (rules_hold rows set) product).0).0

pub products-IsOfSets : (rows : Rows) → IsOfSets (Products rows)
products-IsOfSets rows = record { by_members = same_products rows; named = named_products rows }

-- the products of rows are those of the tree that they spell, with what the rules say
pub spelled_products : (tree : Tree) (rows : Rows) → Spells tree rows → Products rows ≡ ProductsOf tree (constraints_of rows)
spelled_products tree rows spelled =
    let names = spelled_names tree rows spelled in
    let told : (set : List (List ℕ)) → is_product_of rows set ≡ is_product tree (constraints_of rows) set =
    λ set. product_by_tree set tree rows spelled
    ∙ ap (λ (heads : Heads). is_product_of_tree tree set && list_all (λ constraint. holds_by heads constraint set) (constraints_of rows)) (heads_of_spelled tree rows spelled) in
    let sets = fun_ext told in
    λ i. record { names = names i; contains = sets i }

-- marks that agree with two sets say that these have the same of the names
same_by_marks : (marks : List Bool) (first second names : List (List ℕ)) (n : ℕ) → AgreeFrom marks first n names → AgreeFrom marks second n names
    → (x : List ℕ) → has names x ≡ true → has first x ≡ has second x
same_by_marks marks first second [] n h k x there = absurd (false≢true there)
same_by_marks marks first second (y ∷ ys) n h k x there =
    elim (or_cases (bytes_eq x y) (has ys x) there) [
      | inl same ↦ subst (λ (z : List ℕ). has first z ≡ has second z) (sym ((bytes_eq-Decides x y).0 same)) (h.0 ∙ sym k.0)
      | inr later ↦ same_by_marks marks first second ys (n + 1) h.1 k.1 x later
    ]

-- the names that marks mark are a product where each set is one for which the marks stand
pub product_of_marks : (rows : Rows) (marks : List Bool) (set : List (List ℕ)) → IsSound rows → StandFor (feature_names rows) marks set
    → is_product_of rows (chosen_names rows marks) ≡ is_product_of rows set
product_of_marks rows marks set sound stand =
    let names = feature_names rows in
    let distinct = subst AreDistinct (sym (spelled_names sound.tree rows sound.spelled)) sound.within.distinct in
    let chosen = marks_agree names marks distinct in
    let given = stand_agree names marks set stand in
    same_products rows (chosen_names rows marks) set (λ x. same_from_decides _ _ (
      (λ h. sym (same_by_marks marks (chosen_names rows marks) set names 0 chosen given x (member_of_all names (chosen_names rows marks) (marked_within names marks) x h)) ∙ h),
      (λ h. same_by_marks marks (chosen_names rows marks) set names 0 chosen given x (member_of_all names set stand.named x h) ∙ h),
    )
    ((λ h. h), (λ h. h)))
