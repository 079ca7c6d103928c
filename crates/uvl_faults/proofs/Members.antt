-- How deep a spelled tree of features is, and that none of its groups is empty.
use Rattle.std.specs.Prelude.{◌≡◌, ℕ, zero, suc, ◌+◌, ◌≤◌, List, [], ◌∷◌, length, map}
use Rattle.std.specs.List.{All, flat_map}
use Rattle.std.proofs.Common.{sym, ap, subst, ◌∙◌, arith}
use Rattle.std.proofs.lemmas.List.{length-map}
use Rattle.std.proofs.lemmas.List.Elements.{All-append, All-from_recursion}
use Rattle.uvl_lexer.specs.declared.token.Token.{Token}
use Rattle.uvl_ast.specs.declared.feature.Feature.{Feature, roll-Feature}
use Rattle.uvl_ast.specs.declared.feature.Group.{Group, roll-Group}
use Rattle.uvl_ast.specs.declared.feature.Feature.TheOpen.{Feature-F, Group-F}
use Rattle.uvl_ast.specs.declared.feature.Feature.TheFolds.{fold-roll-Feature, fold-roll-Group}
use Rattle.uvl_ast.specs.Depth.{greatest, depth_of, depth_of_group, feature_depth, group_depth}
use Rattle.uvl_ast.specs.Members.{member_counts, member_counts_of_group, feature_counts, group_counts, EachGroupHasMembers}
use Rattle.uvl_grammar.specs.Shapes.{Spelling, Repeated, None_more, One_more, OneOrMore, First, Body, No_body, Indented}
use Rattle.uvl_grammar.specs.Braces.{attributes_of, rules_of}
use Rattle.uvl_grammar.specs.Features.{SpellsGroup, Members, SpellsFeature, Line, FeatureWithin}

-- ---- one step of the counts and depths

counts_at : (r : Feature-F Feature Group) → member_counts (roll-Feature r) ≡ flat_map (λ counts. counts) (map member_counts_of_group r.groups)
counts_at r = fold-roll-Feature (List ℕ) (List ℕ) feature_counts group_counts r

counts_in : (r : Group-F Feature Group) → member_counts_of_group (roll-Group r) ≡ length r.members ∷ flat_map (λ counts. counts) (map member_counts r.members)
counts_in r =
    fold-roll-Group (List ℕ) (List ℕ) feature_counts group_counts r
    ∙ ap (λ (n : ℕ). n ∷ flat_map (λ counts. counts) (map member_counts r.members)) (length-map r.members member_counts)

depth_at : (r : Feature-F Feature Group) → depth_of (roll-Feature r) ≡ 1 + greatest (map depth_of_group r.groups)
depth_at r = fold-roll-Feature ℕ ℕ feature_depth group_depth r

depth_in : (r : Group-F Feature Group) → depth_of_group (roll-Group r) ≡ greatest (map depth_of r.members)
depth_in r = fold-roll-Group ℕ ℕ feature_depth group_depth r

-- ---- what holds of repeated parts

abbrev IsSome : ℕ → Type 0
IsSome count = 1 ≤ count

-- what holds of each of the items that every part has holds of each of all of them
pub repeated_all : {A B : Type 0} (P : B → Type 0) (R : Spelling A) (c : A → List B) → ((xs : List Token) (v : A) → R xs v → All P (c v))
    → {ys : List Token} {items : List A} → Repeated R ys items → All P (flat_map (λ parts. parts) (map c items))
repeated_all P R c h None_more = All-from_recursion P [] tt
repeated_all P R c h (One_more {xs} {ys} {a} {items} r rs) =
    All-append P (c a) (flat_map (λ parts. parts) (map c items)) (h xs a r) (repeated_all P R c h rs)

repeated_depth : {A : Type 0} (R : Spelling A) (c : A → ℕ) (n : ℕ) → ((xs : List Token) (v : A) → R xs v → c v ≤ n)
    → {ys : List Token} {items : List A} → Repeated R ys items → greatest (map c items) ≤ n
repeated_depth R c n h None_more = omega arith
repeated_depth R c n h (One_more {xs} {ys} {a} {items} r rs) =
    let here = h xs a r in
    let others = repeated_depth R c n h rs in
    omega arith

-- ---- groups and features

module _ (Member : Spelling Feature) (n : ℕ) (counted : (xs : List Token) (f : Feature) → Member xs f → EachGroupHasMembers f)
    (deep : (xs : List Token) (f : Feature) → Member xs f → depth_of f ≤ n) where
  members_counts : (ys : List Token) (members : List Feature) → OneOrMore Member ys members
      → All IsSome (length members ∷ flat_map (λ counts. counts) (map member_counts members))
  members_counts ys members (First {xs = us} {ys = vs} {a} {items} r rs) =
      let here : All IsSome (length (a ∷ items) ∷ []) = All-from_recursion IsSome (length (a ∷ items) ∷ []) (omega arith, tt) in
      All-append IsSome (length (a ∷ items) ∷ []) (flat_map (λ counts. counts) (map member_counts (a ∷ items))) here
      (repeated_all IsSome Member member_counts counted (One_more r rs))

  members_depth : (ys : List Token) (members : List Feature) → OneOrMore Member ys members → greatest (map depth_of members) ≤ n
  members_depth ys members (First r rs) = repeated_depth Member depth_of n deep (One_more r rs)

  group_counted : (xs : List Token) (g : Group) → SpellsGroup Member xs g → All IsSome (member_counts_of_group g)
  group_counted xs g (Members {ys} newline indent dedent {front} {members} kind ends opens r closes) =
      subst (λ z. All IsSome z) (sym (counts_in (record { kind = front.0; members = members; place = front.1 }))) (members_counts ys members r)

  group_deep : (xs : List Token) (g : Group) → SpellsGroup Member xs g → depth_of_group g ≤ n
  group_deep xs g (Members {ys} newline indent dedent {front} {members} kind ends opens r closes) =
      subst (λ z. z ≤ n) (sym (depth_in (record { kind = front.0; members = members; place = front.1 }))) (members_depth ys members r)

  body_counted : (zs : List Token) (groups : List Group) → Body (SpellsGroup Member) zs groups
      → All IsSome (flat_map (λ counts. counts) (map member_counts_of_group groups))
  body_counted zs groups No_body = All-from_recursion IsSome [] tt
  body_counted zs groups (Indented indent dedent opens (First r rs) closes) =
      repeated_all IsSome (SpellsGroup Member) member_counts_of_group group_counted (One_more r rs)

  body_deep : (zs : List Token) (groups : List Group) → Body (SpellsGroup Member) zs groups → greatest (map depth_of_group groups) ≤ n
  body_deep zs groups No_body = omega arith
  body_deep zs groups (Indented indent dedent opens (First r rs) closes) =
      repeated_depth (SpellsGroup Member) depth_of_group n group_deep (One_more r rs)

  feature_counted : (xs : List Token) (f : Feature) → SpellsFeature Member xs f → EachGroupHasMembers f
  feature_counted xs f (Line {zs} newline {r} {entries} {groups} said named braced ends below) =
      subst (λ z. All IsSome z) (sym (counts_at (record { name = r; attributes = attributes_of entries; rules = rules_of entries; groups = groups }))) (body_counted zs groups below)

  feature_deep : (xs : List Token) (f : Feature) → SpellsFeature Member xs f → depth_of f ≤ suc n
  feature_deep xs f (Line {zs} newline {r} {entries} {groups} said named braced ends below) =
      let inner = body_deep zs groups below in
      let here = depth_at (record { name = r; attributes = attributes_of entries; rules = rules_of entries; groups = groups }) in
      omega (arith, here, inner)

mutual
  -- a tree that is spelled so deep is no deeper
  pub within_depth : (d : ℕ) (xs : List Token) (f : Feature) → FeatureWithin d xs f → depth_of f ≤ d
  within_depth zero xs f r = absurd r
  within_depth (suc d) xs f r = feature_deep (FeatureWithin d) d (within_members d) (within_depth d) xs f r

  -- and no empty group
  pub within_members : (d : ℕ) (xs : List Token) (f : Feature) → FeatureWithin d xs f → EachGroupHasMembers f
  within_members zero xs f r = absurd r
  within_members (suc d) xs f r = feature_counted (FeatureWithin d) d (within_members d) (within_depth d) xs f r
