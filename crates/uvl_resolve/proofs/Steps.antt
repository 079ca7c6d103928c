-- Steps of the walk, one behind another.
use Rattle.std.proofs.Common.{◌≡◌, ℕ, ◌+◌, List, [], ◌∷◌, ◌++◌, length, set, Option, Some, refl, sym, ap, ◌∙◌, subst, arith}
use Rattle.std.proofs.lemmas.List.{length-append, append_assoc, append-nil, set_at}
use Rattle.std.specs.Option.{option_map}
use Rattle.uvl_ast.specs.declared.feature.Feature.{Feature, out-Feature}
use Rattle.uvl_ast.specs.declared.feature.Group.{Group, out-Group}
use Rattle.uvl_imports.specs.declared.file_set.Loaded.{Loaded}
use Rattle.uvl_model.specs.declared.rows.FeatureNo.{FeatureNo}
use Rattle.uvl_model.specs.declared.rows.FeatureRow.{FeatureRow}
use Rattle.uvl_model.specs.declared.rows.GroupRow.{GroupRow}
use Rattle.uvl_model.specs.Spelling.{numbered, feature_rows_of_groups, feature_rows_of_members, member_numbers, group_rows_of_groups, group_rows_of_members}
use Rattle.uvl_placing.specs.Options.{of_both}
use Rattle.uvl_placing.specs.Trees.{Branch, branch_of}
use Rattle.uvl_resolve.specs.declared.rows.RowBuilder.{RowBuilder}
use Rattle.uvl_resolve.specs.steps.Walk.{AddsTree, AddsGroup, AddsGroups, AddsMembers, said_by_line, said_by_group, said_by_groups, said_by_members}
use Rattle.uvl_resolve.proofs.Said.{declared, line_declares, group_says, in_front_of}
use Rattle.uvl_semantics.specs.Tree.{Tree, Groups, Members, no_groups, no_members, member, names_of, names_of_groups, names_of_members}

-- what is added in two steps
joined : {A : Type 0} (old mid new a b : List A) → mid ≡ old ++ a → new ≡ mid ++ b → new ≡ old ++ (a ++ b)
joined {A} old mid new a b h k = k ∙ ap (λ (front : List A). front ++ b) h ∙ append_assoc old a b

-- no groups and no members add nothing
pub no_groups_left : (rows : RowBuilder) (parent : FeatureNo) → AddsGroups rows rows parent (Some no_groups)
no_groups_left rows parent = record {
  below = no_groups;
  say = refl;
  features = sym (append-nil rows.features);
  groups = sym (append-nil rows.groups);
  count = omega arith;
}

pub no_members_left : (rows : RowBuilder) (parent : FeatureNo) → AddsMembers rows rows parent (Some no_members) []
no_members_left rows parent = record {
  members = no_members;
  say = refl;
  numbered = refl;
  features = sym (append-nil rows.features);
  groups = sym (append-nil rows.groups);
  count = omega arith;
}

-- a group, and the groups behind it
pub group_and_groups : (old mid new : RowBuilder) (parent : FeatureNo) (first : Option Branch) (rest : Option Groups)
    → AddsGroup old mid parent first → AddsGroups mid new parent rest → AddsGroups old new parent (of_both in_front_of first rest)
group_and_groups old mid new parent first rest h k =
    record {
      below = in_front_of h.branch k.below;
      say = ap (λ (o : Option Branch). of_both in_front_of o rest) h.says ∙ ap (λ (o : Option Groups). of_both in_front_of (Some h.branch) o) k.say;
      features = joined old.features mid.features new.features _ _ h.features
          (subst (λ (n : ℕ). new.features ≡ mid.features ++ feature_rows_of_groups parent n k.below) h.count k.features);
      groups = joined old.groups mid.groups new.groups _ _ h.groups
          (subst (λ (n : ℕ). new.groups ≡ mid.groups ++ group_rows_of_groups parent n k.below) h.count k.groups);
      count = omega (arith, h.count, k.count, length-append (names_of_members h.branch.members) (names_of_groups k.below));
    }

-- a member's tree, and the members behind it
pub tree_and_members : (old mid new : RowBuilder) (parent : FeatureNo) (first : Option Tree) (rest : Option Members) (numbers : List FeatureNo)
    → AddsTree old mid (Some parent) first → AddsMembers mid new parent rest numbers
    → AddsMembers old new parent (of_both member first rest) (numbered (length old.features) ∷ numbers)
tree_and_members old mid new parent first rest numbers h k =
    record {
      members = member h.tree k.members;
      say = ap (λ (o : Option Tree). of_both member o rest) h.says ∙ ap (λ (o : Option Members). of_both member (Some h.tree) o) k.say;
      numbered = ap (λ (ns : List FeatureNo). numbered (length old.features) ∷ ns)
          (subst (λ (n : ℕ). numbers ≡ member_numbers n k.members) h.count k.numbered);
      features = joined old.features mid.features new.features _ _ h.features
          (subst (λ (n : ℕ). new.features ≡ mid.features ++ feature_rows_of_members parent n k.members) h.count k.features);
      groups = joined old.groups mid.groups new.groups _ _ h.groups
          (subst (λ (n : ℕ). new.groups ≡ mid.groups ++ group_rows_of_members n k.members) h.count k.groups);
      count = omega (arith, h.count, k.count, length-append (names_of h.tree) (names_of_members k.members));
    }

-- a declared feature, and its groups
pub line_and_groups : (front : List Loaded) (loaded : Loaded) (text : List ℕ) (line : Feature) (name : List ℕ)
    → (out-Feature line).name.parts ≡ name ∷ [] → (old mid new : RowBuilder) (parent : Option FeatureNo)
    → mid.features ≡ old.features ++ record { name = text ++ name; parent = parent; attributes = (out-Feature line).attributes } ∷ []
    → mid.groups ≡ old.groups → AddsGroups mid new (numbered (length old.features)) (said_by_groups front loaded text (out-Feature line).groups)
    → AddsTree old new parent (said_by_line front loaded text line)
line_and_groups front loaded text line name is old mid new parent features groups k =
    let row : FeatureRow = record { name = text ++ name; parent = parent; attributes = (out-Feature line).attributes } in
    let count : length mid.features ≡ length old.features + 1 = ap length features ∙ length-append old.features (row ∷ []) in
    record {
      tree = declared text name line k.below;
      says = line_declares front loaded text line name is ∙ ap (option_map (declared text name line)) k.say;
      features = joined old.features mid.features new.features _ _ features
          (subst (λ (n : ℕ). new.features ≡ mid.features ++ feature_rows_of_groups (numbered (length old.features)) n k.below) count k.features);
      groups = subst (λ (n : ℕ). new.groups ≡ mid.groups ++ group_rows_of_groups (numbered (length old.features)) n k.below) count k.groups
          ∙ ap (λ (f : List GroupRow). f ++ group_rows_of_groups (numbered (length old.features)) (length old.features + 1) k.below) groups;
      count = omega (arith, count, k.count);
    }

-- a group by its members
pub group_by_members : (front : List Loaded) (loaded : Loaded) (text : List ℕ) (written : Group) (old pushed walked new : RowBuilder) (parent : FeatureNo)
    (numbers : List FeatureNo) (lo hi : ℕ) → (blank : GroupRow)
    → pushed.features ≡ old.features → pushed.groups ≡ old.groups ++ blank ∷ []
    → AddsMembers pushed walked parent (said_by_members front loaded text (out-Group written).members) numbers
    → new.features ≡ walked.features
    → new.groups ≡ set walked.groups (length old.groups) (record { parent = parent; lo = lo; hi = hi; members = numbers })
    → ((members : Members) → (branch_of (out-Group written).kind (length (out-Group written).members) members).lo ≡ lo)
    → ((members : Members) → (branch_of (out-Group written).kind (length (out-Group written).members) members).hi ≡ hi)
    → AddsGroup old new parent (said_by_group front loaded text written)
group_by_members front loaded text written old pushed walked new parent numbers lo hi blank pushed_features pushed_groups h features groups is_lo is_hi =
    let n = length old.features in
    let same : length pushed.features ≡ n = ap length pushed_features in
    let branch = branch_of (out-Group written).kind (length (out-Group written).members) h.members in
    let row : GroupRow = record { parent = parent; lo = lo; hi = hi; members = numbers } in
    let whole : walked.groups ≡ old.groups ++ blank ∷ group_rows_of_members n h.members =
    subst (λ (k : ℕ). walked.groups ≡ pushed.groups ++ group_rows_of_members k h.members) same h.groups
    ∙ ap (λ (f : List GroupRow). f ++ group_rows_of_members n h.members) pushed_groups ∙ append_assoc old.groups (blank ∷ []) _ in
    let filled : new.groups ≡ old.groups ++ row ∷ group_rows_of_members n h.members =
    groups ∙ ap (λ (rows : List GroupRow). set rows (length old.groups) row) whole
    ∙ set_at old.groups blank (group_rows_of_members n h.members) row (length old.groups) refl in
    let right : row ≡ record { parent = parent; lo = branch.lo; hi = branch.hi; members = member_numbers n branch.members } =
    λ i. record {
      parent = parent;
      lo = sym (is_lo h.members) i;
      hi = sym (is_hi h.members) i;
      members = (h.numbered ∙ ap (λ (k : ℕ). member_numbers k h.members) same) i;
    } in
    record {
      branch = branch;
      says = group_says front loaded text written ∙ ap (option_map (branch_of (out-Group written).kind (length (out-Group written).members))) h.say;
      features = features ∙ subst (λ (k : ℕ). walked.features ≡ pushed.features ++ feature_rows_of_members parent k h.members) same h.features
          ∙ ap (λ (f : List FeatureRow). f ++ feature_rows_of_members parent n h.members) pushed_features;
      groups = filled ∙ ap (λ (r : GroupRow). old.groups ++ r ∷ group_rows_of_members n h.members) right;
      count = omega (arith, ap length features, h.count, same);
    }
