-- What holds in the middle of a list of groups and of a list of members, and what room there is.
use Rattle.std.proofs.Common.{◌≡◌, ℕ, suc, ◌+◌, ◌<◌, ◌≤◌, List, [], ◌∷◌, ◌++◌, length, Option, Some, None, sym, ap, ◌∙◌, subst, arith}
use Rattle.std.proofs.lemmas.List.{length-append, append_assoc, append-nil}
use Rattle.uvl_ast.specs.declared.feature.Feature.{Feature, out-Feature}
use Rattle.uvl_ast.specs.declared.feature.Group.{Group, out-Group}
use Rattle.uvl_base.specs.Limits.{most_features}
use Rattle.uvl_imports.specs.declared.file_set.Loaded.{Loaded}
use Rattle.uvl_model.specs.declared.rows.FeatureNo.{FeatureNo}
use Rattle.uvl_model.specs.Spelling.{numbered, size_of, size_of_members}
use Rattle.uvl_placing.specs.Trees.{Branch, branch_of}
use Rattle.uvl_resolve.specs.declared.rows.RowBuilder.{RowBuilder}
use Rattle.uvl_resolve.specs.steps.Walk.{AddsTree, AddsGroup, AddsGroups, AddsMembers, HasRoom, GroupsFit, MembersFit, said_by_line, said_by_group, said_by_groups, said_by_members}
use Rattle.uvl_resolve.proofs.Said.{declared, line_declares, group_says, groups_say, members_say, in_front_of}
use Rattle.uvl_resolve.proofs.Options.{both_there, made_there}
use Rattle.uvl_resolve.proofs.Steps.{group_and_groups, tree_and_members, no_members_left}
use Rattle.uvl_semantics.specs.Tree.{Tree, Groups, Members, feature, member, names_of, names_of_groups, names_of_members}

-- how many features are said
abbrev pub size_said : {A : Type 0} → (A → ℕ) → Option A → ℕ
size_said size None = 0
size_said size (Some value) = size value

abbrev pub groups_size : Groups → ℕ
groups_size below = length (names_of_groups below)

abbrev pub branch_size : Branch → ℕ
branch_size branch = size_of_members branch.members

pub size_there : {A : Type 0} (size : A → ℕ) (said : Option A) (value : A) → said ≡ Some value → size_said size said ≡ size value
size_there size said value is = ap (size_said size) is

-- room for what is said otherwise
pub same_room : {A : Type 0} (size : A → ℕ) (n : ℕ) (said other : Option A) → said ≡ other → HasRoom size n said → HasRoom size n other
same_room size n said other e fits = (fits.0, sym e ∙ fits.1, fits.2)

-- a declared line has its groups behind it, and one feature more
pub record FitsBelow (n : ℕ) (whole : Option Tree) (below : Option Groups) : Type 0 where
  pub room : HasRoom groups_size (n + 1) below
  pub less : size_said size_of whole ≡ size_said groups_size below + 1
  pub here : n < most_features

pub line_fits : (front : List Loaded) (loaded : Loaded) (text : List ℕ) (line : Feature) (name : List ℕ) (n : ℕ)
    → (out-Feature line).name.parts ≡ name ∷ [] → HasRoom size_of n (said_by_line front loaded text line)
    → FitsBelow n (said_by_line front loaded text line) (said_by_groups front loaded text (out-Feature line).groups)
line_fits front loaded text line name n is fits =
    let e = line_declares front loaded text line name is in
    let made = made_there (declared text name line) (said_by_groups front loaded text (out-Feature line).groups) fits.0 (sym e ∙ fits.1) in
    let size : size_of fits.0 ≡ suc (length (names_of_groups made.0)) = ap size_of made.2 in
    record {
      room = (made.0, made.1, omega (arith, size, fits.2));
      less = size_there size_of _ fits.0 fits.1 ∙ size ∙ omega (arith, size_there groups_size _ made.0 made.1);
      here = omega (arith, size, fits.2);
    }

-- the same of a group and its members
pub record FitsInside (n : ℕ) (whole : Option Branch) (members : Option Members) (count : ℕ) : Type 0 where
  pub room : HasRoom size_of_members n members
  pub same : size_said branch_size whole ≡ size_said size_of_members members
  pub few : count ≤ most_features

-- at least as many features as members
members_counted : (front : List Loaded) (loaded : Loaded) (text : List ℕ) (lines : List Feature) (members : Members)
    → said_by_members front loaded text lines ≡ Some members → length lines ≤ size_of_members members
members_counted front loaded text [] all is = omega arith
members_counted front loaded text (line ∷ rest) all is =
    let both = both_there member _ _ all (sym (members_say front loaded text line rest) ∙ is) in
    let more = members_counted front loaded text rest both.1 both.3 in
    let size : size_of_members all ≡ length (names_of both.0) + length (names_of_members both.1) =
    ap size_of_members both.4 ∙ length-append (names_of both.0) (names_of_members both.1) in
    some_names both.0 (λ one. omega (arith, more, size, one))
  where
    some_names : {P : Type 0} (tree : Tree) → (1 ≤ length (names_of tree) → P) → P
    some_names (feature head below) f = f (omega arith)

pub group_fits : (front : List Loaded) (loaded : Loaded) (text : List ℕ) (written : Group) (n : ℕ)
    → HasRoom branch_size n (said_by_group front loaded text written)
    → FitsInside n (said_by_group front loaded text written) (said_by_members front loaded text (out-Group written).members) (length (out-Group written).members)
group_fits front loaded text written n fits =
    let e = group_says front loaded text written in
    let made = made_there (branch_of (out-Group written).kind (length (out-Group written).members)) (said_by_members front loaded text (out-Group written).members) fits.0 (sym e ∙ fits.1) in
    let size : branch_size fits.0 ≡ size_of_members made.0 = ap branch_size made.2 in
    let count = members_counted front loaded text (out-Group written).members made.0 made.1 in
    record {
      room = (made.0, made.1, omega (arith, size, fits.2));
      same = size_there branch_size _ fits.0 fits.1 ∙ size ∙ sym (size_there size_of_members _ made.0 made.1);
      few = omega (arith, size, fits.2, count);
    }

-- a first, and what is behind it
pub record FitsBoth {A B : Type 0} (first_size : A → ℕ) (rest_size : B → ℕ) (n : ℕ) (first : Option A) (rest : Option B) (whole : ℕ) : Type 0 where
  pub room : HasRoom first_size n first
  pub sizes : size_said first_size first + size_said rest_size rest ≡ whole
  pub behind : (m : ℕ) (a : A) → first ≡ Some a → m ≡ n + first_size a → HasRoom rest_size m rest

pub groups_fit_both : (front : List Loaded) (loaded : Loaded) (text : List ℕ) (written : Group) (rest : List Group) (n : ℕ)
    → HasRoom groups_size n (said_by_groups front loaded text (written ∷ rest))
    → FitsBoth branch_size groups_size n (said_by_group front loaded text written) (said_by_groups front loaded text rest)
    (size_said groups_size (said_by_groups front loaded text (written ∷ rest)))
groups_fit_both front loaded text written rest n fits =
    let both = both_there in_front_of _ _ fits.0 (sym (groups_say front loaded text written rest) ∙ fits.1) in
    let size : groups_size fits.0 ≡ branch_size both.0 + groups_size both.1 =
    ap groups_size both.4 ∙ length-append (names_of_members both.0.members) (names_of_groups both.1) in
    record {
      room = (both.0, both.2, omega (arith, size, fits.2));
      sizes = omega (arith, size, size_there groups_size _ fits.0 fits.1, size_there branch_size _ both.0 both.2, size_there groups_size _ both.1 both.3);
      behind = λ m a is e.
          let same : both.0 ≡ a = some_same both.2 is in
          (both.1, both.3, omega (arith, size, fits.2, e, ap branch_size same));
    }
  where
    some_same : {A : Type 0} {o : Option A} {a b : A} → o ≡ Some a → o ≡ Some b → a ≡ b
    some_same {A} {o} {a} {b} h k = let e : Some a ≡ Some b = sym h ∙ k in cc

pub members_fit_both : (front : List Loaded) (loaded : Loaded) (text : List ℕ) (line : Feature) (rest : List Feature) (n : ℕ)
    → HasRoom size_of_members n (said_by_members front loaded text (line ∷ rest))
    → FitsBoth size_of size_of_members n (said_by_line front loaded text line) (said_by_members front loaded text rest)
    (size_said size_of_members (said_by_members front loaded text (line ∷ rest)))
members_fit_both front loaded text line rest n fits =
    let both = both_there member _ _ fits.0 (sym (members_say front loaded text line rest) ∙ fits.1) in
    let size : size_of_members fits.0 ≡ size_of both.0 + size_of_members both.1 =
    ap size_of_members both.4 ∙ length-append (names_of both.0) (names_of_members both.1) in
    record {
      room = (both.0, both.2, omega (arith, size, fits.2));
      sizes = omega (arith, size, size_there size_of_members _ fits.0 fits.1, size_there size_of _ both.0 both.2, size_there size_of_members _ both.1 both.3);
      behind = λ m a is e.
          let same : both.0 ≡ a = some_same both.2 is in
          (both.1, both.3, omega (arith, size, fits.2, e, ap size_of same));
    }
  where
    some_same : {A : Type 0} {o : Option A} {a b : A} → o ≡ Some a → o ≡ Some b → a ≡ b
    some_same {A} {o} {a} {b} h k = let e : Some a ≡ Some b = sym h ∙ k in cc

-- what all groups add is what those in front have added with what the rest will add, for which there is room
pub record GroupsGoOn (front : List Loaded) (loaded : Loaded) (text : List ℕ) (start here : RowBuilder) (parent : FeatureNo) (all rest : List Group) : Type 0 where
  pub room : GroupsFit here (said_by_groups front loaded text rest)
  pub smaller : size_said groups_size (said_by_groups front loaded text rest) ≤ size_said groups_size (said_by_groups front loaded text all)
  pub add : (end : RowBuilder) → AddsGroups here end parent (said_by_groups front loaded text rest)
      → AddsGroups start end parent (said_by_groups front loaded text all)

pub groups_step : (front : List Loaded) (loaded : Loaded) (text : List ℕ) (start here new : RowBuilder) (parent : FeatureNo) (all : List Group)
    (written : Group) (rest : List Group) → GroupsGoOn front loaded text start here parent all (written ∷ rest)
    → AddsGroup here new parent (said_by_group front loaded text written) → GroupsGoOn front loaded text start new parent all rest
groups_step front loaded text start here new parent all written rest go h =
    let both = groups_fit_both front loaded text written rest (length here.features) go.room in
    record {
      room = both.behind (length new.features) h.branch h.says h.count;
      smaller = omega (arith, both.sizes, go.smaller);
      add = λ end k.
          go.add end (subst (AddsGroups here end parent) (sym (groups_say front loaded text written rest)) (group_and_groups here new end parent _ _ h k));
    }

-- the same of members, whose numbers stand behind those in front
pub record MembersGoOn (front : List Loaded) (loaded : Loaded) (text : List ℕ) (start here : RowBuilder) (parent : FeatureNo) (all rest : List Feature)
    (numbers : List FeatureNo) : Type 0 where
  pub room : MembersFit here (said_by_members front loaded text rest)
  pub smaller : size_said size_of_members (said_by_members front loaded text rest) ≤ size_said size_of_members (said_by_members front loaded text all)
  pub add : (end : RowBuilder) (more : List FeatureNo) → AddsMembers here end parent (said_by_members front loaded text rest) more
      → AddsMembers start end parent (said_by_members front loaded text all) (numbers ++ more)

pub members_step : (front : List Loaded) (loaded : Loaded) (text : List ℕ) (start here new : RowBuilder) (parent : FeatureNo) (all : List Feature)
    (line : Feature) (rest : List Feature) (numbers : List FeatureNo) → MembersGoOn front loaded text start here parent all (line ∷ rest) numbers
    → AddsTree here new (Some parent) (said_by_line front loaded text line)
    → MembersGoOn front loaded text start new parent all rest (numbers ++ numbered (length here.features) ∷ [])
members_step front loaded text start here new parent all line rest numbers go h =
    let both = members_fit_both front loaded text line rest (length here.features) go.room in
    record {
      room = both.behind (length new.features) h.tree h.says h.count;
      smaller = omega (arith, both.sizes, go.smaller);
      add = λ end more k.
          subst (λ (ns : List FeatureNo). AddsMembers start end parent (said_by_members front loaded text all) ns) (sym (append_assoc numbers (numbered (length here.features) ∷ []) more))
          (go.add end (numbered (length here.features) ∷ more)
          (subst (λ (o : Option Members). AddsMembers here end parent o (numbered (length here.features) ∷ more)) (sym (members_say front loaded text line rest))
          (tree_and_members here new end parent _ _ more h k)));
    }

pub members_end : (front : List Loaded) (loaded : Loaded) (text : List ℕ) (start here : RowBuilder) (parent : FeatureNo) (all : List Feature)
    (numbers : List FeatureNo) → MembersGoOn front loaded text start here parent all [] numbers
    → AddsMembers start here parent (said_by_members front loaded text all) numbers
members_end front loaded text start here parent all numbers go =
    subst (λ (ns : List FeatureNo). AddsMembers start here parent (said_by_members front loaded text all) ns) (append-nil numbers) (go.add here [] (no_members_left here parent))
