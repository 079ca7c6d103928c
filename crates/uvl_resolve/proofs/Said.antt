-- What lines, groups and placing lines of a file say, a step at a time.
use Rattle.std.proofs.Common.{◌≡◌, ℕ, zero, suc, ◌+◌, ◌<◌, ◌≤◌, List, [], ◌∷◌, ◌++◌, map, length, take, get_or, Option, Some, None, Bool, true, false, cond, refl, sym, ap, ◌∙◌, subst, arith}
use Rattle.std.specs.Prelude.{slice_get}
use Rattle.std.specs.Option.{option_map, option_and_then}
use Rattle.std.specs.Str.{bytes_eq}
use Rattle.std.proofs.lemmas.List.{length-append, length-map}
use Rattle.std.proofs.lemmas.Option.{slice_get_within}
use Rattle.uvl_ast.specs.declared.feature.Feature.{Feature, out-Feature}
use Rattle.uvl_ast.specs.declared.feature.Feature.TheFolds.{fold_out-Feature, fold_out-Group}
use Rattle.uvl_ast.specs.declared.feature.Group.{Group, out-Group}
use Rattle.uvl_ast.specs.declared.feature.GroupKind.{GroupKind}
use Rattle.uvl_imports.specs.declared.file_set.Loaded.{Loaded}
use Rattle.uvl_placing.specs.Files.{imports_of, placed, tree_of_file, trees_behind}
use Rattle.uvl_placing.specs.Laws.{FilesAreReadInFront}
use Rattle.uvl_placing.specs.Names.{dotted, front_of, last_of, qualifier_of, target_called}
use Rattle.uvl_placing.specs.Options.{of_both, known}
use Rattle.uvl_placing.specs.Trees.{Imports, Branch, tree_called, with_root, tree_placed, tree_of_names, members_of, groups_of, branch_of, tree_of_feature, branch_of_group, tree_of_line, branch_of_written}
use Rattle.uvl_resolve.specs.Under.{tree_under, groups_under, members_under}
use Rattle.uvl_resolve.specs.steps.Walk.{said_by_line, said_by_group, said_by_groups, said_by_members, said_by_file, said_by_names, branch_under, qualifiers_of}
use Rattle.uvl_resolve.proofs.Options.{made_there}
use Rattle.uvl_resolve.proofs.UnderTexts.{longer, under_longer}
use Rattle.uvl_semantics.specs.Prefix.{prefixed}
use Rattle.uvl_semantics.specs.Tree.{Tree, Groups, Members, feature, group, member, top_name}

-- a feature with what is below it
abbrev pub declared : List ℕ → List ℕ → Feature → Groups → Tree
declared text name line below = feature (record { name = text ++ name; attributes = (out-Feature line).attributes }) below

-- a line by what stands below it
line_at : (imports : Imports) (line : Feature)
    → tree_of_line imports line
    ≡ tree_of_names imports (out-Feature line).name.parts (out-Feature line).attributes (groups_of (map (branch_of_written imports) (out-Feature line).groups))
line_at imports line = fold_out-Feature (Option Tree) (Option Branch) (tree_of_feature imports) branch_of_group line

-- a group by its members
group_at : (imports : Imports) (written : Group)
    → branch_of_written imports written
    ≡ option_map (branch_of (out-Group written).kind (length (out-Group written).members)) (members_of (map (tree_of_line imports) (out-Group written).members))
group_at imports written =
    fold_out-Group (Option Tree) (Option Branch) (tree_of_feature imports) branch_of_group written
    ∙ ap (λ (n : ℕ). option_map (branch_of (out-Group written).kind n) (members_of (map (tree_of_line imports) (out-Group written).members)))
    (length-map (out-Group written).members (tree_of_line imports))

-- a declaring line
pub line_declares : (front : List Loaded) (loaded : Loaded) (text : List ℕ) (line : Feature) (name : List ℕ)
    → (out-Feature line).name.parts ≡ name ∷ []
    → said_by_line front loaded text line ≡ option_map (declared text name line) (said_by_groups front loaded text (out-Feature line).groups)
line_declares front loaded text line name is =
    let imports = imports_of (placed front) loaded in
    let below = groups_of (map (branch_of_written imports) (out-Feature line).groups) in
    ap (option_map (tree_under text))
    (line_at imports line ∙ ap (λ (names : List (List ℕ)). tree_of_names imports names (out-Feature line).attributes below) is)
    ∙ swap below
  where
    swap : (below : Option Groups)
        → option_map (tree_under text) (option_map (λ groups. feature (record { name = name; attributes = (out-Feature line).attributes }) groups) below)
        ≡ option_map (declared text name line) (option_map (groups_under text) below)
    swap None = refl
    swap (Some below) = refl

-- another line places a tree
pub line_places : (front : List Loaded) (loaded : Loaded) (text : List ℕ) (line : Feature) (tree : Tree)
    → (length (out-Feature line).name.parts ≡ 1 → ⊥) → said_by_line front loaded text line ≡ Some tree
    → said_by_line front loaded text line ≡ said_by_names front loaded text (out-Feature line).name.parts
line_places front loaded text line tree other says =
    ap (option_map (tree_under text)) (line_at imports line)
    ∙ at (out-Feature line).name.parts other (sym (ap (option_map (tree_under text)) (line_at imports line)) ∙ says)
  where
    imports : Imports
    imports = imports_of (placed front) loaded

    below : Option Groups
    below = groups_of (map (branch_of_written imports) (out-Feature line).groups)

    at : (names : List (List ℕ)) → (length names ≡ 1 → ⊥)
        → option_map (tree_under text) (tree_of_names imports names (out-Feature line).attributes below) ≡ Some tree
        → option_map (tree_under text) (tree_of_names imports names (out-Feature line).attributes below) ≡ option_map (tree_under text) (tree_placed imports names)
    at [] many is = absurd cc
    at (name ∷ []) many is = absurd (many refl)
    at (name ∷ next ∷ names) many is = refl

-- a group
pub group_says : (front : List Loaded) (loaded : Loaded) (text : List ℕ) (written : Group)
    → said_by_group front loaded text written
    ≡ option_map (branch_of (out-Group written).kind (length (out-Group written).members)) (said_by_members front loaded text (out-Group written).members)
group_says front loaded text written =
    let imports = imports_of (placed front) loaded in
    ap (option_map (branch_under text)) (group_at imports written) ∙ swap (members_of (map (tree_of_line imports) (out-Group written).members))
  where
    kind : GroupKind
    kind = (out-Group written).kind

    count : ℕ
    count = length (out-Group written).members

    swap : (members : Option Members)
        → option_map (branch_under text) (option_map (branch_of kind count) members) ≡ option_map (branch_of kind count) (option_map (members_under text) members)
    swap None = refl
    swap (Some these) = refl

-- a group in front of groups
abbrev pub in_front_of : Branch → Groups → Groups
in_front_of branch others = group branch.lo branch.hi branch.members others

-- a group and those behind it
pub groups_say : (front : List Loaded) (loaded : Loaded) (text : List ℕ) (written : Group) (rest : List Group)
    → said_by_groups front loaded text (written ∷ rest) ≡ of_both in_front_of (said_by_group front loaded text written) (said_by_groups front loaded text rest)
groups_say front loaded text written rest = swap (branch_of_written imports written) (groups_of (map (branch_of_written imports) rest))
  where
    imports : Imports
    imports = imports_of (placed front) loaded

    swap : (branch : Option Branch) (others : Option Groups)
        → option_map (groups_under text) (of_both (λ first others. group first.lo first.hi first.members others) branch others)
        ≡ of_both in_front_of (option_map (branch_under text) branch) (option_map (groups_under text) others)
    swap None others = refl
    swap (Some branch) None = refl
    swap (Some branch) (Some others) = refl

-- a member and those behind it
pub members_say : (front : List Loaded) (loaded : Loaded) (text : List ℕ) (line : Feature) (rest : List Feature)
    → said_by_members front loaded text (line ∷ rest) ≡ of_both member (said_by_line front loaded text line) (said_by_members front loaded text rest)
members_say front loaded text line rest = swap (tree_of_line imports line) (members_of (map (tree_of_line imports) rest))
  where
    imports : Imports
    imports = imports_of (placed front) loaded

    swap : (tree : Option Tree) (others : Option Members)
        → option_map (members_under text) (of_both (λ first others. member first others) tree others)
        ≡ of_both member (option_map (tree_under text) tree) (option_map (members_under text) others)
    swap None others = refl
    swap (Some tree) None = refl
    swap (Some tree) (Some others) = refl

-- as many trees as files
trees_count : (trees : List (Option Tree)) (files : List Loaded) → length (trees_behind trees files) ≡ length trees + length files
trees_count trees [] = omega arith
trees_count trees (loaded ∷ files) =
    trees_count (trees ++ tree_of_file trees loaded ∷ []) files ∙ omega (arith, length-append trees (tree_of_file trees loaded ∷ []))

-- what is known of a tree that is there
known_there : (found : Option (Option Tree)) (tree : Tree) → known found ≡ Some tree → found ≡ Some (Some tree)
known_there None tree is = absurd cc
known_there (Some found) tree is = ap Some is

-- a tree with the wanted root is itself
with_root_same : (name : List ℕ) (tree found : Tree) → with_root name tree ≡ Some found → tree ≡ found
with_root_same name tree found is = by (bytes_eq (top_name tree) name) is
  where
    by : (b : Bool) → cond b (Some tree) None ≡ Some found → tree ≡ found
    by true h = cc
    by false h = absurd cc

-- What a reference places is what the file says that is called so, with the qualifier between.
pub record IsPlaced (front : List Loaded) (loaded : Loaded) (text : List ℕ) (names : List (List ℕ)) (tree : Tree) (target : ℕ) : Type 0 where
  pub within : target < length front
  pub says : (there : Loaded) → slice_get front target ≡ Some there
      → said_by_file (take target front) there (longer text (dotted (front_of names))) ≡ Some tree

pub names_place : FilesAreReadInFront → (front : List Loaded) (loaded : Loaded) (text : List ℕ) (names : List (List ℕ)) (tree : Tree)
    → said_by_names front loaded text names ≡ Some tree
    → (target : ℕ) × (target_called (dotted (front_of names)) loaded.file.imports loaded.targets ≡ Some target)
    × IsPlaced front loaded text names tree target
names_place law front loaded text names tree says =
    let outer = made_there (tree_under text) (tree_placed imports names) tree says in
    let inner = made_there (prefixed qualifier) (option_and_then (with_root (last_of names)) (tree_called imports qualifier)) outer.0 outer.1 in
    at (target_called qualifier loaded.file.imports loaded.targets) refl inner.0 inner.1 (outer.2 ∙ ap (tree_under text) inner.2)
  where
    imports : Imports
    imports = imports_of (placed front) loaded

    qualifier : List ℕ
    qualifier = dotted (front_of names)

    rooted : (found : Option Tree) (whole : Tree) → option_and_then (with_root (last_of names)) found ≡ Some whole → found ≡ Some whole
    rooted None whole is = absurd cc
    rooted (Some found) whole is = ap Some (with_root_same (last_of names) found whole is)

    at : (target : Option ℕ) → target_called qualifier loaded.file.imports loaded.targets ≡ target → (whole : Tree)
        → option_and_then (with_root (last_of names)) (option_and_then (λ position. known (slice_get (placed front) position)) (target_called qualifier loaded.file.imports loaded.targets)) ≡ Some whole
        → tree ≡ tree_under text (prefixed qualifier whole)
        → (target : ℕ) × (target_called qualifier loaded.file.imports loaded.targets ≡ Some target) × IsPlaced front loaded text names tree target
    at None is whole found same =
        let none = ap (λ (t : Option ℕ). option_and_then (with_root (last_of names)) (option_and_then (λ position. known (slice_get (placed front) position)) t)) is in
        let both : None ≡ Some whole = sym none ∙ found in
        absurd cc
    at (Some target) is whole found same =
        let there = ap (λ (t : Option ℕ). option_and_then (with_root (last_of names)) (option_and_then (λ position. known (slice_get (placed front) position)) t)) is in
        let tree_there = known_there (slice_get (placed front) target) whole (rooted (known (slice_get (placed front) target)) whole (sym there ∙ found)) in
        let within = slice_get_within (placed front) target (Some whole) tree_there in (
          target,
          is,
          record {
            within = omega (arith, within, trees_count [] front);
            says = λ file at_target.
                let read = (law front target file at_target).tree in
                let file_tree : Some (tree_of_file (placed (take target front)) file) ≡ Some (Some whole) = sym read ∙ tree_there in
                let file_is : tree_of_file (placed (take target front)) file ≡ Some whole = cc in
                ap (option_map (tree_under (longer text qualifier))) file_is ∙ ap Some (sym (under_longer text qualifier whole) ∙ sym same);
          },
        )

-- what is placed where the position of the file is known
pub placed_at : FilesAreReadInFront → (front : List Loaded) (loaded : Loaded) (text : List ℕ) (names : List (List ℕ)) (tree : Tree) (target : ℕ)
    → said_by_names front loaded text names ≡ Some tree
    → target_called (dotted (front_of names)) loaded.file.imports loaded.targets ≡ Some target
    → IsPlaced front loaded text names tree target
placed_at law front loaded text names tree target says is =
    let found = names_place law front loaded text names tree says in
    let both : Some found.0 ≡ Some target = sym found.1 ∙ is in
    let same : found.0 ≡ target = cc in
    subst (IsPlaced front loaded text names tree) same found.2

-- a reference that places something does so under every text
pub placed_bare : (front : List Loaded) (loaded : Loaded) (text : List ℕ) (names : List (List ℕ)) (tree : Tree)
    → said_by_names front loaded text names ≡ Some tree → (bare : Tree) × (said_by_names front loaded [] names ≡ Some bare)
placed_bare front loaded text names tree says =
    let made = made_there (tree_under text) (tree_placed (imports_of (placed front) loaded) names) tree says in
    (tree_under [] made.0, ap (option_map (tree_under [])) made.1)

-- a file's own qualifiers stand behind those of the files in front
pub own_qualifiers : (front : List Loaded) (loaded : Loaded) (d : List (List ℕ))
    → get_or (qualifiers_of (front ++ loaded ∷ [])) (length front) d ≡ map qualifier_of loaded.file.imports
own_qualifiers [] loaded d = refl
own_qualifiers (first ∷ front) loaded d = own_qualifiers front loaded d

-- and there is one list more
pub qualifiers_count : (front : List Loaded) (loaded : Loaded) → length (qualifiers_of (front ++ loaded ∷ [])) ≡ length front + 1
qualifiers_count [] loaded = refl
qualifiers_count (first ∷ front) loaded = omega (arith, qualifiers_count front loaded)

-- those of a file in front, with those in front of it
pub qualifiers_front : (front : List Loaded) (loaded there : Loaded) (target : ℕ) → slice_get front target ≡ Some there
    → take (suc target) (qualifiers_of (front ++ loaded ∷ [])) ≡ qualifiers_of (take target front ++ there ∷ [])
qualifiers_front [] loaded there target at = absurd cc
qualifiers_front (first ∷ front) loaded there zero at =
    let same : first ≡ there = cc in ap (λ (l : Loaded). map qualifier_of l.file.imports ∷ []) same
qualifiers_front (first ∷ front) loaded there (suc target) at =
    ap (λ (qs : List (List (List ℕ))). map qualifier_of first.file.imports ∷ qs) (qualifiers_front front loaded there target at)

-- a list of one
pub one_item : {A : Type 0} (xs : List A) (x : A) → 1 ≤ length xs → length xs < 2 → x ≡ get_or xs 0 x → xs ≡ x ∷ []
one_item [] x some one is = absurd (omega (arith, some))
one_item (y ∷ []) x some one is = ap (λ z. z ∷ []) (sym is)
one_item (y ∷ z ∷ xs) x some one is = absurd (omega (arith, one))

-- as many in front as the position says
pub count_front : (front : List Loaded) (n : ℕ) → n ≤ length front → length (take n front) ≡ n
count_front front zero le = refl
count_front [] (suc n) le = absurd (omega (arith, le))
count_front (first ∷ front) (suc n) le = ap suc (count_front front n (omega (arith, le)))
