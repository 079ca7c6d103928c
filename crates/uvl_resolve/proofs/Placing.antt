-- What the placing lines of a file place, and the constraints that they add.
use Rattle.std.proofs.Common.{◌≡◌, ℕ, ◌+◌, ◌<◌, ◌≤◌, List, [], ◌∷◌, ◌++◌, length, map, get_or, Option, Some, None, Bool, true, false, cond, refl, sym, ap, ◌∙◌, subst, arith}
use Rattle.std.specs.Prelude.{slice_get, position}
use Rattle.std.specs.List.{All, AllByRecursion, flat_map}
use Rattle.std.specs.Option.{option_map, option_and_then}
use Rattle.std.specs.Str.{bytes_eq}
use Rattle.std.proofs.lemmas.List.{append_assoc, append-nil, map-append}
use Rattle.std.proofs.lemmas.List.Elements.{All-from_recursion, All-head, All-tail, recursion_from_All}
use Rattle.std.proofs.lemmas.Option.{slice_get_within, slice_get-get_or, slice_get-map}
use Rattle.uvl_ast.specs.declared.feature.Feature.{Feature, out-Feature}
use Rattle.uvl_ast.specs.declared.feature.Feature.TheFolds.{fold_out-Feature, fold_out-Group}
use Rattle.uvl_ast.specs.declared.feature.Group.{Group, out-Group}
use Rattle.uvl_ast.specs.Rules.{rules_of}
use Rattle.uvl_ast.specs.declared.file.Import.{Import}
use Rattle.uvl_imports.specs.Sets.{IsWhole}
use Rattle.uvl_imports.specs.declared.file_set.Loaded.{Loaded}
use Rattle.uvl_model.specs.declared.rule.Rule.{Rule}
use Rattle.uvl_placing.specs.Constraints.{constraints_placed, constraints_of_placings, constraints_of_rules, placing_names, placings_below, placings_from, placings_of_feature, placings_of_group}
use Rattle.uvl_placing.specs.Files.{constraints_of_tree, imports_of, placed, placings_of_root, said, tree_of_file, tree_of_root}
use Rattle.uvl_placing.specs.Laws.{FilesAreReadAmongAll}
use Rattle.uvl_placing.specs.Names.{dotted, front_of, qualifier_of, target_called}
use Rattle.uvl_placing.specs.Options.{known, of_both}
use Rattle.uvl_resolve.specs.declared.placements.Placement.{Placement}
use Rattle.uvl_resolve.specs.steps.Placements.{AddsPlacements, AreReady, IsPlaced, IsReady, heads_at, heads_there, placement, placement_of}
use Rattle.uvl_resolve.specs.steps.Rules.{Says, SaysRules, StandAt, heads_in, names_of_heads, root_of}
use Rattle.uvl_resolve.proofs.Heads.{names_with, root_is}
use Rattle.uvl_resolve.proofs.Parts.{front_all, rest_all}
use Rattle.uvl_resolve.proofs.PlacesTree.{PlacesTree, each_places}
use Rattle.uvl_resolve.proofs.Saying.{behind_each_other, both_said, nothing_said, placed_said, stand_room}
use Rattle.uvl_resolve.proofs.Standing.{found_at}
use Rattle.uvl_scope.specs.declared.scope.Scope.{Scope}
use Rattle.uvl_semantics.specs.Constraint.{Constraint}
use Rattle.uvl_semantics.specs.Prefix.{prefixed_constraint}
use Rattle.uvl_semantics.specs.Tree.{Tree, Head, feature, heads_of, top_name}

some_same : {A : Type 0} {a b : A} → Some a ≡ Some b → a ≡ b
some_same {A} {a} {b} h = cc

-- ---- placements one after another

pub none_added : (loaded : Loaded) (names : List (List ℕ)) (old : List Placement) → AddsPlacements loaded names old old []
none_added loaded names old = record { added = []; behind = sym (append-nil old); are = refl }

pub one_added : (loaded : Loaded) (names : List (List ℕ)) (old new : List Placement) (reference : List (List ℕ)) (p : Placement)
    → placement_of loaded names reference ≡ Some p → new ≡ old ++ p ∷ [] → AddsPlacements loaded names old new (reference ∷ [])
one_added loaded names old new reference p is pushed = record { added = p ∷ []; behind = pushed; are = ap (λ (o : Option Placement). o ∷ []) is }

both_added : (loaded : Loaded) (names : List (List ℕ)) (old mid new : List Placement) (first second : List (List (List ℕ))) → AddsPlacements loaded names old mid first
    → AddsPlacements loaded names mid new second → AddsPlacements loaded names old new (first ++ second)
both_added loaded names old mid new first second h k = record {
  added = h.added ++ k.added;
  behind = k.behind ∙ ap (λ (ps : List Placement). ps ++ k.added) h.behind ∙ append_assoc old h.added k.added;
  are = map-append (placement_of loaded names) first second
      ∙ ap (λ (os : List (Option Placement)). os ++ map (placement_of loaded names) second) h.are
      ∙ ap (λ (os : List (Option Placement)). map (λ (p : Placement). Some p) h.added ++ os) k.are
      ∙ sym (map-append (λ (p : Placement). Some p) h.added k.added);
}

-- all placing lines are those in front, which are there, and those that are left
pub record PlacesGoOn (loaded : Loaded) (names : List (List ℕ)) (start here : List Placement) (all rest : List (List (List ℕ))) : Type 0 where
  pub placed : All (IsPlaced loaded names) rest
  pub add : (end : List Placement) → AddsPlacements loaded names here end rest → AddsPlacements loaded names start end all

pub places_begin : (loaded : Loaded) (names : List (List ℕ)) (start : List Placement) (all : List (List (List ℕ))) → All (IsPlaced loaded names) all
    → PlacesGoOn loaded names start start all all
places_begin loaded names start all placed = record { placed = placed; add = λ end h. h }

pub places_step : (loaded : Loaded) (names : List (List ℕ)) (start here new : List Placement) (all front rest : List (List (List ℕ)))
    → PlacesGoOn loaded names start here all (front ++ rest) → AddsPlacements loaded names here new front → PlacesGoOn loaded names start new all rest
places_step loaded names start here new all front rest go step = record {
  placed = All-from_recursion (IsPlaced loaded names) rest (rest_all (IsPlaced loaded names) front rest (recursion_from_All (IsPlaced loaded names) (front ++ rest) go.placed));
  add = λ end h. go.add end (both_added loaded names here new end front rest step h);
}

pub places_end : (loaded : Loaded) (names : List (List ℕ)) (start here : List Placement) (all : List (List (List ℕ))) → PlacesGoOn loaded names start here all []
    → AddsPlacements loaded names start here all
places_end loaded names start here all go = go.add here (none_added loaded names here)

pub front_placed : (loaded : Loaded) (names : List (List ℕ)) (front rest : List (List (List ℕ))) → All (IsPlaced loaded names) (front ++ rest) → All (IsPlaced loaded names) front
front_placed loaded names front rest placed =
    All-from_recursion (IsPlaced loaded names) front (front_all (IsPlaced loaded names) front rest (recursion_from_All (IsPlaced loaded names) (front ++ rest) placed))

-- ---- a file of a set

-- a target that is called stands in front
target_in_front : (qualifier : List ℕ) (lines : List Import) (targets : List ℕ) (at target : ℕ) → All (λ t. t < at) targets → target_called qualifier lines targets ≡ Some target
    → target < at
target_in_front qualifier [] targets at target all is = absurd cc
target_in_front qualifier (line ∷ lines) [] at target all is = absurd cc
target_in_front qualifier (line ∷ lines) (first ∷ targets) at target all is =
    by (λ h. target_in_front qualifier lines targets at target (All-tail (λ (t : ℕ). t < at) first targets all) h) (bytes_eq qualifier (qualifier_of line)) is
  where
    by : (target_called qualifier lines targets ≡ Some target → target < at) → (b : Bool)
        → cond b (Some first) (target_called qualifier lines targets) ≡ Some target → target < at
    by rest true h =
        let same : first ≡ target = some_same h in
        subst (λ (t : ℕ). t < at) same (All-head (λ (t : ℕ). t < at) first targets all)
    by rest false h = rest h

some_heads : (tree : Tree) → 1 ≤ length (heads_of tree)
some_heads (feature head below) = omega arith

module _ (files : List Loaded) (scopes : List Scope) (whole : IsWhole files) (law : FilesAreReadAmongAll) (ready : AreReady files scopes) (at : ℕ) (loaded : Loaded) (scope : Scope)
    (there : slice_get files at ≡ Some loaded) (found : slice_get scopes at ≡ Some scope) where
  pub is_ready : IsReady files at loaded scope
  is_ready = ready.each at loaded scope there found

  pub says : tree_of_file (placed files) loaded ≡ Some is_ready.tree
  says = some_same (sym (law files at loaded whole there).tree ∙ is_ready.placed)

  -- each placing line places a tree within that of the file
  each_root : (root : Option Feature) → tree_of_root (imports_of (placed files) loaded) root ≡ Some is_ready.tree
      → AllByRecursion (PlacesTree (imports_of (placed files) loaded) (heads_of is_ready.tree)) (placings_of_root root)
  each_root None is = absurd cc
  each_root (Some root) is = each_places (imports_of (placed files) loaded) root is_ready.tree is

  pub places : AllByRecursion (PlacesTree (imports_of (placed files) loaded) (heads_of is_ready.tree)) (placings_of_root loaded.file.root)
  places = each_root loaded.file.root says

  -- and is found
  found_placement : (reference : List (List ℕ)) (h : PlacesTree (imports_of (placed files) loaded) (heads_of is_ready.tree) reference)
      → placement_of loaded scope.names reference ≡ Some (placement h.target h.number)
  found_placement reference h =
      let name_there : slice_get scope.names h.number ≡ Some (dotted reference) =
      ap (λ (ns : List (List ℕ)). slice_get ns h.number) (sym (names_with scope.names scope.attributes) ∙ ap names_of_heads is_ready.heads)
      ∙ slice_get-map (λ (head : Head). head.name) (heads_of is_ready.tree) h.number
      ∙ ap (option_map (λ (head : Head). head.name)) h.at ∙ ap (λ (n : List ℕ). Some n) h.named in
      let at_number : position (bytes_eq (dotted reference)) scope.names ≡ Some h.number =
      found_at scope.names h.number (dotted reference) is_ready.distinct name_there in
      ap (λ (o : Option ℕ). of_both placement o (position (bytes_eq (dotted reference)) scope.names)) h.called
      ∙ ap (of_both placement (Some h.target)) at_number

  each_placed : (references : List (List (List ℕ))) → AllByRecursion (PlacesTree (imports_of (placed files) loaded) (heads_of is_ready.tree)) references
      → AllByRecursion (IsPlaced loaded scope.names) references
  each_placed [] h = tt
  each_placed (r ∷ rs) h = ((placement h.0.target h.0.number, found_placement r h.0), each_placed rs h.1)

  pub all_placed : All (IsPlaced loaded scope.names) (placings_of_root loaded.file.root)
  all_placed = All-from_recursion (IsPlaced loaded scope.names) (placings_of_root loaded.file.root) (each_placed (placings_of_root loaded.file.root) places)

  -- what is placed by a line: a file in front, whose names stand within those of the file
  pub record PlacesFile (reference : List (List ℕ)) (p : Placement) : Type 0 where
    pub in_front : p.target < at
    pub room : p.number + length (heads_at scopes p.target) ≤ length (heads_in scope)
    pub add : (offset : ℕ) (old new : List Rule) → Says (heads_at scopes p.target) (offset + p.number) old new (known (slice_get (said files) p.target))
        → Says (heads_in scope) offset old new (constraints_placed (imports_of (placed files) loaded) (said files) reference)

  pub places_file : (reference : List (List ℕ)) (p : Placement) → PlacesTree (imports_of (placed files) loaded) (heads_of is_ready.tree) reference
      → placement_of loaded scope.names reference ≡ Some p → PlacesFile reference p
  places_file reference p h is = subst (PlacesFile reference) (some_same (sym (found_placement reference h) ∙ is)) (record {
    in_front = in_front;
    room = subst (λ (hs : List Head). h.number + length hs ≤ length (heads_in scope)) (sym inner) room;
    add = λ offset old new k.
        subst (Says (heads_in scope) offset old new) (sym constraints)
        (placed_said (heads_in scope) (heads_of h.tree) offset h.number q old new (known (slice_get (said files) h.target)) stand room
        (subst (λ (hs : List Head). Says hs (offset + h.number) old new (known (slice_get (said files) h.target))) inner k));
  })
    where
      q : List ℕ
      q = dotted (front_of reference)

      in_front : h.target < at
      in_front = target_in_front q loaded.file.imports loaded.targets at h.target (whole.each at loaded there).in_front h.called

      within : h.target < length files
      within = omega (arith, in_front, slice_get_within files at loaded there)

      inner : heads_at scopes h.target ≡ heads_of h.tree
      inner =
          let l = get_or files h.target loaded in
          let s = get_or scopes h.target scope in
          let l_there : slice_get files h.target ≡ Some l = slice_get-get_or files h.target loaded within in
          let s_there : slice_get scopes h.target ≡ Some s = slice_get-get_or scopes h.target scope (omega (arith, within, ready.count)) in
          let its = ready.each h.target l s l_there s_there in
          let same : its.tree ≡ h.tree = some_same (some_same (sym its.placed ∙ h.there)) in
          ap heads_there s_there ∙ its.heads ∙ ap heads_of same

      stand : StandAt (heads_in scope) h.number (q ++ 46 ∷ []) (heads_of h.tree)
      stand = subst (λ (hs : List Head). StandAt hs h.number (q ++ 46 ∷ []) (heads_of h.tree)) (sym is_ready.heads) h.stand

      room : h.number + length (heads_of h.tree) ≤ length (heads_in scope)
      room = stand_room (heads_in scope) (heads_of h.tree) h.number (q ++ 46 ∷ []) stand (some_heads h.tree)

      constraints : constraints_placed (imports_of (placed files) loaded) (said files) reference
          ≡ option_map (map (prefixed_constraint q)) (known (slice_get (said files) h.target))
      constraints = ap (λ (o : Option ℕ). option_map (map (prefixed_constraint q)) (option_and_then (λ position. known (slice_get (said files) position)) o)) h.called

  -- ---- the rules of what the placing lines place, one after another

  -- What is left to be placed, and that its rules are added to those that are there.
  pub record FilesGoOn (offset : ℕ) (start here : List Rule) (left : List Placement) : Type 0 where
    pub rest : List (List (List ℕ))
    pub place : AllByRecursion (PlacesTree (imports_of (placed files) loaded) (heads_of is_ready.tree)) rest
    pub are : map (placement_of loaded scope.names) rest ≡ map (λ (p : Placement). Some p) left
    pub add : (end : List Rule) → Says (heads_in scope) offset here end (constraints_of_placings (imports_of (placed files) loaded) (said files) rest)
        → Says (heads_in scope) offset start end (constraints_of_placings (imports_of (placed files) loaded) (said files) (placings_of_root loaded.file.root))

  pub files_begin : (offset : ℕ) (start : List Rule) (placements : List Placement) → AddsPlacements loaded scope.names [] placements (placings_of_root loaded.file.root)
      → FilesGoOn offset start start placements
  files_begin offset start placements adds = record {
    rest = placings_of_root loaded.file.root;
    place = places;
    are = adds.are ∙ ap (map (λ (p : Placement). Some p)) (sym adds.behind);
    add = λ end h. h;
  }

  -- the first that is left
  pub record FirstLeft (offset : ℕ) (start here : List Rule) (p : Placement) (left : List Placement) : Type 0 where
    pub reference : List (List ℕ)
    pub file : PlacesFile reference p
    pub go_on : (new : List Rule) → Says (heads_in scope) offset here new (constraints_placed (imports_of (placed files) loaded) (said files) reference)
        → FilesGoOn offset start new left

  pub files_step : (offset : ℕ) (start here : List Rule) (p : Placement) (left : List Placement) → FilesGoOn offset start here (p ∷ left) → FirstLeft offset start here p left
  files_step offset start here p left go = first go.rest go.place go.are go.add
    where
      added : List (List (List ℕ)) → Option (List Constraint)
      added rest = constraints_of_placings (imports_of (placed files) loaded) (said files) rest

      first : (rest : List (List (List ℕ))) → AllByRecursion (PlacesTree (imports_of (placed files) loaded) (heads_of is_ready.tree)) rest
          → map (placement_of loaded scope.names) rest ≡ map (λ (p : Placement). Some p) (p ∷ left)
          → ((end : List Rule) → Says (heads_in scope) offset here end (constraints_of_placings (imports_of (placed files) loaded) (said files) rest)
          → Says (heads_in scope) offset start end (constraints_of_placings (imports_of (placed files) loaded) (said files) (placings_of_root loaded.file.root)))
          → FirstLeft offset start here p left
      first [] place are add = absurd cc
      first (r ∷ rs) place are add =
          let one : placement_of loaded scope.names r ≡ Some p = cc in
          let others : map (placement_of loaded scope.names) rs ≡ map (λ (p : Placement). Some p) left = cc in
          record {
            reference = r;
            file = places_file r p place.0 one;
            go_on = λ new h. record {
              rest = rs;
              place = place.1;
              are = others;
              add = λ end k.
                  add end (both_said (heads_in scope) offset here new end (constraints_placed (imports_of (placed files) loaded) (said files) r)
                  (constraints_of_placings (imports_of (placed files) loaded) (said files) rs) h k);
            };
          }

  pub files_end : (offset : ℕ) (start here : List Rule) → FilesGoOn offset start here []
      → Says (heads_in scope) offset start here (constraints_of_placings (imports_of (placed files) loaded) (said files) (placings_of_root loaded.file.root))
  files_end offset start here go = last go.rest go.are go.add
    where
      last : (rest : List (List (List ℕ))) → map (placement_of loaded scope.names) rest ≡ []
          → ((end : List Rule) → Says (heads_in scope) offset here end (constraints_of_placings (imports_of (placed files) loaded) (said files) rest)
          → Says (heads_in scope) offset start end (constraints_of_placings (imports_of (placed files) loaded) (said files) (placings_of_root loaded.file.root)))
          → Says (heads_in scope) offset start here (constraints_of_placings (imports_of (placed files) loaded) (said files) (placings_of_root loaded.file.root))
      last [] are add = add here (nothing_said (heads_in scope) offset here)
      last (r ∷ rs) are add = absurd cc

  -- the rules of the file itself, and then those of what it places
  pub file_says : (offset : ℕ) (old mid new : List Rule)
      → SaysRules (heads_in scope) offset old mid (rules_of loaded.file)
      → Says (heads_in scope) offset mid new (constraints_of_placings (imports_of (placed files) loaded) (said files) (placings_of_root loaded.file.root))
      → Says (heads_in scope) offset old new (known (slice_get (said files) at))
  file_says offset old mid new own placed_rules =
      let tree = is_ready.tree in
      let all : known (slice_get (said files) at)
      ≡ of_both behind_each_other (constraints_of_rules (top_name tree) (rules_of loaded.file))
      (constraints_of_placings (imports_of (placed files) loaded) (said files) (placings_of_root loaded.file.root)) =
      ap known (law files at loaded whole there).constraints ∙ ap (constraints_of_tree (placed files) (said files) loaded) says in
      let top : root_of (heads_in scope) ≡ top_name tree = ap root_of is_ready.heads ∙ root_is tree in
      let own_said : Says (heads_in scope) offset old mid (constraints_of_rules (top_name tree) (rules_of loaded.file)) =
      subst (λ (root : List ℕ). Says (heads_in scope) offset old mid (constraints_of_rules root (rules_of loaded.file))) top own in
      subst (Says (heads_in scope) offset old new) (sym all)
      (both_said (heads_in scope) offset old mid new (constraints_of_rules (top_name tree) (rules_of loaded.file))
      (constraints_of_placings (imports_of (placed files) loaded) (said files) (placings_of_root loaded.file.root)) own_said placed_rules)

-- ---- lines and groups by their parts

pub placings_at : (line : Feature)
    → placings_from line ≡ placing_names (out-Feature line).name.parts (flat_map (λ (placings : List (List (List ℕ))). placings) (map placings_below (out-Feature line).groups))
placings_at line = fold_out-Feature (List (List (List ℕ))) (List (List (List ℕ))) placings_of_feature placings_of_group line

pub placings_in : (written : Group) → placings_below written ≡ flat_map (λ (placings : List (List (List ℕ))). placings) (map placings_from (out-Group written).members)
placings_in written = fold_out-Group (List (List (List ℕ))) (List (List (List ℕ))) placings_of_feature placings_of_group written

-- a line of one name has those below it
pub one_name : (names : List (List ℕ)) (below : List (List (List ℕ))) → length names ≡ 1 → placing_names names below ≡ below
one_name [] below one = absurd (omega (arith, one))
one_name (name ∷ []) below one = refl
one_name (name ∷ next ∷ names) below one = absurd (omega (arith, one))
