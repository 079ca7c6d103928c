-- The scope that a reference places is that of the tree that it places.
use Rattle.std.proofs.Common.{◌≡◌, ℕ, zero, suc, Bool, true, false, List, [], ◌∷◌, ◌++◌, length, Option, Some, None, slice_get, refl, sym, ap, ◌∙◌, subst, if◌then◌else◌, inl, inr, arith}
use Rattle.std.specs.Prelude.{◌⊎◌}
use Rattle.std.specs.Option.{option_map, option_and_then}
use Rattle.std.specs.Str.{bytes_eq}
use Rattle.uvl_imports.specs.declared.file_set.Loaded.{Loaded}
use Rattle.uvl_placing.specs.Files.{imports_of}
use Rattle.uvl_placing.specs.Names.{dotted, front_of, last_of, target_called}
use Rattle.uvl_placing.specs.Options.{known}
use Rattle.uvl_placing.specs.Trees.{tree_placed}
use Rattle.uvl_placing.specs.Trees.{with_root as tree_with_root}
use Rattle.uvl_scope.specs.declared.scope.Scope.{Scope}
use Rattle.uvl_scope.specs.Brought.{has_root, with_root, scope_at, placed_scope}
use Rattle.uvl_scope.specs.Trees.{IsScopeOf, IsWithinLimits}
use Rattle.uvl_semantics.specs.Prefix.{prefixed}
use Rattle.uvl_semantics.specs.Tree.{Tree, feature, names_of, top_name}

-- a file has a tree, and the scope is of that
pub record Fits (tree : Option Tree) (scope : Scope) : Type 0 where
  pub there : Tree
  pub is : tree ≡ Some there
  pub of_tree : IsScopeOf there scope
  pub within : IsWithinLimits scope

-- the trees of files, and their scopes
pub record AllFit (trees : List (Option Tree)) (scopes : List Scope) : Type 0 where
  pub even : length trees ≡ length scopes
  pub each : (position : ℕ) (scope : Scope) → slice_get scopes position ≡ Some scope
      → (tree : Option Tree) × (slice_get trees position ≡ Some tree) × Fits tree scope

pub none_fit : AllFit [] []
none_fit = record { even = refl; each = λ position scope is. (cc is) }

-- a list with one more at its end
at_end : {A : Type 0} (xs : List A) (x : A) → slice_get (xs ++ x ∷ []) (length xs) ≡ Some x
at_end [] x = refl
at_end (y ∷ xs) x = at_end xs x

in_front : {A : Type 0} (xs : List A) (x y : A) (position : ℕ) → slice_get xs position ≡ Some y → slice_get (xs ++ x ∷ []) position ≡ Some y
in_front [] x y position is = (cc is)
in_front (z ∷ xs) x y zero is = is
in_front (z ∷ xs) x y (suc position) is = in_front xs x y position is

front_or_end : {A : Type 0} (xs : List A) (x y : A) (position : ℕ) → slice_get (xs ++ x ∷ []) position ≡ Some y
    → (slice_get xs position ≡ Some y) ⊎ ((position ≡ length xs) × (x ≡ y))
front_or_end [] x y zero is = inr (refl, (cc is))
front_or_end [] x y (suc position) is = (cc is)
front_or_end (z ∷ xs) x y zero is = inl is
front_or_end (z ∷ xs) x y (suc position) is =
    elim (front_or_end xs x y position is) [ inl h ↦ inl h | inr h ↦ inr (ap suc h.0, h.1) ]

pub one_more_fits : (trees : List (Option Tree)) (scopes : List Scope) (tree : Option Tree) (scope : Scope) → AllFit trees scopes → Fits tree scope
    → AllFit (trees ++ tree ∷ []) (scopes ++ scope ∷ [])
one_more_fits trees scopes tree scope fit fits = record {
  even = count trees scopes fit.even;
  each = λ position found is. by position found (front_or_end scopes scope found position is);
}
  where
    count : (ts : List (Option Tree)) (ss : List Scope) → length ts ≡ length ss → length (ts ++ tree ∷ []) ≡ length (ss ++ scope ∷ [])
    count [] [] h = refl
    count [] (s ∷ ss) h = absurd (omega (arith, h))
    count (t ∷ ts) [] h = absurd (omega (arith, h))
    count (t ∷ ts) (s ∷ ss) h = ap suc (count ts ss (omega (arith, h)))

    by : (position : ℕ) (found : Scope) → (slice_get scopes position ≡ Some found) ⊎ ((position ≡ length scopes) × (scope ≡ found))
        → (t : Option Tree) × (slice_get (trees ++ tree ∷ []) position ≡ Some t) × Fits t found
    by position found (inl h) =
        let here = fit.each position found h in
        (here.0, in_front trees tree here.0 position here.1, here.2)
    by position found (inr h) = (
      tree,
      ap (slice_get (trees ++ tree ∷ [])) (h.0 ∙ sym fit.even) ∙ at_end trees tree,
      subst (λ (s : Scope). Fits tree s) h.1 fits,
    )

-- the first name of a tree is that of its root
root_is : (name : List ℕ) (tree : Tree) → has_root name (names_of tree) ≡ bytes_eq (top_name tree) name
root_is name (feature head below) = refl

-- the tree of the file that a reference places, and its scope
pub record Places (trees : List (Option Tree)) (loaded : Loaded) (parts : List (List ℕ)) (scope : Scope) : Type 0 where
  pub tree : Tree
  pub is : tree_placed (imports_of trees loaded) parts ≡ Some (prefixed (dotted (front_of parts)) tree)
  pub of_tree : IsScopeOf tree scope
  pub within : IsWithinLimits scope

module _ (trees : List (Option Tree)) (scopes : List Scope) (loaded : Loaded) (fit : AllFit trees scopes) where
  module _ (part : List ℕ) (parts : List (List ℕ)) (scope : Scope) where
    abbrev all : List (List ℕ)
    all = part ∷ parts

    abbrev qualifier : List ℕ
    qualifier = dotted (front_of (part ∷ parts))

    abbrev name : List ℕ
    name = last_of (part ∷ parts)

    -- the tree where this file is called
    abbrev tree_at : Option ℕ → Option Tree
    tree_at target =
        option_map (prefixed qualifier) (option_and_then (tree_with_root name) (option_and_then (λ position. known (slice_get trees position)) target))

    by_root : (position : ℕ) (found : Scope) (root : Bool) → target_called qualifier loaded.file.imports loaded.targets ≡ Some position
        → slice_get scopes position ≡ Some found → has_root name found.names ≡ root → (if root then Some found else None) ≡ Some scope
        → Places trees loaded all scope
    by_root position found false called at is h = (cc h)
    by_root position found true called at is h =
        let here = fit.each position found at in
        let fits : Fits here.0 found = here.2 in
        let same : found ≡ scope = (cc h) in
        let rooted : bytes_eq (top_name fits.there) name ≡ true =
        sym (root_is name fits.there) ∙ ap (has_root name) (sym fits.of_tree.names) ∙ is in
        record {
          tree = fits.there;
          is = ap tree_at called
              ∙ ap (λ (o : Option (Option Tree)). option_map (prefixed qualifier) (option_and_then (tree_with_root name) (known o))) (here.1 ∙ ap (λ (t : Option Tree). Some t) fits.is)
              ∙ ap (λ (b : Bool). option_map (prefixed qualifier) (if b then Some fits.there else None)) rooted;
          of_tree = subst (λ (s : Scope). IsScopeOf fits.there s) same fits.of_tree;
          within = subst IsWithinLimits same fits.within;
        }

    by_scope : (position : ℕ) (found : Option Scope) → target_called qualifier loaded.file.imports loaded.targets ≡ Some position
        → slice_get scopes position ≡ found → with_root name found ≡ Some scope → Places trees loaded all scope
    by_scope position None called at h = (cc h)
    by_scope position (Some found) called at h = by_root position found (has_root name found.names) called at refl h

    by_target : (target : Option ℕ) → target_called qualifier loaded.file.imports loaded.targets ≡ target
        → with_root name (scope_at scopes target) ≡ Some scope → Places trees loaded all scope
    by_target None called h = (cc h)
    by_target (Some position) called h = by_scope position (slice_get scopes position) called refl h

  pub scope_places : (parts : List (List ℕ)) (scope : Scope) → placed_scope scopes loaded parts ≡ Some scope → Places trees loaded parts scope
  scope_places [] scope h = (cc h)
  scope_places (part ∷ parts) scope h =
      by_target part parts scope (target_called (dotted (front_of (part ∷ parts))) loaded.file.imports loaded.targets) refl h
