-- What the imports of the files of a set unfold to, and in which order, while the set grows.
use Rattle.std.proofs.Common.{◌≡◌, ◌⊎◌, inl, inr, ℕ, ◌+◌, ◌<◌, ◌≤◌, List, [], ◌∷◌, ◌++◌, append_assoc, length, length-append, slice_get, Some, refl, sym, subst, arith}
use Rattle.std.specs.Prelude.{⊤}
use Rattle.uvl_imports.specs.declared.file_set.Loaded.{Loaded}
use Rattle.uvl_imports.specs.Order.{Unfolds, No_file, Behind_its_imports, CountsUp}
use Rattle.uvl_imports.proofs.Places.{get-front, get-last, below_or_from}

-- numbers below a limit
abbrev pub AreBelow : ℕ → List ℕ → Type 0
AreBelow limit [] = ⊤
AreBelow limit (x ∷ xs) = (x < limit) × AreBelow limit xs

below-more : (m n : ℕ) (xs : List ℕ) → m ≤ n → AreBelow m xs → AreBelow n xs
below-more m n [] le below = tt
below-more m n (x ∷ xs) le below = (omega (arith, le, below.0), below-more m n xs le below.1)

-- they count up to the limit from it
below-counts : (n : ℕ) (xs : List ℕ) → AreBelow n xs → CountsUp n xs n
below-counts n [] below = refl
below-counts n (x ∷ xs) below = inl (below.0, below-counts n xs below.1)

counts-append : (c d e : ℕ) (xs ys : List ℕ) → CountsUp c xs d → CountsUp d ys e → CountsUp c (xs ++ ys) e
counts-append c d e [] ys first next = let P : ℕ → Type 0 = λ n. CountsUp n ys e in subst P (sym first) next
counts-append c d e (x ∷ xs) ys (inl old) next = inl (old.0, counts-append c d e xs ys old.1 next)
counts-append c d e (x ∷ xs) ys (inr new) next = inr (new.0, counts-append (c + 1) d e xs ys new.1 next)

counts-grow : (c d : ℕ) (xs : List ℕ) → CountsUp c xs d → c ≤ d
counts-grow c d [] counts = omega (arith, counts)
counts-grow c d (x ∷ xs) (inl old) = counts-grow c d xs old.1
counts-grow c d (x ∷ xs) (inr new) = let le = counts-grow (c + 1) d xs new.1 in omega (arith, le)

counts-below : (c d : ℕ) (xs : List ℕ) → CountsUp c xs d → AreBelow d xs
counts-below c d [] counts = tt
counts-below c d (x ∷ xs) (inl old) = let le = counts-grow c d xs old.1 in (omega (arith, le, old.0), counts-below c d xs old.1)
counts-below c d (x ∷ xs) (inr new) = let le = counts-grow (c + 1) d xs new.1 in (omega (arith, le, new.0), counts-below (c + 1) d xs new.1)

unfolds-front : (files more : List Loaded) {ps xs : List ℕ} → Unfolds files ps xs → Unfolds (files ++ more) ps xs
unfolds-front files more No_file = No_file
unfolds-front files more (Behind_its_imports {position} {positions} {below} {behind} loaded at under after) =
    Behind_its_imports loaded (get-front files more loaded position at) (unfolds-front files more under) (unfolds-front files more after)

unfolds-append : (files : List Loaded) {ps qs xs ys : List ℕ} → Unfolds files ps xs → Unfolds files qs ys → Unfolds files (ps ++ qs) (xs ++ ys)
unfolds-append files No_file next = next
unfolds-append files {ps} {qs} {xs} {ys} (Behind_its_imports {position} {positions} {below} {behind} loaded at under after) next =
    let P : List ℕ → Type 0 = λ zs. Unfolds files (position ∷ positions ++ qs) zs in
    subst P (sym (append_assoc below (position ∷ behind) ys)) (Behind_its_imports loaded at under (unfolds-append files after next))

-- a file that is loaded unfolds to files that are
pub record HasUnfolded (files : List Loaded) (position : ℕ) : Type 0 where
  pub list : List ℕ
  pub unfolds : Unfolds files (position ∷ []) list
  pub below : AreBelow (length files) list

-- files unfold to a list in which those behind the old ones come first in their order
pub record Ends (old files : List Loaded) (positions : List ℕ) : Type 0 where
  pub list : List ℕ
  pub unfolds : Unfolds files positions list
  pub counts : CountsUp (length old) list (length files)

pub ends-nothing : (files : List Loaded) → Ends files files []
ends-nothing files = record { list = []; unfolds = No_file; counts = refl }

pub ends-known : (files : List Loaded) (position : ℕ) → HasUnfolded files position → Ends files files (position ∷ [])
ends-known files position has = record { list = has.list; unfolds = has.unfolds; counts = below-counts (length files) has.list has.below }

pub ends-more : (old files more : List Loaded) (positions others : List ℕ) → Ends old files positions → Ends files (files ++ more) others → Ends old (files ++ more) (positions ++ others)
ends-more old files more positions others first next = record {
  list = first.list ++ next.list;
  unfolds = unfolds-append (files ++ more) (unfolds-front files more first.unfolds) next.unfolds;
  counts = counts-append (length old) (length files) (length (files ++ more)) first.list next.list first.counts next.counts;
}

module _ (old files : List Loaded) (loaded : Loaded) (ends : Ends old files loaded.targets) where
  pub ends-file : Ends old (files ++ loaded ∷ []) (length files ∷ [])
  ends-file = record {
    list = ends.list ++ length files ∷ [];
    unfolds = Behind_its_imports loaded (get-last files loaded) (unfolds-front files (loaded ∷ []) ends.unfolds) No_file;
    counts = counts-append (length old) (length files) (length (files ++ loaded ∷ [])) ends.list (length files ∷ []) ends.counts (inr (refl, sym (length-append files (loaded ∷ []))));
  }

  -- and each file has what it unfolds to
  pub unfolded-file : ((n : ℕ) → n < length files → HasUnfolded files n) → (n : ℕ) → n < length (files ++ loaded ∷ []) → HasUnfolded (files ++ loaded ∷ []) n
  unfolded-file each n inside = elim (below_or_from n (length files)) [
    | inl below ↦
        let has = each n below in
        record {
          list = has.list;
          unfolds = unfolds-front files (loaded ∷ []) has.unfolds;
          below = below-more (length files) (length (files ++ loaded ∷ [])) has.list (omega (arith, length-append files (loaded ∷ []))) has.below;
        }
    | inr from ↦
        let last : length files ≡ n = omega (arith, from, inside, length-append files (loaded ∷ [])) in
        let P : ℕ → Type 0 = λ m. HasUnfolded (files ++ loaded ∷ []) m in
        subst P last (record {
          list = ends-file.list;
          unfolds = ends-file.unfolds;
          below = counts-below (length old) (length (files ++ loaded ∷ [])) ends-file.list ends-file.counts;
        })
  ]
