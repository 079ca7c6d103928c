-- In which order the files of a set stand. This project's own.
use Rattle.std.specs.Prelude.{◌≡◌, ◌⊎◌, ℕ, ◌+◌, ◌-◌, ◌<◌, List, [], ◌∷◌, ◌++◌, Some, length, slice_get}
use Rattle.uvl_imports.specs.declared.file_set.Loaded.{Loaded}

-- The imports of the files at these positions, unfolded: for each of the files, what those that it imports unfold to,
-- and then the file.
pub data Unfolds (files : List Loaded) : List ℕ → List ℕ → Type 0 where
  No_file : Unfolds files [] []
  Behind_its_imports : {position : ℕ} {positions below behind : List ℕ} (loaded : Loaded)
      → slice_get files position ≡ Some loaded → Unfolds files loaded.targets below → Unfolds files positions behind
      → Unfolds files (position ∷ positions) (below ++ position ∷ behind)

-- Each number of the list is less than the next, or is the next, which then is one more; it ends with this one as the
-- next. So the numbers from the first next on come first in their order.
abbrev pub CountsUp : ℕ → List ℕ → ℕ → Type 0
CountsUp next [] end = next ≡ end
CountsUp next (number ∷ numbers) end =
    ((number < next) × CountsUp next numbers end) ⊎ ((number ≡ next) × CountsUp (next + 1) numbers end)

-- The files stand in the order in which they come first where the imports of the main file, the last of them, are
-- unfolded.
pub record StandInOrder (files : List Loaded) : Type 0 where
  pub unfolded : List ℕ
  pub unfolds : Unfolds files ((length files - 1) ∷ []) unfolded
  pub counts_up : CountsUp 0 unfolded (length files)
