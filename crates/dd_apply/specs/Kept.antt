-- The pairs in a cache.
use Rattle.std.specs.Prelude.{List, [], ◌∷◌, Option, Some, None}
use Rattle.lru.specs.LruCache.{LruCache}
use Rattle.dd_store.specs.declared.row.NodeNo.{NodeNo}
use Rattle.dd_apply.specs.declared.question.Question.{Question}
use Rattle.dd_apply.specs.declared.results.places.Kept.{Kept}

-- the pairs of question and answer that a cache holds; none where it isn't made yet
abbrev pub entries_of : Option (LruCache Question NodeNo) → List (Question × NodeNo)
entries_of None = []
entries_of (Some cache) = cache.entries

-- the pairs in places, of which each may be empty
abbrev pub pairs_in : List (Option Kept) → List (Question × NodeNo)
pairs_in [] = []
pairs_in (None ∷ rest) = pairs_in rest
pairs_in (Some k ∷ rest) = (k.question, k.answer) ∷ pairs_in rest
