-- Which set of features marks stand for.
use Rattle.std.specs.Prelude.{◌≡◌, ℕ, Bool, true, List, Some, slice_get}
use Rattle.std.specs.List.{list_all}
use Rattle.uvl_model.specs.Check.{is_marked}
use Rattle.uvl_model.specs.Spelling.{numbered}
use Rattle.uvl_semantics.specs.Product.{has}

-- A mark for each of the named features stands for a set of names: the set has only names of features,
-- and a feature is marked exactly where its name is in the set.
pub record StandFor (names : List (List ℕ)) (marks : List Bool) (set : List (List ℕ)) : Type 0 where
  pub named : list_all (has names) set ≡ true
  pub marked : (n : ℕ) (name : List ℕ) → slice_get names n ≡ Some name → is_marked marks (numbered n) ≡ has set name
