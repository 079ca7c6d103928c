-- What is marked of nodes, in turns: what was marked in an earlier turn counts no more.
use Rattle.std.specs.Prelude.{ℕ, ◌<◌, ◌≤◌, Bool, ◌==◌, if◌then◌else◌, List, map, Option, Some, None, slice_index_or}
use Rattle.std.specs.List.{All}
use Rattle.dd_quant.specs.declared.marks.Mark.{Mark}

-- what a mark says in a turn
abbrev pub said_in : ℕ → Mark → Option Bool
said_in turn m = if m.turn == turn then Some m.is_possible else None

-- what all marks say in a turn
abbrev pub marked_in : ℕ → List Mark → List (Option Bool)
marked_in turn marks = map (said_in turn) marks

-- what is marked of a node
abbrev pub found_of : List (Option Bool) → ℕ → Option Bool
found_of marks n = slice_index_or marks n None

-- no mark is of a later turn, and none is of the first
pub record AreMarks (turn : ℕ) (marks : List Mark) : Type 0 where
  pub some : 0 < turn
  pub past : All (λ m. m.turn ≤ turn) marks
