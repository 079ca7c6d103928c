-- What is kept of a line that has begun in an earlier piece.
use Rattle.std.specs.Prelude.{ℕ, ◌+◌, List, take}
use Rattle.uvl_base.specs.Limits.{most_line_bytes}

-- how many bytes of a line are kept while it hasn't ended: two more than a line may have, one of them a CR
abbrev pub most_kept_bytes : ℕ
most_kept_bytes = most_line_bytes + 2

-- as much of a line as tells what it is read as: a line that goes on behind it is too long
unfoldable pub kept : List ℕ → List ℕ
kept line = take most_kept_bytes line
