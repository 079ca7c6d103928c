-- How many members of a group are selected where its parent is, by the kind of the group (UVL).
use Rattle.std.specs.Prelude.{ℕ, ◌+◌, min, Some, None}
use Rattle.uvl_ast.specs.declared.feature.GroupKind.{GroupKind}
use Rattle.uvl_ast.specs.declared.feature.GroupKind.TheVariants.{Mandatory, Optional, Alternative, Or, Range}

-- the least number that is written, for a group of k members
abbrev pub least_written : GroupKind → ℕ → ℕ
least_written Mandatory k = k
least_written Optional k = 0
least_written Alternative k = 1
least_written Or k = 1
least_written (Range lo hi) k = lo

-- the greatest number that is written; `*` is the number of members
abbrev pub most_written : GroupKind → ℕ → ℕ
most_written Mandatory k = k
most_written Optional k = k
most_written Alternative k = 1
most_written Or k = k
most_written (Range lo None) k = k
most_written (Range lo (Some hi)) k = hi

-- the lower bound of the group: what is above k is k + 1, and then no set fits
abbrev pub least_of : GroupKind → ℕ → ℕ
least_of kind k = min (least_written kind k) (k + 1)

-- the upper bound: no more than k
abbrev pub most_of : GroupKind → ℕ → ℕ
most_of kind k = min (most_written kind k) k
