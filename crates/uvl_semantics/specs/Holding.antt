-- Whether a constraint holds in a set of features of a tree (UVL).
use Rattle.std.specs.Prelude.{ℕ, ℤ, Bool, not, ◌&&◌, ◌||◌, List, int_lt, int_le}
use Rattle.std.specs.Bool.{beq}
use Rattle.uvl_semantics.specs.Constraint.{Constraint, Comparison, equal, differs, less, at_most, greater, at_least}
use Rattle.uvl_semantics.specs.Constraint.{selected, negation, conjunction, disjunction, implication, equivalence, comparison}
use Rattle.uvl_semantics.specs.Product.{has}
use Rattle.uvl_semantics.specs.Tree.{Tree}
use Rattle.uvl_semantics.specs.Values.{Heads, heads_in, value_by}

-- whether two numbers compare so
abbrev pub compares : Comparison → ℤ → ℤ → Bool
compares equal m n = int_le m n && int_le n m
compares differs m n = not (int_le m n && int_le n m)
compares less m n = int_lt m n
compares at_most m n = int_le m n
compares greater m n = int_lt n m
compares at_least m n = int_le n m

-- A feature holds where it is selected, operators are read as usual, and a comparison compares two numbers.
abbrev pub holds_by : Heads → Constraint → List (List ℕ) → Bool
holds_by heads (selected name) set = has set name
holds_by heads (negation operand) set = not (holds_by heads operand set)
holds_by heads (conjunction left right) set = holds_by heads left set && holds_by heads right set
holds_by heads (disjunction left right) set = holds_by heads left set || holds_by heads right set
holds_by heads (implication left right) set = not (holds_by heads left set) || holds_by heads right set
holds_by heads (equivalence left right) set = beq (holds_by heads left set) (holds_by heads right set)
holds_by heads (comparison how left right) set = compares how (value_by heads left set) (value_by heads right set)

-- whether a constraint holds in a set of features of a tree
abbrev pub holds : Tree → Constraint → List (List ℕ) → Bool
holds tree = holds_by (heads_in tree)
