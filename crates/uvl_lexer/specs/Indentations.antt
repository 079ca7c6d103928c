-- The indentations that are open at a place, the innermost first. 0 is always open, and never in the list.
use Rattle.std.specs.Prelude.{ℕ, Bool, ◌||◌, ◌==◌, nat_lt, if◌then◌else◌, List, [], ◌∷◌, drop}
use Rattle.std.specs.List.{prefix_len}

-- the innermost open indentation
abbrev pub innermost : List ℕ → ℕ
innermost [] = 0
innermost (l ∷ ls) = l

-- how many open indentations a line closes: those that are larger than its own
abbrev pub closed_by : ℕ → List ℕ → ℕ
closed_by indentation indentations = prefix_len (λ l. nat_lt indentation l) indentations

-- the indentations that it leaves open
abbrev pub kept_by : ℕ → List ℕ → List ℕ
kept_by indentation indentations = drop (closed_by indentation indentations) indentations

-- a line that is indented further opens its indentation
abbrev pub is_deeper : ℕ → List ℕ → Bool
is_deeper indentation indentations = nat_lt (innermost indentations) indentation

-- another has to meet an open one
abbrev pub is_aligned : ℕ → List ℕ → Bool
is_aligned indentation indentations =
    is_deeper indentation indentations || innermost (kept_by indentation indentations) == indentation

-- the indentations that are open behind the first token of a line
abbrev pub indentations_behind : ℕ → List ℕ → List ℕ
indentations_behind indentation indentations =
    if is_deeper indentation indentations then indentation ∷ indentations else kept_by indentation indentations
