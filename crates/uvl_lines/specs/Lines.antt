-- How the bytes of a script are cut into lines. This project's own.
use Rattle.std.specs.Prelude.{◌≡◌, ℕ, Bool, false, ◌==◌, ⊤, List, [], ◌∷◌, ◌++◌, if◌then◌else◌}
use Rattle.std.specs.List.{list_any}

-- The lines that end within the bytes, where the first of them has begun with some bytes already. A line ends with
-- LF, which is no part of it.
abbrev pub ended_lines_from : List ℕ → List ℕ → List (List ℕ)
ended_lines_from begun [] = []
ended_lines_from begun (b ∷ bs) =
    if b == 10 then begun ∷ ended_lines_from [] bs else ended_lines_from (begun ++ b ∷ []) bs

-- the bytes behind the last LF, where the first line has begun with some bytes already
abbrev pub open_line_from : List ℕ → List ℕ → List ℕ
open_line_from begun [] = begun
open_line_from begun (b ∷ bs) = if b == 10 then open_line_from [] bs else open_line_from (begun ++ b ∷ []) bs

-- whether there is an LF among the bytes
abbrev pub has_lf : List ℕ → Bool
has_lf bytes = list_any (λ b. b == 10) bytes

-- lines, each followed by LF, and then bytes
abbrev pub joined : List (List ℕ) → List ℕ → List ℕ
joined [] bytes = bytes
joined (line ∷ lines) bytes = line ++ 10 ∷ joined lines bytes

-- none of the lines holds an LF
abbrev pub AreLines : List (List ℕ) → Type 0
AreLines [] = ⊤
AreLines (line ∷ lines) = (has_lf line ≡ false) × AreLines lines

-- The bytes are the lines, each followed by LF, and then a line that isn't ended, and none of them holds an LF.
pub record IsCut (bytes : List ℕ) (lines : List (List ℕ)) (unended : List ℕ) : Type 0 where
  pub spelled : bytes ≡ joined lines unended
  pub whole : AreLines lines
  pub begun : has_lf unended ≡ false

-- the lines that end within the bytes
abbrev pub ended_lines : List ℕ → List (List ℕ)
ended_lines bytes = ended_lines_from [] bytes

-- the bytes behind the last LF
abbrev pub open_line : List ℕ → List ℕ
open_line bytes = open_line_from [] bytes

-- bytes behind the last LF are a line where there are any
abbrev pub last_line : List ℕ → List (List ℕ)
last_line [] = []
last_line (b ∷ bs) = (b ∷ bs) ∷ []

-- all lines of a script
abbrev pub script_lines : List ℕ → List (List ℕ)
script_lines bytes = ended_lines bytes ++ last_line (open_line bytes)
