-- What holds of all scripts.
use Rattle.std.specs.Prelude.{◌≡◌, ℕ, List}
use Rattle.uvl_lines.specs.Lines.{IsCut, ended_lines, open_line}

-- the ended lines of any bytes and the line that they leave open are a cut of them
abbrev pub EachScriptHasACut : Type 0
EachScriptHasACut = (bytes : List ℕ) → IsCut bytes (ended_lines bytes) (open_line bytes)

-- there is no other cut
abbrev pub CutsAreEqual : Type 0
CutsAreEqual =
    (bytes : List ℕ) (lines : List (List ℕ)) (unended : List ℕ) → IsCut bytes lines unended
    → (lines ≡ ended_lines bytes) × (unended ≡ open_line bytes)
