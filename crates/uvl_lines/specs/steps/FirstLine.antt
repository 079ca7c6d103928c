-- The first line of some bytes.
use Rattle.std.specs.Prelude.{◌≡◌, ℕ, false, List, ◌∷◌, ◌++◌}
use Rattle.uvl_lines.specs.Lines.{has_lf}

-- the bytes begin with a line and the LF that ends it
pub record BeginsWithLine (bytes line rest : List ℕ) : Type 0 where
  pub spelled : bytes ≡ line ++ 10 ∷ rest
  pub one_line : has_lf line ≡ false
