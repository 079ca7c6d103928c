-- The place of the first LF tells the first line.
use Rattle.uvl_lines.proofs.FirstLine.{has_lf-none, BeginsWithLine-place}
use Rattle.uvl_lines.proofs.first_line.split_line.Goals as goal

pub returns-in-None : goal.returns-in-None
returns-in-None c = has_lf-none _ c.in-None.ensures

pub returns-in-Some : goal.returns-in-Some
returns-in-Some c = BeginsWithLine-place _ _ c.in-Some.ensures
