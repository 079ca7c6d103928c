-- A set of a family is found where the names that it marks are one.
use Rattle.uvl_semantics.proofs.NoProduct.{is_void-exactly, is_void-none}
use Rattle.uvl_semantics.proofs.laws.void_families_have_no_set.Goals as goal

pub returns-clause-exact : goal.returns-clause-exact
returns-clause-exact c = is_void-exactly

pub returns-clause-marks : goal.returns-clause-marks
returns-clause-marks c = is_void-none
