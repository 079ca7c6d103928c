-- The names are distinct by the type.
use Rattle.std.proofs.Common.{subst}
use Rattle.uvl_imports.specs.Texts.{AreDistinct}
use Rattle.uvl_scope.proofs.names.NameIndex.len.Goals as goal

pub returns-clause-distinct : goal.returns-clause-distinct
returns-clause-distinct c = subst AreDistinct c.self.view_is c.self.invariant
