use Rattle.std.proofs.Common.{sym}
use Rattle.uvl_parser.proofs.Keeping.{braces_begun}
use Rattle.uvl_parser.proofs.entries.braces.Goals as goal

pub returns-in_ok-rest : goal.returns-in_ok-rest
returns-in_ok-rest c = rw (braces_begun _ _ _ (sym c.if-begins_with.ensures) c.in_ok-rest.ensures) c.closed_entries.ensures
