-- The bytes of a name are looked up.
use Rattle.std.proofs.Common.{None, Some, sym, ◌∙◌}
use Rattle.std.proofs.lemmas.Str.{encodes-chars}
use Rattle.uvl_script.proofs.Commands.{of_name, not_found}
use Rattle.uvl_script.proofs.command.command_of.Goals as goal

pub returns-in-Some : goal.returns-in-Some
returns-in-Some c = of_name _ c.args.name.now (Some c.in-Some.name) _ _ (encodes-chars c.args.name.now c.utf8.name) (sym c.in-Some.is ∙ c.command_named.ensures) c.command_with.ensures

pub returns-in-None : goal.returns-in-None
returns-in-None c = of_name _ c.args.name.now None _ _ (encodes-chars c.args.name.now c.utf8.name) (sym c.in-None.is ∙ c.command_named.ensures) (not_found _)
