-- A name is that of its arm, whose function says the rest.
use Rattle.uvl_script.specs.declared.command.Command.TheVariants.{Valid}
use Rattle.uvl_script.proofs.Commands.{of_called, no_room}
use Rattle.uvl_script.proofs.command.command_with.Goals as goal

pub returns-in_err-any_names-in-Valid : goal.returns-in_err-any_names-in-Valid
returns-in_err-any_names-in-Valid c =
    of_called _ _ _ _ c.in-Valid.is (no_room Valid _ _ _ c.from_residual.ensures.1 c.in_err-any_names-in-Valid.ensures.memory)

pub returns-in-Void : goal.returns-in-Void
returns-in-Void c = of_called _ _ _ _ c.in-Void.is c.without_words.ensures

pub returns-in-Dead : goal.returns-in-Dead
returns-in-Dead c = of_called _ _ _ _ c.in-Dead.is c.without_words-in-Dead.ensures

pub returns-in-Core : goal.returns-in-Core
returns-in-Core c = of_called _ _ _ _ c.in-Core.is c.without_words-in-Core.ensures

pub returns-in-FalseOpt : goal.returns-in-FalseOpt
returns-in-FalseOpt c = of_called _ _ _ _ c.in-FalseOpt.is c.without_words-in-FalseOpt.ensures
