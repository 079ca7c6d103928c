-- What a command may be answered, and which commands fetch files: one row for each command. What is said of it stands
-- in the file of its group of commands.
use Rattle.std.specs.Prelude.{ℕ, List}
use Rattle.uvl_script.specs.declared.command.Command.{Command}
use Rattle.uvl_script.specs.declared.command.Command.TheVariants.{Valid, Void, Dead, Core, FalseOpt}
use Rattle.uvl_run.specs.Products.{RepliesToValid, RepliesToVoid, RepliesToDead, RepliesToCore, RepliesToFalseOpt}
use Rattle.uvl_run.specs.State.{State}

-- the state in front of a command, the command, the text of the reply and the state behind it
abbrev pub Reply : State → Command → List ℕ → State → Type 0
Reply s (Valid names) text t = RepliesToValid s names text t
Reply s Void text t = RepliesToVoid s text t
Reply s Dead text t = RepliesToDead s text t
Reply s Core text t = RepliesToCore s text t
Reply s FalseOpt text t = RepliesToFalseOpt s text t

-- the command fetches a file in this state; none does today
abbrev pub Fetches : State → Command → Type 0
Fetches s (Valid names) = ⊥
Fetches s Void = ⊥
Fetches s Dead = ⊥
Fetches s Core = ⊥
Fetches s FalseOpt = ⊥
