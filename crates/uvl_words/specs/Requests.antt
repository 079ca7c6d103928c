-- What a request of the program is by the definition.
use Rattle.std.specs.Prelude.{◌≤◌}
use Rattle.uvl_words.specs.declared.command_line.Request.{Request}
use Rattle.uvl_words.specs.declared.command_line.Request.TheVariants.{Model}
use Rattle.uvl_words.specs.Budgets.{least_budget, most_budget}
use Rattle.uvl_words.specs.CommandLine as asking

-- the request, its path as a list of bytes
abbrev pub value_of : Request → asking.Request
value_of (Model path budget) = asking.for_model path.now budget

-- its budget is one that the table may have
abbrev pub HasBudgetInRange : Request → Type 0
HasBudgetInRange (Model path budget) = (least_budget ≤ budget) × (budget ≤ most_budget)
