-- The conditions of a model on the features beside the root, and what a diagram says that has met some of them.
use Rattle.std.specs.Prelude.{ℕ, Bool, true, ◌&&◌, List, [], ◌∷◌, ◌++◌, map, slice_index_or, if◌then◌else◌}
use Rattle.dd_store.specs.declared.row.Var.{Var}
use Rattle.dd_store.specs.Size.{Function}
use Rattle.uvl_model.specs.Rows.{Rows}
use Rattle.uvl_functions.specs.Functions.{group_function, rule_function, root_function}

-- what each group says, and behind them what each rule says
abbrev pub conditions : List Var → Rows → List Function
conditions vars rows = map (group_function vars) rows.groups ++ map (rule_function vars rows.features) rows.rules

-- the condition with a number
abbrev pub condition_at : List Var → Rows → ℕ → Function
condition_at vars rows number = slice_index_or (conditions vars rows) number (λ a. true)

-- the marked ones of some functions are true
abbrev pub marked_hold : List Function → List Bool → Function
marked_hold [] marks a = true
marked_hold (f ∷ fs) [] a = true
marked_hold (f ∷ fs) (mark ∷ marks) a = (if mark then f a else true) && marked_hold fs marks a

-- the root is chosen, and the marked conditions hold
abbrev pub so_far : List Var → Rows → List Bool → Function
so_far vars rows done a = root_function vars a && marked_hold (conditions vars rows) done a

-- two functions are true
abbrev pub both : Function → Function → Function
both f g a = f a && g a
