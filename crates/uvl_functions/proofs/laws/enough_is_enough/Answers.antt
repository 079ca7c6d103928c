-- No group has more functions than the bound on right operands allows.
use Rattle.std.proofs.Common.{length}
use Rattle.dd_store.proofs.SizeLemmas.{in_from}
use Rattle.uvl_functions.specs.Groups.{compile_groups}
use Rattle.uvl_functions.proofs.Few.{few-in, few-all, below-enough}
use Rattle.uvl_functions.proofs.laws.enough_is_enough.Goals as goal

pub returns : goal.returns
returns c order vars rows budget held sound few short =
    let (k, group, inside, at, over) = c.short_budgets.ensures.bounded order budget held (compile_groups vars rows) short in
    let small = few-in 524 (compile_groups vars rows) group (few-all vars rows sound.rules) (in_from group (compile_groups vars rows) (k, inside, at)) in
    below-enough (length order) (length held) (length group) budget few small over
