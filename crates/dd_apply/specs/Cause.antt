-- Why an operation is refused.
use Rattle.std.specs.Prelude.{◌+◌, ◌*◌, length}
use Rattle.dd_store.specs.declared.refusal.Refusal.{Refusal}
use Rattle.dd_store.specs.declared.refusal.Refusal.TheVariants.{OverBudget, OutOfMemory}
use Rattle.dd_store.specs.Exhausted.{IsExhausted}
use Rattle.dd_store.specs.Size.{Function}
use Rattle.dd_store.specs.Table.{Table}

-- The table has no room for the function that was asked for, beside what is held and at most two partial results for
-- each level. Want of memory has no cause.
abbrev pub IsCause : Table → Table → Function → Refusal → Type 0
IsCause old new f (OverBudget nodes roots) = IsExhausted old new f (2 * (length old.order + 1)) nodes roots
IsCause old new f OutOfMemory = Unit {0}
