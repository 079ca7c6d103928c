-- Why a call is refused, by groups of functions that are wanted at a time.
use Rattle.std.specs.Prelude.{List}
use Rattle.dd_store.specs.declared.refusal.Refusal.{Refusal}
use Rattle.dd_store.specs.declared.refusal.Refusal.TheVariants.{OverBudget, OutOfMemory}
use Rattle.dd_store.specs.Exhausted.{HasHeld}
use Rattle.dd_store.specs.Short.{IsShort}
use Rattle.dd_store.specs.Size.{Function}
use Rattle.dd_store.specs.Table.{Table}

-- The budget is too small for one of the groups, beside any list that has the values of the live handles. Want of memory
-- has no cause.
abbrev pub IsShortFor : Table → List (List Function) → Refusal → Type 0
IsShortFor t groups (OverBudget nodes roots) = (held : List Function) → HasHeld t held → IsShort t.order t.budget held groups
IsShortFor t groups OutOfMemory = Unit {0}
