-- The values are those of the literals so far.
use Rattle.std.proofs.Common.{◌≡◌, ◌↔◌, ℕ, Bool, length, take}
use Rattle.dd_quant.specs.Possible.{Agrees}
use Rattle.dd_quant.specs.steps.Given.{Meets}
use Rattle.dd_quant.proofs.given.given_values.Given as goal

abbrev pub invariant-loop-literal : goal.invariant-loop-literal
invariant-loop-literal l = record {
  number : length l.values.items ≡ l.variables;
  agree : (a : ℕ → Bool) → Agrees (take l.literal-index l.given) a ↔ Meets l.values.items a;
}
