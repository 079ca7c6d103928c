-- Each variable has its place.
use Rattle.std.proofs.Common.{◌<◌, length, arith}
use Rattle.std.proofs.lemmas.List.Elements.{All-get_or}
use Rattle.dd_store.specs.declared.row.Var.{Var}
use Rattle.dd_quant.proofs.dependence.seen_variables.Goals as goal

-- any variable
abbrev other : Var
other = record { 0 = 0 }

pub bounds-seen-var : goal.bounds-seen-var
bounds-seen-var c = All-get_or (λ (v : Var). v.0 < length c.args.seen.now) c.args.order.now c.loop-var.var-index other (omega arith) c.requires
