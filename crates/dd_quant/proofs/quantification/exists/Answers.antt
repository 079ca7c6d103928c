-- One variable more.
use Rattle.std.proofs.Common.{◌∙◌, get_or, ap, sym, arith}
use Rattle.std.proofs.lemmas.List.{get_or_default, take_all}
use Rattle.std.proofs.lemmas.Result.{err_from_is_err_and}
use Rattle.dd_store.specs.declared.row.Var.{Var}
use Rattle.dd_store.specs.Exhausted.{value_at}
use Rattle.dd_store.proofs.ChangeLemmas.{keeps_then}
use Rattle.dd_store.proofs.CountLemmas.{live_gained}
use Rattle.dd_quant.specs.Exists.{without}
use Rattle.dd_quant.proofs.ExistsLemmas.{exists-more, exists-told, gained-next, short-next}
use Rattle.dd_quant.proofs.quantification.exists.Goals as goal

-- any variable
abbrev other : Var
other = record { 0 = 0 }

pub returns-in_err-so_far-2-clause-keeps : goal.returns-in_err-so_far-2-clause-keeps
returns-in_err-so_far-2-clause-keeps c = keeps_then c.loop-var.invariant.keeps c.in_err-so_far-2.ensures.keeps (λ n before after. live_gained c.loop-var.invariant.gained n before)

pub returns-in_err-so_far-2-clause-cause : goal.returns-in_err-so_far-2-clause-cause
returns-in_err-so_far-2-clause-cause c =
    let t = c.args.kernel.now in
    let vs = c.args.vars.now in
    let i = c.loop-var.var-index in
    let v = get_or vs i other in
    let before = c.loop-var.invariant in
    let p = err_from_is_err_and c.from_residual-in_err-so_far-2.result c.from_residual-in_err-so_far-2.ensures.1 in
    rw (p.1, p.2)
    (short-next t c.loop-var.kernel c.loop-var.so_far vs i v (value_at t c.args.f.now) c.in_err-so_far-2.field-0.0 (omega arith) (get_or_default vs i other v (omega arith)) before.keeps before.gained before.value
    c.in_err-so_far-2.ensures.cause)

pub loop-var-preserved : goal.loop-var-preserved
loop-var-preserved c =
    let t = c.args.kernel.now in
    let vs = c.args.vars.now in
    let i = c.loop-var.var-index in
    let v = get_or vs i other in
    let before = c.loop-var.invariant in
    record {
      value = c.in_ok-so_far-2.ensures.value ∙ ap (without v.0) before.value ∙ sym (exists-more vs i v (value_at t c.args.f.now) (omega arith) (get_or_default vs i other v (omega arith)));
      gained = gained-next t c.loop-var.kernel c.without_next.new.kernel c.loop-var.so_far c.in_ok-so_far-2.so_far before.gained c.in_ok-so_far-2.ensures.replaced;
      keeps = keeps_then before.keeps c.in_ok-so_far-2.ensures.keeps (λ n first last. live_gained before.gained n first);
    }

pub returns-clause-some : goal.returns-clause-some
returns-clause-some c =
    exists-told c.loop-var.kernel c.loop-var.so_far _ c.args.vars.now (value_at c.args.kernel.now c.args.f.now) (take_all c.loop-var.var-index c.args.vars.now (omega arith)) c.loop-var.invariant.value
