-- One literal more.
use Rattle.std.proofs.Common.{◌↔◌, ◌∙◌, ◌<◌, false, List, length, get_or, Some, None, sym, subst, arith}
use Rattle.std.proofs.lemmas.Bool.{true≢false}
use Rattle.std.proofs.lemmas.List.{get_or_default, get_or_read, length-set, take_all}
use Rattle.std.proofs.lemmas.List.Elements.{All-get_or}
use Rattle.dd_quant.specs.declared.literal.Literal.{Literal}
use Rattle.dd_quant.specs.Possible.{Agrees}
use Rattle.dd_quant.specs.steps.Given.{Meets}
use Rattle.dd_quant.proofs.GivenLemmas.{given-more, given-against}
use Rattle.dd_quant.proofs.given.given_values.Goals as goal

-- any literal
abbrev other : Literal
other = record { var = record { 0 = 0 }; value = false }

pub returns-then-contradicts : goal.returns-then-contradicts
returns-then-contradicts c =
    let given = c.args.given.now in
    let i = c.loop-literal.literal-index in
    let values = c.loop-literal.values.items in
    let l = get_or given i other in
    let room : l.var.0 < length values = (let below = All-get_or (λ (k : Literal). k.var.0 < c.args.variables) given i other (omega arith) c.requires in let number = c.loop-literal.invariant.number in omega arith) in
    given-against given i l values (omega arith) (get_or_default given i other l (omega arith))
    (sym (get_or_read values l.var.0 c.index.result.now room c.index.ensures None) ∙ c.contradicts.ensures.0 c.if-contradicts.true) c.loop-literal.invariant.agree

pub loop-literal-preserved : goal.loop-literal-preserved
loop-literal-preserved c =
    let given = c.args.given.now in
    let i = c.loop-literal.literal-index in
    let values = c.loop-literal.values.items in
    let l = get_or given i other in
    let room : l.var.0 < length values = (let below = All-get_or (λ (k : Literal). k.var.0 < c.args.variables) given i other (omega arith) c.requires in let number = c.loop-literal.invariant.number in omega arith) in
    record {
      number = length-set values l.var.0 (Some l.value) ∙ c.loop-literal.invariant.number;
      agree = given-more given i l values (omega arith) (get_or_default given i other l (omega arith)) room
          (λ at. true≢false (sym (c.contradicts.ensures.1 (get_or_read values l.var.0 c.index.result.now room c.index.ensures None ∙ at)) ∙ c.if-contradicts.false))
          c.loop-literal.invariant.agree;
    }

pub returns : goal.returns
returns c = record {
  number = c.loop-literal.invariant.number;
  agree = λ a. subst (λ (ls : List Literal). Agrees ls a ↔ Meets c.loop-literal.values.items a) (take_all c.loop-literal.literal-index c.args.given.now (omega arith)) (c.loop-literal.invariant.agree a);
}
