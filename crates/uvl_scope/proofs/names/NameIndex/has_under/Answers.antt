-- The name with the number is one, or the search goes on.
use Rattle.std.proofs.Common.{ℕ, ◌<◌, ◌≤◌, sym, ap, ◌∙◌, subst, map}
use Rattle.std.specs.Prelude.{chars}
use Rattle.std.specs.List.{list_any}
use Rattle.std.proofs.lemmas.List.{drop_all}
use Rattle.uvl_semantics.specs.Prefix.{prefixed_name}
use Rattle.uvl_semantics.specs.Product.{has}
use Rattle.uvl_scope.proofs.NamesUnder.{found_here, found_later, any_either}
use Rattle.uvl_scope.proofs.names.NameIndex.has_under.Goals as goal

pub returns-then-is_under : goal.returns-then-is_under
returns-then-is_under c =
    let under = map (prefixed_name (chars c.args.qualifier.now)) c.args.names.now in
    found_here (has under) c.args.self.now (chars c.name.result.now) c.loop-number.number (list_any (has under) c.args.self.now)
    (subst (λ (n : ℕ). c.loop-number.number < n) c.len-number-end.ensures.count c.loop-number-test.true) c.name.ensures c.loop-number.invariant
    (sym c.is_under.ensures ∙ c.if-is_under.true)
    ∙ any_either c.args.self.now under

pub loop-number-preserved : goal.loop-number-preserved
loop-number-preserved c =
    let under = map (prefixed_name (chars c.args.qualifier.now)) c.args.names.now in
    found_later (has under) c.args.self.now (chars c.name.result.now) c.loop-number.number (list_any (has under) c.args.self.now)
    (subst (λ (n : ℕ). c.loop-number.number < n) c.len-number-end.ensures.count c.loop-number-test.true) c.name.ensures c.loop-number.invariant
    (sym c.is_under.ensures ∙ c.if-is_under.false)

pub returns : goal.returns
returns c =
    let under = map (prefixed_name (chars c.args.qualifier.now)) c.args.names.now in
    let past = subst (λ (n : ℕ). n ≤ c.loop-number.number) c.len-number-end.ensures.count c.loop-number-test.false in
    ap (list_any (has under)) (sym (drop_all c.loop-number.number c.args.self.now past)) ∙ c.loop-number.invariant ∙ any_either c.args.self.now under
