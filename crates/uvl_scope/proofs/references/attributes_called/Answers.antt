-- The attributes at the place of a name are those beside it.
use Rattle.std.proofs.Common.{◌≡◌, Some, None, slice_get, sym, ap, ◌∙◌}
use Rattle.std.specs.Prelude.{chars}
use Rattle.std.specs.Option.{option_and_then, option_map}
use Rattle.uvl_scope.proofs.Offering.{among_at}
use Rattle.uvl_scope.proofs.references.attributes_called.Goals as goal

pub returns-in_err-number : goal.returns-in_err-number
returns-in_err-number c =
    let none : c.find.result ≡ None = c.in_err-number.was in
    ap (λ found. option_map (λ list. list.now) found) c.from_residual.ensures
    ∙ ap (option_and_then (slice_get c.args.attributes.now)) (sym none)
    ∙ among_at (chars c.args.name.now) c.args.names.now c.args.attributes.now c.find.result c.find.ensures.number

pub returns : goal.returns
returns c =
    let some : c.find.result ≡ Some c.in_ok-number.number = c.in_ok-number.was in
    c.get.ensures ∙ ap (option_and_then (slice_get c.args.attributes.now)) (sym some)
    ∙ among_at (chars c.args.name.now) c.args.names.now c.args.attributes.now c.find.result c.find.ensures.number
