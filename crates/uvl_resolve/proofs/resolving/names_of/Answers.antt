-- Each name is new.
use Rattle.std.proofs.Common.{◌+◌, [], List, ℕ, map, take, length, sym, ap, ◌∙◌, arith}
use Rattle.std.specs.Str.{chars}
use Rattle.std.proofs.lemmas.List.{length-map}
use Rattle.uvl_model.specs.declared.rows.FeatureRow.{FeatureRow}
use Rattle.uvl_resolve.proofs.Apart.{known_is, mapped_at, mapped_take, one_more_name, take_short}
use Rattle.uvl_resolve.proofs.resolving.names_of.Goals as goal

abbrev name_of_row : FeatureRow → List ℕ
name_of_row row = row.name

pub add-requires : goal.add-requires
add-requires c =
    let rows = take c.loop-row.row-index c.args.features.now in
    omega (arith, ap length c.loop-row.invariant, length-map rows name_of_row, take_short c.loop-row.row-index c.args.features.now, c.requires.few)

pub loop-row-preserved : goal.loop-row-preserved
loop-row-preserved c =
    let rows = c.args.features.now in
    let i = c.loop-row.row-index in
    let item = c.row-item.result in
    one_more_name (map name_of_row rows) i [] c.loop-row.names c.add.new.self c.in_ok-add.field-0 (chars c.text.result.now) c.requires.distinct
    (omega (arith, c.loop-row-test.true, length-map rows name_of_row))
    (mapped_at name_of_row rows i [] item c.loop-row-test.true c.row-item.is ∙ sym c.text.ensures.characters)
    (c.loop-row.invariant ∙ mapped_take name_of_row rows i)
    (known_is c.in_ok-add.field-0 c.loop-row.names (chars c.text.result.now) c.in_ok-add.ensures.known) c.in_ok-add.ensures.added
    ∙ sym (mapped_take name_of_row rows (i + 1))
