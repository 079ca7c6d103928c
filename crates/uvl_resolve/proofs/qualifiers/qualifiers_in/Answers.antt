-- Each qualifier is new.
use Rattle.std.proofs.Common.{◌≡◌, ◌++◌, ◌+◌, [], List, ℕ, map, sym, ap, ◌∙◌, arith}
use Rattle.std.specs.Str.{chars}
use Rattle.std.proofs.lemmas.List.{length-map}
use Rattle.std.proofs.lemmas.Str.{chars-nil}
use Rattle.uvl_placing.specs.Names.{qualifier_of}
use Rattle.uvl_resolve.proofs.Apart.{one_more_name, mapped_at, mapped_take}
use Rattle.uvl_resolve.proofs.qualifiers.qualifiers_in.Goals as goal

pub loop-line-preserved : goal.loop-line-preserved
loop-line-preserved c =
    let lines = c.args.lines.now in
    let i = c.loop-line.line-index in
    let item = c.line-item.result in
    let text : chars c.as_str.result.now ≡ qualifier_of item =
    ap chars c.as_str.ensures.value ∙ c.in_ok-push_qualifier.ensures ∙ ap (λ (xs : List ℕ). chars xs ++ qualifier_of item) c.clear.ensures.bytes
    ∙ ap (λ (xs : List ℕ). xs ++ qualifier_of item) chars-nil in
    one_more_name (map qualifier_of lines) i [] c.loop-line.qualifiers c.add.new.self c.in_ok-add.field-0 (chars c.as_str.result.now) c.requires
    (omega (arith, c.loop-line-test.true, length-map lines qualifier_of))
    (mapped_at qualifier_of lines i [] item c.loop-line-test.true c.line-item.is ∙ sym text)
    (c.loop-line.invariant ∙ mapped_take qualifier_of lines i) c.in_ok-add.ensures.known c.in_ok-add.ensures.added
    ∙ sym (mapped_take qualifier_of lines (i + 1))
