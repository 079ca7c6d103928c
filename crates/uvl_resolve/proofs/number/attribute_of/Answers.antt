-- The last name is the key, and those in front are a feature that is there.
use Rattle.std.proofs.Common.{◌≡◌, ◌++◌, ◌+◌, ℕ, List, Option, Some, None, sym, ap, ◌∙◌}
use Rattle.std.specs.Prelude.{position}
use Rattle.std.specs.Option.{option_map}
use Rattle.std.specs.Str.{bytes_eq, chars}
use Rattle.std.proofs.lemmas.Str.{chars-nil}
use Rattle.uvl_model.specs.declared.rule.Number.TheVariants as number
use Rattle.uvl_model.specs.Spelling.{numbered}
use Rattle.uvl_placing.specs.Names.{dotted}
use Rattle.uvl_resolve.proofs.MadeNumbers.{parts_called}
use Rattle.uvl_resolve.proofs.number.attribute_of.Goals as goal

pub unreachable-requires-in-None : goal.unreachable-requires-in-None
unreachable-requires-in-None c =
    let names = c.args.names.now in
    let text : chars c.as_str.result.now ≡ dotted c.in-Some.front.now =
    ap chars c.as_str.ensures.value ∙ c.in_ok-push_dotted.ensures.pushed
    ∙ ap (λ (xs : List ℕ). chars xs ++ dotted c.in-Some.front.now) c.new-name.ensures.bytes
    ∙ ap (λ (xs : List ℕ). xs ++ dotted c.in-Some.front.now) chars-nil in
    let none : position (bytes_eq (dotted c.in-Some.front.now)) names ≡ None =
    ap (λ (q : List ℕ). position (bytes_eq q) names) (sym text) ∙ sym c.find.ensures.number ∙ c.in-None.is in
    let called = parts_called names c.args.offset c.args.reference.now.parts c.in-Some.front.now c.in-Some.key.now (sym c.as_slice.ensures ∙ c.in-Some.ensures.cases.0) c.requires.known in
    let both : None ≡ Some c.requires.known.0 =
    sym (called ∙ ap (λ (o : Option ℕ). option_map (λ k. number.Attr (numbered (c.args.offset + k)) c.in-Some.key.now) o) none) ∙ c.requires.known.1 in
    absurd cc

pub returns : goal.returns
returns c =
    let names = c.args.names.now in
    let text : chars c.as_str.result.now ≡ dotted c.in-Some.front.now =
    ap chars c.as_str.ensures.value ∙ c.in_ok-push_dotted.ensures.pushed
    ∙ ap (λ (xs : List ℕ). chars xs ++ dotted c.in-Some.front.now) c.new-name.ensures.bytes
    ∙ ap (λ (xs : List ℕ). xs ++ dotted c.in-Some.front.now) chars-nil in
    let some : position (bytes_eq (dotted c.in-Some.front.now)) names ≡ Some c.in-Some-find.number =
    ap (λ (q : List ℕ). position (bytes_eq q) names) (sym text) ∙ sym c.find.ensures.number ∙ c.in-Some-find.is in
    let called = parts_called names c.args.offset c.args.reference.now.parts c.in-Some.front.now c.in-Some.key.now (sym c.as_slice.ensures ∙ c.in-Some.ensures.cases.0) c.requires.known in
    called ∙ ap (λ (o : Option ℕ). option_map (λ k. number.Attr (numbered (c.args.offset + k)) c.in-Some.key.now) o) some
    ∙ ap (λ (k : List ℕ). Some (number.Attr (numbered (c.args.offset + c.in-Some-find.number)) k)) (sym c.in_ok-key-in-Some-find.ensures)
