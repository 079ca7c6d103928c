-- The number of the name.
use Rattle.std.proofs.Common.{◌≡◌, ◌++◌, ◌+◌, ℕ, List, Option, Some, None, sym, ap, ◌∙◌}
use Rattle.std.specs.Prelude.{position}
use Rattle.std.specs.Option.{option_map}
use Rattle.std.specs.Str.{bytes_eq, chars}
use Rattle.std.proofs.lemmas.Str.{chars-nil}
use Rattle.uvl_model.specs.declared.rule.Rule.TheVariants as rule
use Rattle.uvl_model.specs.Spelling.{numbered}
use Rattle.uvl_placing.specs.Names.{dotted}
use Rattle.uvl_resolve.proofs.rule.feature_of.Goals as goal

pub unreachable-requires : goal.unreachable-requires
unreachable-requires c =
    let parts = c.args.reference.now.parts in
    let text : chars c.as_str.result.now ≡ dotted parts =
    ap chars c.as_str.ensures.value ∙ c.in_ok-push_dotted.ensures.pushed
    ∙ ap (λ (xs : List ℕ). chars xs ++ dotted c.as_slice.result.now) c.new-name.ensures.bytes
    ∙ ap (λ (xs : List ℕ). xs ++ dotted c.as_slice.result.now) chars-nil ∙ ap dotted c.as_slice.ensures in
    let none : position (bytes_eq (dotted parts)) c.args.names.now ≡ None =
    ap (λ (q : List ℕ). position (bytes_eq q) c.args.names.now) (sym text) ∙ sym c.find.ensures.number ∙ c.in-None.is in
    let both : None ≡ Some c.requires.known.0 =
    sym (ap (λ (o : Option ℕ). option_map (λ k. rule.Feature (numbered (c.args.offset + k))) o) none) ∙ c.requires.known.1 in
    absurd cc

pub returns : goal.returns
returns c =
    let parts = c.args.reference.now.parts in
    let text : chars c.as_str.result.now ≡ dotted parts =
    ap chars c.as_str.ensures.value ∙ c.in_ok-push_dotted.ensures.pushed
    ∙ ap (λ (xs : List ℕ). chars xs ++ dotted c.as_slice.result.now) c.new-name.ensures.bytes
    ∙ ap (λ (xs : List ℕ). xs ++ dotted c.as_slice.result.now) chars-nil ∙ ap dotted c.as_slice.ensures in
    let some : position (bytes_eq (dotted parts)) c.args.names.now ≡ Some c.in-Some.number =
    ap (λ (q : List ℕ). position (bytes_eq q) c.args.names.now) (sym text) ∙ sym c.find.ensures.number ∙ c.in-Some.is in
    ap (λ (o : Option ℕ). option_map (λ k. rule.Feature (numbered (c.args.offset + k))) o) some
