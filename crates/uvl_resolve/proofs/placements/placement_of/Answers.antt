-- The file that all names but the last call, and the number of the feature that all of them name.
use Rattle.std.proofs.Common.{◌≡◌, ◌++◌, List, ℕ, Option, Some, None, take, sym, ap, ◌∙◌}
use Rattle.std.specs.Prelude.{position}
use Rattle.std.specs.Str.{bytes_eq, chars}
use Rattle.std.proofs.lemmas.Str.{chars-nil}
use Rattle.uvl_placing.specs.Names.{dotted, front_of, target_called}
use Rattle.uvl_placing.specs.Options.{of_both}
use Rattle.uvl_resolve.specs.steps.Placements.{placement, placement_of}
use Rattle.uvl_resolve.proofs.placements.placement_of.Goals as goal

pub unreachable-requires : goal.unreachable-requires
unreachable-requires c =
    let names = c.args.names.now in
    let parts = c.args.parts.now in
    let loaded = c.args.loaded.now in
    let front : chars c.as_str.result.now ≡ dotted (front_of parts) =
    ap chars c.as_str.ensures.value ∙ c.in_ok-push_dotted.ensures.pushed
    ∙ ap (λ (xs : List ℕ). chars xs ++ dotted (take c.saturating_sub.result parts)) c.new-text.ensures.bytes
    ∙ ap (λ (xs : List ℕ). xs ++ dotted (take c.saturating_sub.result parts)) chars-nil
    ∙ ap (λ (n : ℕ). dotted (take n parts)) c.saturating_sub.ensures in
    let whole : chars c.as_str-2.result.now ≡ dotted parts =
    ap chars c.as_str-2.ensures.value ∙ c.in_ok-push_dotted-2.ensures.pushed
    ∙ ap (λ (xs : List ℕ). chars xs ++ dotted parts) c.clear.ensures.bytes ∙ ap (λ (xs : List ℕ). xs ++ dotted parts) chars-nil in
    let found : c.placement_at.result ≡ placement_of loaded names parts =
    c.placement_at.ensures
    ∙ ap (λ (o : Option ℕ). of_both placement o c.find-number.result) (c.target_of-target.ensures ∙ ap (λ (q : List ℕ). target_called q loaded.file.imports loaded.targets) front)
    ∙ ap (of_both placement (target_called (dotted (front_of parts)) loaded.file.imports loaded.targets))
    (c.find-number.ensures.number ∙ ap (λ (q : List ℕ). position (bytes_eq q) names) whole) in
    let both : None ≡ Some c.requires.placed.0 = sym c.in-None.is ∙ found ∙ c.requires.placed.1 in
    absurd cc

pub returns : goal.returns
returns c =
    let names = c.args.names.now in
    let parts = c.args.parts.now in
    let loaded = c.args.loaded.now in
    let front : chars c.as_str.result.now ≡ dotted (front_of parts) =
    ap chars c.as_str.ensures.value ∙ c.in_ok-push_dotted.ensures.pushed
    ∙ ap (λ (xs : List ℕ). chars xs ++ dotted (take c.saturating_sub.result parts)) c.new-text.ensures.bytes
    ∙ ap (λ (xs : List ℕ). xs ++ dotted (take c.saturating_sub.result parts)) chars-nil
    ∙ ap (λ (n : ℕ). dotted (take n parts)) c.saturating_sub.ensures in
    let whole : chars c.as_str-2.result.now ≡ dotted parts =
    ap chars c.as_str-2.ensures.value ∙ c.in_ok-push_dotted-2.ensures.pushed
    ∙ ap (λ (xs : List ℕ). chars xs ++ dotted parts) c.clear.ensures.bytes ∙ ap (λ (xs : List ℕ). xs ++ dotted parts) chars-nil in
    let found : c.placement_at.result ≡ placement_of loaded names parts =
    c.placement_at.ensures
    ∙ ap (λ (o : Option ℕ). of_both placement o c.find-number.result) (c.target_of-target.ensures ∙ ap (λ (q : List ℕ). target_called q loaded.file.imports loaded.targets) front)
    ∙ ap (of_both placement (target_called (dotted (front_of parts)) loaded.file.imports loaded.targets))
    (c.find-number.ensures.number ∙ ap (λ (q : List ℕ). position (bytes_eq q) names) whole) in
    sym found ∙ c.in-Some.is
