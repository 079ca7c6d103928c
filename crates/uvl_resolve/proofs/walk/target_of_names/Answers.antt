-- The qualifier is what stands in front of the last name, and it is known.
use Rattle.std.proofs.Common.{◌≡◌, ◌++◌, [], length, take, get_or, ℕ, List, Some, None, sym, ap, ◌∙◌}
use Rattle.std.specs.Str.{chars}
use Rattle.std.proofs.lemmas.Str.{chars-nil}
use Rattle.uvl_placing.specs.Names.{dotted, front_of, target_called}
use Rattle.uvl_resolve.proofs.Said.{own_qualifiers, names_place, placed_at}
use Rattle.uvl_resolve.proofs.walk.target_of_names.Goals as goal

pub target_of-requires : goal.target_of-requires
target_of-requires c =
    c.index-qualifiers-front.is
    ∙ ap (λ (qs : List (List (List ℕ))). get_or qs (length c.args.front.now) c.index-qualifiers-front.result) c.requires.known
    ∙ own_qualifiers c.args.front.now c.args.loaded.now c.index-qualifiers-front.result

pub unreachable-requires : goal.unreachable-requires
unreachable-requires c =
    let names = c.args.names.now in
    let text : chars c.as_str.result.now ≡ dotted (front_of names) =
    ap chars c.as_str.ensures.value ∙ c.in_ok-push_dotted.ensures.pushed
    ∙ ap (λ (xs : List ℕ). chars xs ++ dotted (take c.saturating_sub.result names)) c.new-qualifier.ensures.bytes
    ∙ ap (λ (xs : List ℕ). xs ++ dotted (take c.saturating_sub.result names)) chars-nil
    ∙ ap (λ (n : ℕ). dotted (take n names)) c.saturating_sub.ensures in
    let found = names_place c.files_are_read_in_order.ensures.in_front c.args.front.now c.args.loaded.now [] names c.requires.placed.0 c.requires.placed.1 in
    let none : None ≡ target_called (chars c.as_str.result.now) c.args.loaded.now.file.imports c.args.loaded.now.targets = sym c.in-None.is ∙ c.target_of.ensures in
    let both : None ≡ Some found.0 = none ∙ ap (λ (q : List ℕ). target_called q c.args.loaded.now.file.imports c.args.loaded.now.targets) text ∙ found.1 in
    absurd cc

pub returns : goal.returns
returns c =
    let names = c.args.names.now in
    let text : chars c.as_str.result.now ≡ dotted (front_of names) =
    ap chars c.as_str.ensures.value ∙ c.in_ok-push_dotted.ensures.pushed
    ∙ ap (λ (xs : List ℕ). chars xs ++ dotted (take c.saturating_sub.result names)) c.new-qualifier.ensures.bytes
    ∙ ap (λ (xs : List ℕ). xs ++ dotted (take c.saturating_sub.result names)) chars-nil
    ∙ ap (λ (n : ℕ). dotted (take n names)) c.saturating_sub.ensures in
    let is : target_called (dotted (front_of names)) c.args.loaded.now.file.imports c.args.loaded.now.targets ≡ Some c.in-Some.target =
    ap (λ (q : List ℕ). target_called q c.args.loaded.now.file.imports c.args.loaded.now.targets) (sym text) ∙ sym c.target_of.ensures ∙ c.in-Some.is in
    record {
      target = is;
      within = (placed_at c.files_are_read_in_order.ensures.in_front c.args.front.now c.args.loaded.now [] names c.requires.placed.0 c.in-Some.target c.requires.placed.1 is).within;
    }
