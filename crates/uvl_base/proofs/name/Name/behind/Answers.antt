-- The bytes are those of the text and the name.
use Rattle.std.proofs.Common.{List, ℕ, IsTrue, sym, ap, ◌∙◌, subst}
use Rattle.std.specs.Prelude.{chars, string_bytes}
use Rattle.uvl_base.specs.Name.{is_name, characters_of}
use Rattle.uvl_base.proofs.Fronts.{reads_as_both, is_name_as_read}
use Rattle.uvl_base.proofs.name.Name.behind.Goals as goal

pub invariant_of-result : goal.invariant_of-result
invariant_of-result c =
    subst (λ (cs : List ℕ). IsTrue (is_name (characters_of cs))) (sym c.from.ensures)
    (is_name_as_read (string_bytes c.in_ok-text.text) (string_bytes c.push_str.new.self) _ c.args.front.now c.text-name.result.now c.args.name.now c.utf8.front
    c.in_ok-text.ensures.bytes c.in_ok-push_str.ensures.bytes c.in_ok-push_str-2.ensures.bytes c.text-name.ensures.characters c.requires c.text-name.ensures.name)

pub returns : goal.returns
returns c =
    ap characters_of c.from.ensures
    ∙ reads_as_both (string_bytes c.in_ok-text.text) (string_bytes c.push_str.new.self) _ c.args.front.now c.text-name.result.now c.args.name.now c.utf8.front
    c.in_ok-text.ensures.bytes c.in_ok-push_str.ensures.bytes c.in_ok-push_str-2.ensures.bytes c.text-name.ensures.characters c.requires c.text-name.ensures.name
