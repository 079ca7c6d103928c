-- The text, the names and a dot.
use Rattle.std.proofs.Common.{◌∷◌, ◌++◌, [], List, ℕ, string_bytes, refl, sym, ap, ◌∙◌, subst}
use Rattle.std.specs.Str.{chars}
use Rattle.std.proofs.lemmas.List.{append_assoc}
use Rattle.std.proofs.lemmas.Str.{IsUtf8-string_bytes}
use Rattle.uvl_placing.specs.Names.{dotted}
use Rattle.uvl_resolve.specs.Under.{MayStandInName}
use Rattle.uvl_resolve.proofs.Texts.{pushed, both_stand, dot_is}
use Rattle.uvl_resolve.proofs.name.text_behind.Goals as goal

pub returns-clause-text : goal.returns-clause-text
returns-clause-text c =
    let dot = pushed (string_bytes c.push_dotted.new.text) (string_bytes c.push_str.new.self) _ (46 ∷ []) (IsUtf8-string_bytes c.push_dotted.new.text) c.in_ok-push_str.ensures.bytes dot_is in
    dot ∙ ap (λ (xs : List ℕ). xs ++ 46 ∷ []) (c.in_ok-push_dotted.ensures.pushed ∙ ap (λ (xs : List ℕ). chars xs ++ dotted c.args.names.now) c.in_ok-whole.ensures.ok)
    ∙ append_assoc (chars c.args.text.now) (dotted c.args.names.now) (46 ∷ [])

pub returns-clause-name : goal.returns-clause-name
returns-clause-name c =
    let dot = pushed (string_bytes c.push_dotted.new.text) (string_bytes c.push_str.new.self) _ (46 ∷ []) (IsUtf8-string_bytes c.push_dotted.new.text) c.in_ok-push_str.ensures.bytes dot_is in
    let old : MayStandInName (chars (string_bytes c.in_ok-whole.whole)) = subst (λ (xs : List ℕ). MayStandInName (chars xs)) (sym c.in_ok-whole.ensures.ok) c.requires in
    subst MayStandInName (sym dot) (both_stand (chars (string_bytes c.push_dotted.new.text)) (46 ∷ []) (c.in_ok-push_dotted.ensures.name old) refl)
