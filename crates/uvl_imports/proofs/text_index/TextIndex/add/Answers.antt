-- A new text goes last.
use Rattle.std.proofs.Common.{◌≡◌, [], ◌∷◌, ◌++◌, sym, ap, ◌∙◌, not, string_bytes, false}
use Rattle.std.specs.List.{list_any}
use Rattle.std.specs.Str.{bytes_eq}
use Rattle.uvl_imports.specs.Texts.{has}
use Rattle.uvl_imports.proofs.TextKeys.{has-texts_of, texts-insert_key}
use Rattle.uvl_imports.proofs.text_index.TextIndex.add.Goals as goal

-- the test among the keys is that among the texts
pub returns-then-contains-clause-known : goal.returns-then-contains-clause-known
returns-then-contains-clause-known c =
    let test = c.contains.ensures in
    ap not (sym c.if-contains.true ∙ test ∙ ap (λ t. list_any (λ key. bytes_eq t (string_bytes key)) c.self.inside.texts.keys) c.as_str.ensures.value
    ∙ has-texts_of (string_bytes c.args.text) c.self.inside.texts.keys ∙ ap (λ ts. has ts (string_bytes c.args.text)) c.self.view_is)

-- no key has the text
absent : (c : goal.In_ok-insert) → list_any (λ key. bytes_eq (string_bytes c.args.text) (string_bytes key)) c.self.inside.texts.keys ≡ false
absent c =
    ap (λ t. list_any (λ key. bytes_eq t (string_bytes key)) c.self.inside.texts.keys) (sym c.as_str.ensures.value) ∙ sym c.contains.ensures ∙ c.if-contains.false

pub returns-clause-added : goal.returns-clause-added
returns-clause-added c =
    texts-insert_key c.self.inside.texts.keys c.insert.new.self.keys c.args.text (absent c) c.in_ok-insert.ensures.keys
    ∙ ap (λ ts. ts ++ string_bytes c.args.text ∷ []) c.self.view_is

pub returns-clause-known : goal.returns-clause-known
returns-clause-known c =
    ap not (sym (absent c) ∙ has-texts_of (string_bytes c.args.text) c.self.inside.texts.keys ∙ ap (λ ts. has ts (string_bytes c.args.text)) c.self.view_is)
