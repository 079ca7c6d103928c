-- The bytes of a spelling are those of its characters.
use Rattle.std.proofs.Common.{◌≡◌, ℕ, List, true, sym, ap, ◌∙◌, subst}
use Rattle.std.specs.Prelude.{chars, encode_utf8_all}
use Rattle.std.proofs.lemmas.Str.{encodes-chars}
use Rattle.uvl_lexer.specs.declared.piece.Lexeme.{Lexeme}
use Rattle.uvl_base.specs.Number.{is_number}
use Rattle.uvl_lexer.specs.Layout.{refusal_of, refusal_of_number}
use Rattle.uvl_lexer.specs.Forms.{HasTokenForm}
use Rattle.uvl_lexer.proofs.Numbers.{number-is_number}
use Rattle.uvl_lexer.proofs.reader.Reader.refusal_of.Goals as goal

pub returns-in-Number : goal.returns-in-Number
returns-in-Number c =
    let s = c.args.spelling.now in
    let bytes : encode_utf8_all (chars s) ≡ s = encodes-chars s c.utf8.spelling in
    c.refusal_of_number.ensures
    ∙ sym (ap (λ (l : Lexeme). refusal_of l (chars s) c.args.self.now.brackets) c.in-Number.is ∙ ap refusal_of_number bytes)

pub refusal_of_number-requires : goal.refusal_of_number-requires
refusal_of_number-requires c =
    let s = c.args.spelling.now in
    subst (λ (b : List ℕ). is_number b ≡ true) (encodes-chars s c.utf8.spelling) (number-is_number (chars s) (subst (λ (l : Lexeme). HasTokenForm l (chars s)) c.in-Number.is c.requires))
