-- The bytes of a spelling are those of its characters.
use Rattle.std.proofs.Common.{◌≡◌, ℕ, List, true, false, not, sym, ap, ◌∙◌, subst}
use Rattle.std.specs.Prelude.{chars, encode_utf8_all, IfOk}
use Rattle.std.specs.List.{list_any}
use Rattle.std.proofs.lemmas.Str.{encodes-chars}
use Rattle.uvl_base.specs.Number.{is_number, is_too_wide, millionths_of, is_point}
use Rattle.uvl_lexer.specs.declared.token.TokenKind.{TokenKind}
use Rattle.uvl_lexer.specs.declared.token.TokenKind.TheVariants as token
use Rattle.uvl_lexer.specs.declared.piece.Lexeme.{Lexeme}
use Rattle.uvl_base.specs.ReservedWords.{word_of}
use Rattle.uvl_lexer.specs.Layout.{token_of, word_or_name}
use Rattle.uvl_lexer.specs.Forms.{HasTokenForm}
use Rattle.uvl_lexer.specs.steps.Spellings.{IsReadable}
use Rattle.uvl_lexer.proofs.Names.{identifier-is_name}
use Rattle.uvl_lexer.proofs.Numbers.{number-is_number}
use Rattle.uvl_lexer.proofs.spelling.token_of.Goals as goal

pub number_of-requires-clause-number : goal.number_of-requires-clause-number
number_of-requires-clause-number c =
    let s = c.args.spelling.now in
    let bytes : encode_utf8_all (chars s) ≡ s = encodes-chars s c.utf8.spelling in
    subst (λ (b : List ℕ). is_number b ≡ true) bytes (number-is_number (chars s) (subst (λ (l : Lexeme). HasTokenForm l (chars s)) c.in-Number.is c.requires.spelled))

pub number_of-requires-clause-readable : goal.number_of-requires-clause-readable
number_of-requires-clause-readable c =
    let s = c.args.spelling.now in
    let bytes : encode_utf8_all (chars s) ≡ s = encodes-chars s c.utf8.spelling in
    subst (λ (b : List ℕ). is_too_wide b ≡ false) bytes (subst (λ (l : Lexeme). IsReadable l (chars s)) c.in-Number.is c.requires.readable)

pub returns-in-Identifier-clause-token : goal.returns-in-Identifier-clause-token
returns-in-Identifier-clause-token c =
    let s = c.args.spelling.now in
    let bytes : encode_utf8_all (chars s) ≡ s = encodes-chars s c.utf8.spelling in
    let same : token_of c.args.lexeme (chars s) ≡ word_or_name (word_of s) (chars s) =
    ap (λ (l : Lexeme). token_of l (chars s)) c.in-Identifier.is ∙ ap (λ (b : List ℕ). word_or_name (word_of b) (chars s)) bytes in
    subst (λ (k : TokenKind). IfOk c.word_or_name.result (λ t. t ≡ k)) (sym same) c.word_or_name.ensures.token

pub returns-in-Number-clause-token : goal.returns-in-Number-clause-token
returns-in-Number-clause-token c =
    let s = c.args.spelling.now in
    let bytes : encode_utf8_all (chars s) ≡ s = encodes-chars s c.utf8.spelling in
    c.number_of.ensures
    ∙ sym (ap (λ (l : Lexeme). token_of l (chars s)) c.in-Number.is ∙ ap (λ (b : List ℕ). token.Number (millionths_of b) (not (list_any is_point b))) bytes)

pub word_or_name-requires : goal.word_or_name-requires
word_or_name-requires c =
    let s = c.args.spelling.now in
    identifier-is_name (chars s) (subst (λ (l : Lexeme). HasTokenForm l (chars s)) c.in-Identifier.is c.requires.spelled)
