-- Tokens of each kind, to complete parts with, and the readers of one token.
use Rattle.std.specs.Prelude.{ℕ, ◌∷◌, [], true, pos, false}
use Rattle.std.proofs.Common.{refl}
use Rattle.uvl_lexer.specs.declared.token.Token.{Token}
use Rattle.uvl_lexer.specs.declared.token.TokenKind.{TokenKind}
use Rattle.uvl_lexer.specs.declared.token.TokenKind.TheVariants as token
use Rattle.uvl_base.specs.declared.word.Word.{Word}
use Rattle.uvl_lexer.specs.declared.token.Symbol.{Symbol}
use Rattle.uvl_grammar.specs.Tokens.{name_of, number_of, whole_of, text_of}
use Rattle.uvl_grammar.specs.steps.Tests.{is_word, is_symbol, is_newline, is_indent, is_dedent, is_finish}
use Rattle.uvl_grammar.specs.steps.Reading.{one, accept}
use Rattle.uvl_grammar.proofs.TokenKinds.{kind_word, kind_symbol}
use Rattle.uvl_grammar.proofs.Readers.{Good, IsOne, IsAccepted, good_one, good_accept}

-- a token of a kind, wherever it stands
abbrev pub sample : TokenKind → Token
sample kind = record { kind = kind; place = record { line = 1; column = 1 }; from = 0; to = 0 }

module _ {d n : ℕ} where
  pub word_good : (w : Word) → Good (λ m. one (is_word w)) (IsOne (is_word w)) d n
  word_good w = good_one (is_word w) (sample (token.Word w)) (kind_word w (token.Word w) refl) d n

  pub symbol_good : (s : Symbol) → Good (λ m. one (is_symbol s)) (IsOne (is_symbol s)) d n
  symbol_good s = good_one (is_symbol s) (sample (token.Symbol s)) (kind_symbol s (token.Symbol s) refl) d n

  pub newline_good : Good (λ m. one is_newline) (IsOne is_newline) d n
  newline_good = good_one is_newline (sample token.Newline) refl d n

  pub indent_good : Good (λ m. one is_indent) (IsOne is_indent) d n
  indent_good = good_one is_indent (sample token.Indent) refl d n

  pub dedent_good : Good (λ m. one is_dedent) (IsOne is_dedent) d n
  dedent_good = good_one is_dedent (sample token.Dedent) refl d n

  pub finish_good : Good (λ m. one is_finish) (IsOne is_finish) d n
  finish_good = good_one is_finish (sample token.Finish) refl d n

  pub name_good : Good (λ m. accept name_of) (IsAccepted name_of) d n
  name_good = good_accept name_of (sample (token.Name (95 ∷ []) false)) (95 ∷ []) refl d n

  pub number_good : Good (λ m. accept number_of) (IsAccepted number_of) d n
  number_good = good_accept number_of (sample (token.Number (pos 0) true)) (pos 0) refl d n

  pub whole_good : Good (λ m. accept whole_of) (IsAccepted whole_of) d n
  whole_good = good_accept whole_of (sample (token.Number (pos 0) true)) 0 refl d n

  pub text_good : Good (λ m. accept text_of) (IsAccepted text_of) d n
  text_good = good_accept text_of (sample (token.Text [])) [] refl d n
