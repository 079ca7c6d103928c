-- What a token's kind is where a test of it holds.
use Rattle.std.specs.Prelude.{◌≡◌, ℕ, zero, suc, true, ◌==◌}
use Rattle.std.proofs.Common.{refl, sym, ap, ◌∙◌, arith}
use Rattle.std.proofs.lemmas.Bool.Decides.{nat_tests}
use Rattle.uvl_lexer.specs.declared.token.TokenKind.{TokenKind}
use Rattle.uvl_lexer.specs.declared.token.TokenKind.TheVariants as token
use Rattle.uvl_base.specs.declared.word.Word.{Word}
use Rattle.uvl_base.specs.declared.word.Word.TheVariants as word
use Rattle.uvl_lexer.specs.declared.token.Symbol.{Symbol}
use Rattle.uvl_lexer.specs.declared.token.Symbol.TheVariants as symbol
use Rattle.uvl_grammar.specs.steps.Tests.{is_word, is_symbol, is_newline, is_indent, is_dedent, is_finish, number_of_word, number_of_symbol}

-- the word of a number, and the symbol of one
word_at : ℕ → Word
word_at zero = word.Namespace
word_at (suc zero) = word.Include
word_at (suc (suc zero)) = word.Imports
word_at (suc (suc (suc zero))) = word.As
word_at (suc (suc (suc (suc zero)))) = word.Features
word_at (suc (suc (suc (suc (suc zero))))) = word.Constraints
word_at (suc (suc (suc (suc (suc (suc zero)))))) = word.Constraint
word_at (suc (suc (suc (suc (suc (suc (suc zero))))))) = word.Mandatory
word_at (suc (suc (suc (suc (suc (suc (suc (suc zero)))))))) = word.Optional
word_at (suc (suc (suc (suc (suc (suc (suc (suc (suc zero))))))))) = word.Alternative
word_at (suc (suc (suc (suc (suc (suc (suc (suc (suc (suc zero)))))))))) = word.Or
word_at (suc (suc (suc (suc (suc (suc (suc (suc (suc (suc (suc zero))))))))))) = word.Cardinality
word_at (suc (suc (suc (suc (suc (suc (suc (suc (suc (suc (suc (suc zero)))))))))))) = word.Sum
word_at (suc (suc (suc (suc (suc (suc (suc (suc (suc (suc (suc (suc (suc zero))))))))))))) = word.Avg
word_at (suc (suc (suc (suc (suc (suc (suc (suc (suc (suc (suc (suc (suc (suc zero)))))))))))))) = word.Len
word_at (suc (suc (suc (suc (suc (suc (suc (suc (suc (suc (suc (suc (suc (suc (suc zero))))))))))))))) = word.Floor
word_at (suc (suc (suc (suc (suc (suc (suc (suc (suc (suc (suc (suc (suc (suc (suc (suc zero)))))))))))))))) = word.Ceil
word_at (suc (suc (suc (suc (suc (suc (suc (suc (suc (suc (suc (suc (suc (suc (suc (suc (suc zero))))))))))))))))) = word.True
word_at (suc (suc (suc (suc (suc (suc (suc (suc (suc (suc (suc (suc (suc (suc (suc (suc (suc (suc zero)))))))))))))))))) = word.False
word_at (suc (suc (suc (suc (suc (suc (suc (suc (suc (suc (suc (suc (suc (suc (suc (suc (suc (suc (suc zero))))))))))))))))))) = word.Boolean
word_at (suc (suc (suc (suc (suc (suc (suc (suc (suc (suc (suc (suc (suc (suc (suc (suc (suc (suc (suc (suc zero)))))))))))))))))))) = word.String
word_at (suc (suc (suc (suc (suc (suc (suc (suc (suc (suc (suc (suc (suc (suc (suc (suc (suc (suc (suc (suc (suc zero))))))))))))))))))))) = word.Integer
word_at _ = word.Real

word_again : (w : Word) → word_at (number_of_word w) ≡ w
unfolding word_at
word_again word.Namespace = refl
word_again word.Include = refl
word_again word.Imports = refl
word_again word.As = refl
word_again word.Features = refl
word_again word.Constraints = refl
word_again word.Constraint = refl
word_again word.Mandatory = refl
word_again word.Optional = refl
word_again word.Alternative = refl
word_again word.Or = refl
word_again word.Cardinality = refl
word_again word.Sum = refl
word_again word.Avg = refl
word_again word.Len = refl
word_again word.Floor = refl
word_again word.Ceil = refl
word_again word.True = refl
word_again word.False = refl
word_again word.Boolean = refl
word_again word.String = refl
word_again word.Integer = refl
word_again word.Real = refl

symbol_at : ℕ → Symbol
symbol_at zero = symbol.LeftParen
symbol_at (suc zero) = symbol.RightParen
symbol_at (suc (suc zero)) = symbol.LeftBracket
symbol_at (suc (suc (suc zero))) = symbol.RightBracket
symbol_at (suc (suc (suc (suc zero)))) = symbol.LeftBrace
symbol_at (suc (suc (suc (suc (suc zero))))) = symbol.RightBrace
symbol_at (suc (suc (suc (suc (suc (suc zero)))))) = symbol.Comma
symbol_at (suc (suc (suc (suc (suc (suc (suc zero))))))) = symbol.Dot
symbol_at (suc (suc (suc (suc (suc (suc (suc (suc zero)))))))) = symbol.Dots
symbol_at (suc (suc (suc (suc (suc (suc (suc (suc (suc zero))))))))) = symbol.Bang
symbol_at (suc (suc (suc (suc (suc (suc (suc (suc (suc (suc zero)))))))))) = symbol.Amp
symbol_at (suc (suc (suc (suc (suc (suc (suc (suc (suc (suc (suc zero))))))))))) = symbol.Bar
symbol_at (suc (suc (suc (suc (suc (suc (suc (suc (suc (suc (suc (suc zero)))))))))))) = symbol.Implies
symbol_at (suc (suc (suc (suc (suc (suc (suc (suc (suc (suc (suc (suc (suc zero))))))))))))) = symbol.Iff
symbol_at (suc (suc (suc (suc (suc (suc (suc (suc (suc (suc (suc (suc (suc (suc zero)))))))))))))) = symbol.Equal
symbol_at (suc (suc (suc (suc (suc (suc (suc (suc (suc (suc (suc (suc (suc (suc (suc zero))))))))))))))) = symbol.Differs
symbol_at (suc (suc (suc (suc (suc (suc (suc (suc (suc (suc (suc (suc (suc (suc (suc (suc zero)))))))))))))))) = symbol.Less
symbol_at (suc (suc (suc (suc (suc (suc (suc (suc (suc (suc (suc (suc (suc (suc (suc (suc (suc zero))))))))))))))))) = symbol.AtMost
symbol_at (suc (suc (suc (suc (suc (suc (suc (suc (suc (suc (suc (suc (suc (suc (suc (suc (suc (suc zero)))))))))))))))))) = symbol.Greater
symbol_at (suc (suc (suc (suc (suc (suc (suc (suc (suc (suc (suc (suc (suc (suc (suc (suc (suc (suc (suc zero))))))))))))))))))) = symbol.AtLeast
symbol_at (suc (suc (suc (suc (suc (suc (suc (suc (suc (suc (suc (suc (suc (suc (suc (suc (suc (suc (suc (suc zero)))))))))))))))))))) = symbol.Plus
symbol_at (suc (suc (suc (suc (suc (suc (suc (suc (suc (suc (suc (suc (suc (suc (suc (suc (suc (suc (suc (suc (suc zero))))))))))))))))))))) = symbol.Minus
symbol_at (suc (suc (suc (suc (suc (suc (suc (suc (suc (suc (suc (suc (suc (suc (suc (suc (suc (suc (suc (suc (suc (suc zero)))))))))))))))))))))) = symbol.Star
symbol_at _ = symbol.Slash

symbol_again : (s : Symbol) → symbol_at (number_of_symbol s) ≡ s
unfolding symbol_at
symbol_again symbol.LeftParen = refl
symbol_again symbol.RightParen = refl
symbol_again symbol.LeftBracket = refl
symbol_again symbol.RightBracket = refl
symbol_again symbol.LeftBrace = refl
symbol_again symbol.RightBrace = refl
symbol_again symbol.Comma = refl
symbol_again symbol.Dot = refl
symbol_again symbol.Dots = refl
symbol_again symbol.Bang = refl
symbol_again symbol.Amp = refl
symbol_again symbol.Bar = refl
symbol_again symbol.Implies = refl
symbol_again symbol.Iff = refl
symbol_again symbol.Equal = refl
symbol_again symbol.Differs = refl
symbol_again symbol.Less = refl
symbol_again symbol.AtMost = refl
symbol_again symbol.Greater = refl
symbol_again symbol.AtLeast = refl
symbol_again symbol.Plus = refl
symbol_again symbol.Minus = refl
symbol_again symbol.Star = refl
symbol_again symbol.Slash = refl

number_same : (m n : ℕ) → (m == n) ≡ true → m ≡ n
number_same m n e = grind (arith, nat_tests)

same_number : (n : ℕ) → (n == n) ≡ true
same_number n = grind (arith, nat_tests)

pub word_kind : (w : Word) (kind : TokenKind) → is_word w kind ≡ true → kind ≡ token.Word w
word_kind w (token.Word v) e =
    ap token.Word (sym (word_again v) ∙ ap word_at (number_same (number_of_word v) (number_of_word w) e) ∙ word_again w)
word_kind w (token.Name name quoted) e = cc
word_kind w (token.Number value whole) e = cc
word_kind w (token.Text text) e = cc
word_kind w (token.Symbol s) e = cc
word_kind w token.Indent e = cc
word_kind w token.Dedent e = cc
word_kind w token.Newline e = cc
word_kind w token.Finish e = cc

pub symbol_kind : (s : Symbol) (kind : TokenKind) → is_symbol s kind ≡ true → kind ≡ token.Symbol s
symbol_kind s (token.Symbol v) e =
    ap token.Symbol (sym (symbol_again v) ∙ ap symbol_at (number_same (number_of_symbol v) (number_of_symbol s) e) ∙ symbol_again s)
symbol_kind s (token.Name name quoted) e = cc
symbol_kind s (token.Number value whole) e = cc
symbol_kind s (token.Text text) e = cc
symbol_kind s (token.Word w) e = cc
symbol_kind s token.Indent e = cc
symbol_kind s token.Dedent e = cc
symbol_kind s token.Newline e = cc
symbol_kind s token.Finish e = cc

-- and the other way round
pub kind_word : (w : Word) (kind : TokenKind) → kind ≡ token.Word w → is_word w kind ≡ true
kind_word w kind e = ap (is_word w) e ∙ same_number (number_of_word w)

pub kind_symbol : (s : Symbol) (kind : TokenKind) → kind ≡ token.Symbol s → is_symbol s kind ≡ true
kind_symbol s kind e = ap (is_symbol s) e ∙ same_number (number_of_symbol s)

pub newline_kind : (kind : TokenKind) → is_newline kind ≡ true → kind ≡ token.Newline
newline_kind (token.Word w) e = cc
newline_kind (token.Symbol s) e = cc
newline_kind (token.Name name quoted) e = cc
newline_kind (token.Number value whole) e = cc
newline_kind (token.Text text) e = cc
newline_kind token.Indent e = cc
newline_kind token.Dedent e = cc
newline_kind token.Newline e = refl
newline_kind token.Finish e = cc

pub indent_kind : (kind : TokenKind) → is_indent kind ≡ true → kind ≡ token.Indent
indent_kind (token.Word w) e = cc
indent_kind (token.Symbol s) e = cc
indent_kind (token.Name name quoted) e = cc
indent_kind (token.Number value whole) e = cc
indent_kind (token.Text text) e = cc
indent_kind token.Indent e = refl
indent_kind token.Dedent e = cc
indent_kind token.Newline e = cc
indent_kind token.Finish e = cc

pub dedent_kind : (kind : TokenKind) → is_dedent kind ≡ true → kind ≡ token.Dedent
dedent_kind (token.Word w) e = cc
dedent_kind (token.Symbol s) e = cc
dedent_kind (token.Name name quoted) e = cc
dedent_kind (token.Number value whole) e = cc
dedent_kind (token.Text text) e = cc
dedent_kind token.Indent e = cc
dedent_kind token.Dedent e = refl
dedent_kind token.Newline e = cc
dedent_kind token.Finish e = cc

pub finish_kind : (kind : TokenKind) → is_finish kind ≡ true → kind ≡ token.Finish
finish_kind (token.Word w) e = cc
finish_kind (token.Symbol s) e = cc
finish_kind (token.Name name quoted) e = cc
finish_kind (token.Number value whole) e = cc
finish_kind (token.Text text) e = cc
finish_kind token.Indent e = cc
finish_kind token.Dedent e = cc
finish_kind token.Newline e = cc
finish_kind token.Finish e = refl
