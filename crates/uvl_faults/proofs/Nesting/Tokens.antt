-- What tokens do to the scopes of brackets and `!` in a line, and that these never make more than 128.
use Rattle.std.specs.Prelude.{◌≡◌, ℕ, ◌≤◌, true, cond, List, [], ◌∷◌, Some, ℤ}
use Rattle.std.proofs.Common.{refl, ap, ◌∙◌, arith}
use Rattle.uvl_lexer.specs.declared.token.Token.{Token}
use Rattle.uvl_lexer.specs.declared.token.TokenKind.{TokenKind}
use Rattle.uvl_lexer.specs.declared.token.TokenKind.TheVariants as token
use Rattle.uvl_base.specs.declared.word.Word.{Word}
use Rattle.uvl_lexer.specs.declared.token.Symbol.{Symbol}
use Rattle.uvl_lexer.specs.declared.token.Symbol.TheVariants as symbol
use Rattle.uvl_grammar.specs.Tokens.{IsWord, IsSymbol, name_of, number_of, text_of}
use Rattle.uvl_profile.specs.Lines.{is_layout}
use Rattle.uvl_profile.specs.steps.Scan.{scopes_behind, scopes_of}

-- ---- one token

-- the scopes behind a token of a kind, where these are in front of it
abbrev pub scopes_after : List ℕ → TokenKind → List ℕ
scopes_after scopes kind = cond (is_layout kind) (0 ∷ []) (scopes_behind scopes kind)

pub scopes_at : (before : List Token) (t : Token) (scopes : List ℕ) (kind : TokenKind) → scopes_of before ≡ scopes → t.kind ≡ kind
    → scopes_of (t ∷ before) ≡ scopes_after scopes kind
scopes_at before t scopes kind here is = ap (λ k. scopes_after (scopes_of before) k) is ∙ ap (λ ls. scopes_after ls kind) here

-- a line begins with no bracket and no `!`
pub line_scopes : (before : List Token) (t : Token) → is_layout t.kind ≡ true → scopes_of (t ∷ before) ≡ 0 ∷ []
line_scopes before t is = ap (λ b. cond b (0 ∷ []) (scopes_behind (scopes_of before) t.kind)) is

-- a token that is no bracket, and neither applies nor ends anything
abbrev pub IsPlain : TokenKind → Type 0
IsPlain kind = (b : ℕ) (bs : List ℕ) → scopes_after (b ∷ bs) kind ≡ b ∷ bs

pub plain_name : (kind : TokenKind) (name : List ℕ) → name_of kind ≡ Some name → IsPlain kind
plain_name (token.Name n quoted) name e b bs = refl
plain_name _ name e b bs = cc

pub plain_number : (kind : TokenKind) (value : ℤ) → number_of kind ≡ Some value → IsPlain kind
plain_number (token.Number n whole) value e b bs = refl
plain_number _ value e b bs = cc

pub plain_text : (kind : TokenKind) (text : List ℕ) → text_of kind ≡ Some text → IsPlain kind
plain_text (token.Text t) text e b bs = refl
plain_text _ text e b bs = cc

-- ---- inside brackets

-- these scopes stand around a place, and at least so many `!` apply there
abbrev pub Inside : ℕ → List ℕ → List Token → Type 0
Inside n bs before = (b : ℕ) × (scopes_of before ≡ b ∷ bs) × (n ≤ b)

module _ {n : ℕ} {bs : List ℕ} (before : List Token) (t : Token) (here : Inside n bs before) where
  pub behind_plain : IsPlain t.kind → Inside n bs (t ∷ before)
  behind_plain plain = (here.0, scopes_at before t (here.0 ∷ bs) t.kind here.1 refl ∙ plain here.0 bs, here.2)

  pub behind_comma : IsSymbol symbol.Comma t → Inside 0 bs (t ∷ before)
  behind_comma is = (0, scopes_at before t (here.0 ∷ bs) (token.Symbol symbol.Comma) here.1 is, omega arith)

  pub behind_symbol : (s : Symbol) → IsPlain (token.Symbol s) → IsSymbol s t → Inside n bs (t ∷ before)
  behind_symbol s plain is = (here.0, scopes_at before t (here.0 ∷ bs) (token.Symbol s) here.1 is ∙ plain here.0 bs, here.2)

  pub behind_word : (w : Word) → IsWord w t → Inside n bs (t ∷ before)
  behind_word w is = (here.0, scopes_at before t (here.0 ∷ bs) (token.Word w) here.1 is, here.2)
