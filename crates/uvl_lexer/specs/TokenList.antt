-- What holds of the tokens of every text, and what those who read tokens rest on.
use Rattle.std.specs.Prelude.{◌≡◌, ℕ, ◌*◌, ⊤, Bool, IsTrue, ℤ, pos, List, [], ◌∷◌, ◌++◌}
use Rattle.std.specs.List.{list_all}
use Rattle.uvl_base.specs.Name.{is_name}
use Rattle.uvl_lexer.specs.declared.token.Token.{Token}
use Rattle.uvl_lexer.specs.declared.token.TokenKind.{TokenKind}
use Rattle.uvl_lexer.specs.declared.token.TokenKind.TheVariants as token
use Rattle.uvl_lexer.specs.Characters.{may_stand_in_text}
use Rattle.uvl_lexer.specs.Layout.{Tokens}

-- a number of so many millionths isn't negative, and without a point it is a number of ones
pub record IsUnsigned (value : ℤ) (whole : Bool) : Type 0 where
  pub millionths : ℕ
  pub unsigned : value ≡ pos millionths
  pub in_ones : IsTrue whole → (ones : ℕ) × (millionths ≡ ones * 1000000)

-- what a token carries can be spelled, and the token isn't the end of the text
abbrev pub IsInner : TokenKind → Type 0
IsInner (token.Name name quoted) = IsTrue (is_name name)
IsInner (token.Word w) = ⊤
IsInner (token.Number value whole) = IsUnsigned value whole
IsInner (token.Text text) = IsTrue (list_all may_stand_in_text text)
IsInner (token.Symbol s) = ⊤
IsInner token.Indent = ⊤
IsInner token.Dedent = ⊤
IsInner token.Newline = ⊤
IsInner token.Finish = ⊥

-- each of the tokens is such
abbrev pub AreInner : List Token → Type 0
AreInner [] = ⊤
AreInner (t ∷ ts) = IsInner t.kind × AreInner ts

-- the last token, and no other, is the end of the text, and the others can be spelled
pub record IsTokenList (tokens : List Token) : Type 0 where
  pub front : List Token
  pub end : Token
  pub joined : tokens ≡ front ++ end ∷ []
  pub finish : end.kind ≡ token.Finish
  pub inner : AreInner front

-- the tokens of a text are such a list
abbrev pub TokensAreAList : Type 0
TokensAreAList = (text : List ℕ) (tokens : List Token) → Tokens text tokens → IsTokenList tokens
