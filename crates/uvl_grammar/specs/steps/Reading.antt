-- Readers, and how they are put together. A reader takes a part from the front of a list of tokens. It
-- answers the part and the tokens behind it, or how many tokens are left where it stops: no part begins
-- with the tokens up to and with the first of those.
use Rattle.std.specs.Prelude.{◌≡◌, ℕ, zero, suc, cond, List, [], ◌∷◌, ◌++◌, length, Result, Ok, Err, Option, Some, None}
use Rattle.uvl_base.specs.declared.place.Place.{Place}
use Rattle.uvl_lexer.specs.declared.token.Token.{Token}
use Rattle.uvl_lexer.specs.declared.token.TokenKind.{TokenKind}
use Rattle.uvl_lexer.specs.declared.token.Symbol.TheVariants as symbol
use Rattle.uvl_grammar.specs.steps.Tests.{Test, is_symbol, is_indent, is_dedent, stays, begins}

abbrev pub Read : Type 0 → Type 0
Read A = Result (A × List Token) ℕ

abbrev pub Reader : Type 0 → Type 0
Reader A = List Token → Read A

-- what is read, and then what f makes of it
infixl 10 ◌>>=◌
abbrev pub ◌>>=◌ : {A B : Type 0} → Read A → (A × List Token → Read B) → Read B
(Ok r) >>= f = f r
(Err left) >>= f = Err left

-- nothing is taken
unfoldable pub done : {A : Type 0} → A → Reader A
done a ts = Ok (a, ts)

-- one reader behind the other, which depends on what the first one read
unfoldable pub bind : {A B : Type 0} → Reader A → (A → Reader B) → Reader B
bind p f ts = p ts >>= λ r. f r.0 r.1

-- a token that passes a test, of which the place is kept
unfoldable pub one : Test → Reader Place
one test [] = Err 0
one test (t ∷ ts) = cond (test t.kind) (Ok (t.place, ts)) (Err (suc (length ts)))

abbrev pub accepted : {A : Type 0} → Option A → Token → List Token → Read (A × Place)
accepted (Some a) t ts = Ok ((a, t.place), ts)
accepted None t ts = Err (suc (length ts))

-- a token that is something, with its place
unfoldable pub accept : {A : Type 0} → (TokenKind → Option A) → Reader (A × Place)
accept f [] = Err 0
accept f (t ∷ ts) = accepted (f t.kind) t ts

-- one of two readers, by the first token: the second where there is none
unfoldable pub choose : {A : Type 0} → Test → Reader A → Reader A → Reader A
choose test p q ts = cond (begins test ts) (p ts) (q ts)

-- none or more, while the first token passes a test, and at most so many
unfoldable pub repeat : {A : Type 0} → ℕ → Test → Reader A → Reader (List A)
repeat zero test p ts = Ok ([], ts)
repeat (suc n) test p ts =
    choose test (bind p (λ a. bind (repeat n test p) (λ items. done (a ∷ items)))) (done []) ts

-- none or more, while the first token passes a test: there are no more than there are tokens
unfoldable pub many : {A : Type 0} → Test → Reader A → Reader (List A)
many test p ts = repeat (length ts) test p ts

-- one or more, while the first token passes a test
unfoldable pub one_or_more : {A : Type 0} → Test → Reader A → Reader (List A)
one_or_more test p = bind p (λ a. bind (many test p) (λ items. done (a ∷ items)))

-- a part behind a comma
unfoldable pub behind_comma : {A : Type 0} → Reader A → Reader A
behind_comma p = bind (one (is_symbol symbol.Comma)) (λ comma. p)

-- none or more with commas between them, in front of a token that closes them
unfoldable pub separated : {A : Type 0} → Test → Reader A → Reader (List A)
separated closes p =
    choose closes (done [])
    (bind p (λ a. bind (many (is_symbol symbol.Comma) (behind_comma p)) (λ items. done (a ∷ items))))

-- one or more, indented, or nothing
unfoldable pub body : {A : Type 0} → Reader A → Reader (List A)
body p =
    choose is_indent
    (bind (one is_indent) (λ indent. bind (one_or_more stays p) (λ items. bind (one is_dedent) (λ dedent. done items))))
    (done [])

-- what is read, behind what was read before
abbrev pub with_front : {A : Type 0} → List A → Read (List A) → Read (List A)
with_front front read = read >>= λ r. Ok (front ++ r.0, r.1)

-- a reader for parts that nest, which nest no deeper than there are tokens
unfoldable pub closed : {A : Type 0} → (ℕ → Reader A) → Reader A
closed p ts = p (suc (length ts)) ts
