-- What a list begins with tells what it doesn't begin with.
use Rattle.std.specs.Prelude.{◌≡◌, ℕ, Bool, true, false, not, List, [], ◌∷◌, ◌++◌, Some}
use Rattle.std.proofs.Common.{refl, ap, ◌∙◌}
use Rattle.uvl_lexer.specs.declared.token.Token.{Token}
use Rattle.uvl_lexer.specs.declared.token.TokenKind.{TokenKind}
use Rattle.uvl_lexer.specs.declared.token.TokenKind.TheVariants as token
use Rattle.uvl_base.specs.declared.word.Word.{Word}
use Rattle.uvl_lexer.specs.declared.token.Symbol.{Symbol}
use Rattle.uvl_grammar.specs.Tokens.{name_of}
use Rattle.uvl_grammar.specs.steps.Tests.{Test, is_word, is_symbol, is_newline, is_dedent, is_finish}
use Rattle.uvl_grammar.proofs.TokenKinds.{symbol_kind, word_kind, newline_kind, dedent_kind, finish_kind}
use Rattle.uvl_grammar.proofs.Completing.{Begins, Avoids}

pub symbol_avoids : (s : Symbol) (test : Test) → test (token.Symbol s) ≡ false → (rest : List Token) → Begins (is_symbol s) rest → Avoids test rest
symbol_avoids s test e [] begins = tt
symbol_avoids s test e (t ∷ ts) begins = ap test (symbol_kind s t.kind begins) ∙ e

pub word_avoids : (w : Word) (test : Test) → test (token.Word w) ≡ false → (rest : List Token) → Begins (is_word w) rest → Avoids test rest
word_avoids w test e [] begins = tt
word_avoids w test e (t ∷ ts) begins = ap test (word_kind w t.kind begins) ∙ e

pub newline_avoids : (test : Test) → test token.Newline ≡ false → (rest : List Token) → Begins is_newline rest → Avoids test rest
newline_avoids test e [] begins = tt
newline_avoids test e (t ∷ ts) begins = ap test (newline_kind t.kind begins) ∙ e

pub dedent_avoids : (test : Test) → test token.Dedent ≡ false → (rest : List Token) → Begins is_dedent rest → Avoids test rest
dedent_avoids test e [] begins = tt
dedent_avoids test e (t ∷ ts) begins = ap test (dedent_kind t.kind begins) ∙ e

pub finish_avoids : (test : Test) → test token.Finish ≡ false → (rest : List Token) → Begins is_finish rest → Avoids test rest
finish_avoids test e [] begins = tt
finish_avoids test e (t ∷ ts) begins = ap test (finish_kind t.kind begins) ∙ e

-- whether a token is a name
abbrev pub is_name : Test
is_name (token.Name name quoted) = true
is_name _ = false

pub name_is : (kind : TokenKind) (name : List ℕ) → name_of kind ≡ Some name → is_name kind ≡ true
name_is (token.Name n quoted) name e = refl
name_is (token.Word w) name e = cc
name_is (token.Symbol s) name e = cc
name_is (token.Number value whole) name e = cc
name_is (token.Text text) name e = cc
name_is token.Indent name e = cc
name_is token.Dedent name e = cc
name_is token.Newline name e = cc
name_is token.Finish name e = cc

-- a test that no name passes
pub name_fails : (test : Test) → ((name : List ℕ) (quoted : Bool) → test (token.Name name quoted) ≡ false) → (kind : TokenKind) → is_name kind ≡ true → test kind ≡ false
name_fails test e (token.Name n quoted) is = e n quoted
name_fails test e (token.Word w) is = cc
name_fails test e (token.Symbol s) is = cc
name_fails test e (token.Number value whole) is = cc
name_fails test e (token.Text text) is = cc
name_fails test e token.Indent is = cc
name_fails test e token.Dedent is = cc
name_fails test e token.Newline is = cc
name_fails test e token.Finish is = cc

pub name_avoids : (test : Test) → ((name : List ℕ) (quoted : Bool) → test (token.Name name quoted) ≡ false) → (rest : List Token) → Begins is_name rest → Avoids test rest
name_avoids test e [] begins = tt
name_avoids test e (t ∷ ts) begins = name_fails test e t.kind begins

-- a list that begins so begins so with more behind it, and one that isn't empty avoids what it avoids
pub begins_longer : (test : Test) (xs ys : List Token) → Begins test xs → Begins test (xs ++ ys)
begins_longer test [] ys begins = absurd begins
begins_longer test (x ∷ xs) ys begins = begins

-- what begins with a token that passes one test avoids another, where no token passes both
pub begins_avoids : (test other : Test) → ((kind : TokenKind) → test kind ≡ true → other kind ≡ false) → (rest : List Token) → Begins test rest → Avoids other rest
begins_avoids test other apart [] begins = tt
begins_avoids test other apart (t ∷ ts) begins = apart t.kind begins

pub begins_not : (test other : Test) → ((kind : TokenKind) → test kind ≡ true → other kind ≡ false) → (xs : List Token) → Begins test xs → Begins (λ kind. not (other kind)) xs
begins_not test other apart [] begins = absurd begins
begins_not test other apart (t ∷ ts) begins = ap not (apart t.kind begins)
