-- The texts of the lines of `include`.
use Rattle.std.specs.Prelude.{◌≡◌, ℕ, suc, ◌+◌, ◌-◌, ◌<◌, ◌≤◌, Bool, true, false, List, [], ◌∷◌, ◌++◌, length, Result, Ok, Err, OnOk, is_ok, if◌then◌else◌, Option, Some, None, IsUtf8}
use Rattle.std.specs.Str.{chars}
use Rattle.std.proofs.Common.{refl, sym, ap, ◌∙◌, append_assoc, append-nil, arith}
use Rattle.std.proofs.lemmas.Str.{chars-append, chars-nil}
use Rattle.uvl_base.specs.declared.place.Place.{Place}
use Rattle.uvl_lexer.specs.declared.token.Token.{Token}
use Rattle.uvl_lexer.specs.declared.token.TokenKind.TheVariants as token
use Rattle.uvl_base.specs.declared.word.Word.{Word}
use Rattle.uvl_base.specs.declared.word.Word.TheVariants as word
use Rattle.uvl_lexer.specs.declared.token.Symbol.{Symbol}
use Rattle.uvl_lexer.specs.declared.token.Symbol.TheVariants as symbol
use Rattle.uvl_base.specs.ReservedWords.{characters_of_word}
use Rattle.uvl_grammar.specs.steps.Tests.{begins, is_newline}
use Rattle.uvl_grammar.specs.Sections.{level_part, written_name, joined}
use Rattle.uvl_grammar.specs.steps.Reading.{Read, ◌>>=◌, done, bind, one, accept, accepted, one_or_more, many, repeat, with_front}
use Rattle.uvl_grammar.specs.steps.Sections.{is_level_part, level_token, level}
use Rattle.uvl_parser.specs.steps.LanguageLevels.{text_onto, texts_onto, line_text, level_text, Pushes}
use Rattle.uvl_parser.proofs.Turns.{turns_out, turns_end, turn_reads, turn_stops}

-- ---- what is put behind a text

-- what `push_str` leaves, in characters
pub pushed_text : {X E : Type 0} (r : Result X E) (old new text : List ℕ) → IsUtf8 old → new ≡ (if is_ok r then old ++ text else old)
    → OnOk r (chars new ≡ chars old ++ chars text)
pushed_text (Ok x) old new text utf8 e = ap chars e ∙ chars-append old text utf8
pushed_text (Err x) old new text utf8 e = tt

quote_is : chars (34 ∷ []) ≡ 34 ∷ []
unfolding chars
quote_is = refl

-- the same text, said otherwise
pub appended : (old new text other : List ℕ) → new ≡ old ++ text → text ≡ other → new ≡ old ++ other
appended old new text other e f = e ∙ ap (λ z. old ++ z) f

pub quoted_text : (old first second last name : List ℕ) (quoted : Bool) → first ≡ old ++ chars (34 ∷ []) → second ≡ first ++ name
    → last ≡ second ++ chars (34 ∷ []) → quoted ≡ true → last ≡ old ++ written_name name quoted
quoted_text old first second last name quoted e f g is =
    appended second last _ _ g quote_is ∙ ap (λ z. z ++ 34 ∷ []) (f ∙ ap (λ z. z ++ name) (appended old first _ _ e quote_is))
    ∙ ap (λ z. z ++ 34 ∷ []) (append_assoc old (34 ∷ []) name) ∙ append_assoc old (34 ∷ name) (34 ∷ [])
    ∙ ap (λ z. old ++ written_name name z) (sym is)

pub word_chars : (w : Word) → chars (characters_of_word w) ≡ characters_of_word w
unfolding chars
word_chars word.Namespace = refl
word_chars word.Include = refl
word_chars word.Imports = refl
word_chars word.As = refl
word_chars word.Features = refl
word_chars word.Constraints = refl
word_chars word.Constraint = refl
word_chars word.Mandatory = refl
word_chars word.Optional = refl
word_chars word.Alternative = refl
word_chars word.Or = refl
word_chars word.Cardinality = refl
word_chars word.Sum = refl
word_chars word.Avg = refl
word_chars word.Len = refl
word_chars word.Floor = refl
word_chars word.Ceil = refl
word_chars word.True = refl
word_chars word.False = refl
word_chars word.Boolean = refl
word_chars word.String = refl
word_chars word.Integer = refl
word_chars word.Real = refl

one_char : (c : ℕ) (bytes : List ℕ) → Some bytes ≡ Some (c ∷ []) → chars (c ∷ []) ≡ c ∷ [] → chars bytes ≡ bytes
one_char c bytes e f = let same : bytes ≡ c ∷ [] = cc in ap chars same ∙ f ∙ sym same

dot_is : chars (46 ∷ []) ≡ 46 ∷ []
unfolding chars
dot_is = refl

minus_is : chars (45 ∷ []) ≡ 45 ∷ []
unfolding chars
minus_is = refl

star_is : chars (42 ∷ []) ≡ 42 ∷ []
unfolding chars
star_is = refl

pub symbol_chars : (s : Symbol) (bytes : List ℕ) → Some bytes ≡ level_part (token.Symbol s) → chars bytes ≡ bytes
symbol_chars symbol.Dot bytes e = one_char 46 bytes e dot_is
symbol_chars symbol.Minus bytes e = one_char 45 bytes e minus_is
symbol_chars symbol.Star bytes e = one_char 42 bytes e star_is
symbol_chars _ bytes e = absurd (cc)

-- ---- one token

pub pushed_so : (o : Option (List ℕ)) (pushed : Bool) (old new : List ℕ) → Pushes o pushed old new → pushed ≡ true
    → (part : List ℕ) × (o ≡ Some part) × (new ≡ old ++ part)
pushed_so (Some part) pushed old new p e = (part, refl, p.1)
pushed_so None pushed old new p e = absurd (cc)

pub not_pushed : (o : Option (List ℕ)) (pushed : Bool) (old new : List ℕ) → Pushes o pushed old new → pushed ≡ false → o ≡ None
not_pushed (Some part) pushed old new p e = let t = p.0 in absurd (cc)
not_pushed None pushed old new p e = refl

pub token_read : (old new : List ℕ) (ts : List Token) (t : Token) (rest : List Token) (pushed : Bool) → ts ≡ t ∷ rest
    → Pushes (level_part t.kind) pushed old new → pushed ≡ true → text_onto old (level_token ts) ≡ Ok (new, rest)
unfolding level_token bind accept done
token_read old new ts t rest pushed e p f =
    let part = pushed_so (level_part t.kind) pushed old new p f in
    ap (λ z. text_onto old (level_token z)) e
    ∙ ap (λ o. text_onto old (accepted o t rest >>= λ r. Ok (r.0.0, r.1))) part.1
    ∙ ap (λ z. Ok (z, rest)) (sym part.2)

pub token_refused : (old new : List ℕ) (ts : List Token) (t : Token) (rest : List Token) (pushed : Bool) → ts ≡ t ∷ rest
    → Pushes (level_part t.kind) pushed old new → pushed ≡ false → text_onto old (level_token ts) ≡ Err (length ts)
unfolding level_token bind accept done
token_refused old new ts t rest pushed e p f =
    let none = not_pushed (level_part t.kind) pushed old new p f in
    ap (λ z. text_onto old (level_token z)) e
    ∙ ap (λ o. text_onto old (accepted o t rest >>= λ r. Ok (r.0.0, r.1))) none
    ∙ ap (λ z. Err (length z)) (sym e)

pub token_missing : (old : List ℕ) (ts : List Token) → length ts ≡ 0 → text_onto old (level_token ts) ≡ Err 0
unfolding level_token bind accept done
token_missing old [] e = refl
token_missing old (t ∷ ts) e = absurd (omega arith)

-- ---- the tokens of a line

texts_front : (text part : List ℕ) (r : Read (List (List ℕ))) → texts_onto text (with_front (part ∷ []) r) ≡ texts_onto (text ++ part) r
texts_front text part (Ok r) = ap (λ z. Ok (z, r.1)) (sym (append_assoc text part (joined r.0)))
texts_front text part (Err left) = refl

texts_same : (text : List ℕ) (r : Read (List (List ℕ))) → texts_onto text (with_front [] r) ≡ texts_onto text r
texts_same text (Ok r) = refl
texts_same text (Err left) = refl

-- what a token was read as
token_part : (text later : List ℕ) (rest : List Token) (r : Read (List ℕ)) → text_onto text r ≡ Ok (later, rest)
    → (part : List ℕ) × (r ≡ Ok (part, rest)) × (later ≡ text ++ part)
token_part text later rest (Ok x) e =
    let same : (text ++ x.0, x.1) ≡ (later, rest) = cc in
    (x.0, ap (λ (z : List ℕ × List Token). Ok (x.0, z.1)) same, sym (ap (λ (z : List ℕ × List Token). z.0) same))
token_part text later rest (Err left) e = absurd (cc)

token_stop : (text : List ℕ) (left : ℕ) (r : Read (List ℕ)) → text_onto text r ≡ Err left → r ≡ Err left
token_stop text left (Ok x) e = absurd (cc)
token_stop text left (Err n) e = cc

module _ (whole : Read (List ℕ)) where
  -- what is built so far, and what the turns that are left read
  abbrev pub TextsLeft : List ℕ → ℕ → ℕ → List Token → Type 0
  TextsLeft text end turn ts = texts_onto text (repeat (end - turn) is_level_part level_token ts) ≡ whole

  pub text_taken : (text later : List ℕ) (end turn : ℕ) (ts rest : List Token) → TextsLeft text end turn ts → turn < end
      → begins is_level_part ts ≡ true → text_onto text (level_token ts) ≡ Ok (later, rest) → TextsLeft later end (turn + 1) rest
  text_taken text later end turn ts rest so_far within e reads =
      let counts : end - turn ≡ suc (end - (turn + 1)) = omega arith in
      let part = token_part text later rest (level_token ts) reads in
      ap (λ z. texts_onto z (repeat (end - (turn + 1)) is_level_part level_token rest)) part.2
      ∙ sym (texts_front text part.0 (repeat (end - (turn + 1)) is_level_part level_token rest))
      ∙ ap (texts_onto text) (sym (turn_reads is_level_part level_token [] (end - turn) (end - (turn + 1)) ts part.0 rest counts e part.1))
      ∙ texts_same text (repeat (end - turn) is_level_part level_token ts)
      ∙ so_far

  pub text_failed : (text : List ℕ) (end turn : ℕ) (ts : List Token) (left : ℕ) → TextsLeft text end turn ts → turn < end
      → begins is_level_part ts ≡ true → text_onto text (level_token ts) ≡ Err left → whole ≡ Err left
  text_failed text end turn ts left so_far within e stops =
      let counts : end - turn ≡ suc (end - (turn + 1)) = omega arith in
      sym so_far ∙ sym (texts_same text (repeat (end - turn) is_level_part level_token ts))
      ∙ ap (texts_onto text) (turn_stops is_level_part level_token [] (end - turn) (end - (turn + 1)) ts left counts e (token_stop text left (level_token ts) stops))

  pub text_ended : (text : List ℕ) (end turn : ℕ) (ts : List Token) → TextsLeft text end turn ts → begins is_level_part ts ≡ false
      → whole ≡ Ok (text, ts)
  text_ended text end turn ts so_far e =
      sym so_far ∙ sym (texts_same text (repeat (end - turn) is_level_part level_token ts))
      ∙ ap (texts_onto text) (turns_end is_level_part level_token [] (end - turn) ts e) ∙ ap (λ z. Ok (z, ts)) (append-nil text)

  pub text_over : (text : List ℕ) (end turn : ℕ) (ts : List Token) → TextsLeft text end turn ts → end ≤ turn → whole ≡ Ok (text, ts)
  text_over text end turn ts so_far over =
      let none : end - turn ≡ 0 = omega arith in
      sym so_far ∙ sym (texts_same text (repeat (end - turn) is_level_part level_token ts))
      ∙ ap (texts_onto text) (turns_out is_level_part level_token [] (end - turn) ts none) ∙ ap (λ z. Ok (z, ts)) (append-nil text)

pub texts_begin : (text : List ℕ) (ts : List Token) → TextsLeft (texts_onto text (many is_level_part level_token ts)) text (length ts) 0 ts
unfolding many
texts_begin text ts =
    let all : length ts - 0 ≡ length ts = omega arith in ap (λ z. texts_onto text (repeat z is_level_part level_token ts)) all

-- ---- lines

line_as : (r : Read (List ℕ)) (more : List Token → Read (List (List ℕ))) (end : List Token → Read Place)
    → ((r >>= λ a. more a.1 >>= λ b. Ok (a.0 ∷ b.0, b.1)) >>= λ z. end z.1 >>= λ n. Ok (joined z.0, n.1))
    ≡ ((text_onto [] r >>= λ a. texts_onto a.0 (more a.1)) >>= λ z. end z.1 >>= λ n. Ok (z.0, n.1))
line_as (Ok a) more end = behind (more a.1)
  where
    behind : (r : Read (List (List ℕ))) → ((r >>= λ b. Ok (a.0 ∷ b.0, b.1)) >>= λ z. end z.1 >>= λ n. Ok (joined z.0, n.1))
        ≡ (texts_onto a.0 r >>= λ z. end z.1 >>= λ n. Ok (z.0, n.1))
    behind (Ok b) = refl
    behind (Err left) = refl
line_as (Err left) more end = refl

-- a line's text is the spellings of its tokens, whether they are put together at once or one by one
pub level_is : (ts : List Token) → level ts ≡ level_text ts
unfolding level level_text line_text one_or_more bind done
level_is ts = line_as (level_token ts) (many is_level_part level_token) (one is_newline)

pub line_read : (start middle whole : List ℕ) (ts behind rest : List Token) → start ≡ [] → text_onto (chars start) (level_token ts) ≡ Ok (middle, behind)
    → texts_onto middle (many is_level_part level_token behind) ≡ Ok (whole, rest) → line_text ts ≡ Ok (whole, rest)
unfolding line_text
line_read start middle whole ts behind rest e f g =
    ap (λ z. text_onto z (level_token ts) >>= λ r. texts_onto r.0 (many is_level_part level_token r.1)) (sym nothing ∙ sym (ap chars e))
    ∙ ap (λ r. r >>= λ z. texts_onto z.0 (many is_level_part level_token z.1)) f ∙ g
  where
    nothing : chars [] ≡ []
    nothing = chars-nil

-- a fact that follows from another, where the call succeeds
pub on_ok : {X E : Type 0} (r : Result X E) (P Q : Type 0) → OnOk r P → (P → Q) → OnOk r Q
on_ok (Ok x) P Q p f = f p
on_ok (Err e) P Q p f = tt
