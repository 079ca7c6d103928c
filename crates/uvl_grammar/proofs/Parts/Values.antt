-- Attributes and their values are read exactly.
use Rattle.std.specs.Prelude.{◌≡◌, ℕ, zero, suc, ◌<◌, ◌-◌, true, false, not, List, [], ◌∷◌, ◌++◌, ℤ, neg_ℤ, Some}
use Rattle.std.proofs.Common.{refl, sym, ap, subst, ◌∙◌, inl, inr, arith}
use Rattle.uvl_base.specs.declared.place.Place.{Place}
use Rattle.uvl_lexer.specs.declared.token.Token.{Token}
use Rattle.uvl_lexer.specs.declared.token.TokenKind.{TokenKind}
use Rattle.uvl_lexer.specs.declared.token.TokenKind.TheVariants as token
use Rattle.uvl_base.specs.declared.word.Word.TheVariants as word
use Rattle.uvl_lexer.specs.declared.token.Symbol.{Symbol}
use Rattle.uvl_lexer.specs.declared.token.Symbol.TheVariants as symbol
use Rattle.uvl_ast.specs.declared.feature.Attribute.{Attribute, roll-Attribute}
use Rattle.uvl_ast.specs.declared.feature.AttrValue.{AttrValue}
use Rattle.uvl_ast.specs.declared.feature.AttrValue.TheVariants as value
use Rattle.uvl_grammar.specs.Tokens.{name_of, number_of, text_of}
use Rattle.uvl_grammar.specs.steps.Tests.{is_symbol, begins_value}
use Rattle.uvl_grammar.specs.Shapes.{Spelling, Separated}
use Rattle.uvl_grammar.specs.Values.{SpellsAttribute, Bare, Valued, SpellsValue, Yes, No, Number, Negative, Words, Attributes, Vector, ValueWithin, SpellsPlain}
use Rattle.uvl_grammar.specs.steps.Reading.{Reader, bind, one, accept, choose}
use Rattle.uvl_grammar.specs.steps.Values.{value_of, simple_value, attribute_with, list_with, vector_with, value_with, value_at, attribute_at, attribute}
use Rattle.uvl_grammar.proofs.TokenKinds.{symbol_kind, kind_symbol}
use Rattle.uvl_grammar.proofs.Readers.{Good, Then, IsOne, IsAccepted, IsDone, Either, then_good, spelled_so, done_good, choose_good, good_accept, good_closed, opened, taken, respell}
use Rattle.uvl_grammar.proofs.Completing.{Complete, Anything, Begins, Avoids, one_complete, accept_complete, next_complete, then_complete, last_complete, done_complete, spelled_complete, stops_complete, choose_complete, complete_deeper, complete_closed, one_then, accept_then, part_then, part_last, done_now}
use Rattle.uvl_grammar.proofs.Opened.{good_opened, good_deeper}
use Rattle.uvl_grammar.proofs.Firsts.{symbol_avoids, name_is, name_fails, begins_longer, begins_not}
use Rattle.uvl_grammar.proofs.Shaped.{with_nothing, separated_good, separated_complete, PartsAvoid}
use Rattle.uvl_grammar.proofs.Parts.Samples.{sample, symbol_good, name_good, number_good}

-- ---- values that are one token or two

value_good : {d n : ℕ} → Good (λ m. accept value_of) (IsAccepted value_of) d n
value_good {d} {n} = good_accept value_of (sample (token.Word word.True)) value.Yes refl d n

abbrev SimpleParts : Spelling AttrValue
SimpleParts = Either (Then (IsOne (is_symbol symbol.Minus)) (λ minus. Then (IsAccepted number_of) (λ number. IsDone (value.Number (neg_ℤ number.0)))))
    (Then (IsAccepted value_of) (λ v. IsDone v.0))

-- what a token that is a value by itself spells
single : (V : Spelling AttrValue) (t : Token) (kind : TokenKind) → t.kind ≡ kind → (v : AttrValue) → value_of kind ≡ Some v
    → SpellsValue V (t ∷ []) v
single V t (token.Word word.True) is v e = respell (SpellsValue V) (Yes t is) refl (cc)
single V t (token.Word word.False) is v e = respell (SpellsValue V) (No t is) refl (cc)
single V t (token.Number number whole) is v e = respell (SpellsValue V) (Number t (ap number_of is)) refl (cc)
single V t (token.Text text) is v e = respell (SpellsValue V) (Words t (ap text_of is)) refl (cc)
single V t (token.Word w) is v e = cc
single V t (token.Symbol s) is v e = cc
single V t (token.Name name quoted) is v e = cc
single V t token.Indent is v e = cc
single V t token.Dedent is v e = cc
single V t token.Newline is v e = cc
single V t token.Finish is v e = cc

number_value : (kind : TokenKind) (number : ℤ) → number_of kind ≡ Some number → value_of kind ≡ Some (value.Number number)
number_value (token.Number n whole) number e = cc
number_value (token.Word w) number e = cc
number_value (token.Symbol s) number e = cc
number_value (token.Name name quoted) number e = cc
number_value (token.Text text) number e = cc
number_value token.Indent number e = cc
number_value token.Dedent number e = cc
number_value token.Newline number e = cc
number_value token.Finish number e = cc

text_value : (kind : TokenKind) (text : List ℕ) → text_of kind ≡ Some text → value_of kind ≡ Some (value.Words text)
text_value (token.Text t) text e = cc
text_value (token.Number n whole) text e = cc
text_value (token.Word w) text e = cc
text_value (token.Symbol s) text e = cc
text_value (token.Name name quoted) text e = cc
text_value token.Indent text e = cc
text_value token.Dedent text e = cc
text_value token.Newline text e = cc
text_value token.Finish text e = cc

simple_of : (V : Spelling AttrValue) (xs : List Token) (v : AttrValue) → SimpleParts xs v → SpellsValue V xs v
simple_of V xs v (inl t) =
    let minus = opened t in
    let number = taken minus.second in
    respell (SpellsValue V) (Negative minus.token number.token (symbol_kind symbol.Minus minus.token.kind minus.passes) number.gives) (cc) (cc)
simple_of V xs v (inr t) =
    let token = taken t in
    respell (SpellsValue V) (single V token.token token.token.kind refl token.value token.gives) (cc) (cc)

simple_good : {d n : ℕ} → Good (λ m. simple_value) SimpleParts d n
unfolding simple_value
simple_good = choose_good (is_symbol symbol.Minus) (then_good (symbol_good symbol.Minus) (λ minus. then_good number_good (λ number. done_good)))
    (then_good value_good (λ v. done_good))

-- ---- what is read is spelled

abbrev AttributeParts : Spelling AttrValue → Spelling Attribute
AttributeParts V = Then (IsAccepted name_of) (λ key. Either
    (Then V (λ v. IsDone (roll-Attribute (record { key = key.0; value = v; place = key.1 }))))
    (IsDone (roll-Attribute (record { key = key.0; value = value.Yes; place = key.1 }))))

valued_of : (V : Spelling AttrValue) (t : Token) (name : List ℕ) (ys : List Token) (a : Attribute) → name_of t.kind ≡ Some name
    → Either (Then V (λ v. IsDone (roll-Attribute (record { key = name; value = v; place = t.place }))))
    (IsDone (roll-Attribute (record { key = name; value = value.Yes; place = t.place }))) ys a
    → SpellsAttribute V (t ∷ ys) a
valued_of V t name ys a named (inl v) =
    respell (SpellsAttribute V) (Valued t named v.first) (ap (λ z. t ∷ z) (with_nothing v.joins v.second.nothing)) v.second.gives
valued_of V t name ys a named (inr none) = respell (SpellsAttribute V) (Bare t named) (ap (λ z. t ∷ z) none.nothing) none.gives

attribute_of : (V : Spelling AttrValue) (xs : List Token) (a : Attribute) → AttributeParts V xs a → SpellsAttribute V xs a
attribute_of V xs a t =
    let key = taken t in
    respell (SpellsAttribute V) (valued_of V key.token key.value key.back a key.gives key.second) key.joins refl

attribute_good : {p : ℕ → Reader AttrValue} {V : Spelling AttrValue} {d n : ℕ} → Good p V d n
    → Good (λ m. attribute_with (p m)) (SpellsAttribute V) d n
unfolding attribute_with
attribute_good {p} {V} good = spelled_so (attribute_of V) (then_good name_good (λ key. choose_good begins_value (then_good good (λ v. done_good)) done_good))

abbrev ListParts : Spelling AttrValue → Spelling AttrValue
ListParts V = Then (Separated (SpellsAttribute V)) (λ attributes. Then (IsOne (is_symbol symbol.RightBrace)) (λ right. IsDone (value.List attributes)))

list_good : {p : ℕ → Reader AttrValue} {V : Spelling AttrValue} {d n : ℕ} → Good p V d n → Good (λ m. list_with (p m)) (ListParts V) d n
unfolding list_with
list_good good = then_good (separated_good (is_symbol symbol.RightBrace) (attribute_good good)) (λ attributes. then_good (symbol_good symbol.RightBrace) (λ right. done_good))

abbrev VectorParts : Spelling AttrValue → Spelling AttrValue
VectorParts V = Then (Separated V) (λ values. Then (IsOne (is_symbol symbol.RightBracket)) (λ right. IsDone (value.Vector values)))

vector_good : {p : ℕ → Reader AttrValue} {V : Spelling AttrValue} {d n : ℕ} → Good p V d n → Good (λ m. vector_with (p m)) (VectorParts V) d n
unfolding vector_with
vector_good good = then_good (separated_good (is_symbol symbol.RightBracket) good) (λ values. then_good (symbol_good symbol.RightBracket) (λ right. done_good))

abbrev ValueParts : Spelling AttrValue → Spelling AttrValue
ValueParts V = Either (Then (IsOne (is_symbol symbol.LeftBrace)) (λ left. ListParts V))
    (Either (Then (IsOne (is_symbol symbol.LeftBracket)) (λ left. VectorParts V)) SimpleParts)

value_parts_of : (V : Spelling AttrValue) (xs : List Token) (v : AttrValue) → ValueParts V xs v → SpellsValue V xs v
value_parts_of V xs v (inl t) =
    let left = opened t in
    let right = opened left.second.second in
    respell (SpellsValue V) (Attributes left.token right.token (symbol_kind symbol.LeftBrace left.token.kind left.passes) left.second.first
    (symbol_kind symbol.RightBrace right.token.kind right.passes))
    (left.joins ∙ ap (λ z. left.token ∷ z) (left.second.joins ∙ ap (λ z. left.second.front ++ z) (right.joins ∙ ap (λ z. right.token ∷ z) right.second.nothing)))
    right.second.gives
value_parts_of V xs v (inr (inl t)) =
    let left = opened t in
    let right = opened left.second.second in
    respell (SpellsValue V) (Vector left.token right.token (symbol_kind symbol.LeftBracket left.token.kind left.passes) left.second.first
    (symbol_kind symbol.RightBracket right.token.kind right.passes))
    (left.joins ∙ ap (λ z. left.token ∷ z) (left.second.joins ∙ ap (λ z. left.second.front ++ z) (right.joins ∙ ap (λ z. right.token ∷ z) right.second.nothing)))
    right.second.gives
value_parts_of V xs v (inr (inr t)) = simple_of V xs v t

value_with_good : {p : ℕ → Reader AttrValue} {V : Spelling AttrValue} {d : ℕ} → Good p V d d → Good (λ m. value_with (p m)) (SpellsValue V) d (suc d)
unfolding value_with
value_with_good {p} {V} {d} good = spelled_so (value_parts_of V)
    (good_opened (is_symbol symbol.LeftBrace) (λ m left. list_with (p m)) (λ m. choose (is_symbol symbol.LeftBracket) (bind (one (is_symbol symbol.LeftBracket)) (λ left. vector_with (p m))) simple_value)
    (λ left. ListParts V) (Either (Then (IsOne (is_symbol symbol.LeftBracket)) (λ left. VectorParts V)) SimpleParts) d d (λ left. list_good good)
    (good_opened (is_symbol symbol.LeftBracket) (λ m left. vector_with (p m)) (λ m. simple_value) (λ left. VectorParts V) SimpleParts d d (λ left. vector_good good) simple_good))

value_step : (m : ℕ) (us : List Token) → value_at (suc m) us ≡ value_with (value_at m) us
unfolding value_at
value_step m us = refl

pub value_at_good : (d : ℕ) → Good value_at (ValueWithin d) d d
value_at_good zero = record { at = λ ts h. absurd (omega arith) }
value_at_good (suc d) = good_deeper value_at (λ m. value_with (value_at m)) (ValueWithin (suc d)) d (suc d) value_step (value_with_good (value_at_good d))

pub attribute_at_good : (d : ℕ) → Good attribute_at (SpellsAttribute (ValueWithin d)) d d
attribute_at_good d = attribute_good (value_at_good d)

-- attributes, however deep their values nest
pub plain_good : {d n : ℕ} → Good (λ m. attribute) SpellsPlain d n
plain_good {d} {n} = good_closed attribute_at (λ depth. SpellsAttribute (ValueWithin depth)) attribute_at_good d n

-- ---- what is spelled is read

-- no symbol is a value by itself
no_symbol : (symbol : Symbol) (kind : TokenKind) (v : AttrValue) → value_of kind ≡ Some v → is_symbol symbol kind ≡ false
no_symbol symbol (token.Symbol s) v e = cc
no_symbol symbol (token.Word w) v e = refl
no_symbol symbol (token.Number n whole) v e = refl
no_symbol symbol (token.Name name quoted) v e = refl
no_symbol symbol (token.Text text) v e = refl
no_symbol symbol token.Indent v e = refl
no_symbol symbol token.Dedent v e = refl
no_symbol symbol token.Newline v e = refl
no_symbol symbol token.Finish v e = refl

simple_complete : {d : ℕ} → Complete (λ m. simple_value) SimpleParts Anything d
unfolding simple_value
simple_complete = choose_complete (is_symbol symbol.Minus) (next_complete one_complete (λ minus. last_complete accept_complete)) (last_complete accept_complete)
    minus_begins others_avoid
  where
    minus_begins : (xs : List Token) (v : AttrValue) (rest : List Token)
        → Then (IsOne (is_symbol symbol.Minus)) (λ minus. Then (IsAccepted number_of) (λ number. IsDone (value.Number (neg_ℤ number.0)))) xs v
        → Anything rest → Begins (is_symbol symbol.Minus) (xs ++ rest)
    minus_begins xs v rest t any = let minus = opened t in
        subst (λ (z : List Token). Begins (is_symbol symbol.Minus) (z ++ rest)) (sym minus.joins) minus.passes

    others_avoid : (xs : List Token) (v : AttrValue) (rest : List Token) → Then (IsAccepted value_of) (λ v. IsDone v.0) xs v
        → Anything rest → Avoids (is_symbol symbol.Minus) (xs ++ rest)
    others_avoid xs v rest t any = let single = taken t in
        subst (λ (z : List Token). Avoids (is_symbol symbol.Minus) (z ++ rest)) (sym single.joins) (no_symbol symbol.Minus single.token.kind single.value single.gives)

-- a value begins with a token that a value may begin with
value_begins : (V : Spelling AttrValue) (xs : List Token) (v : AttrValue) → SpellsValue V xs v → Begins begins_value xs
value_begins V xs v (Yes t is) = ap begins_value is
value_begins V xs v (No t is) = ap begins_value is
value_begins V xs v (Number t is) = number_begins t.kind _ is
  where
    number_begins : (kind : TokenKind) (number : ℤ) → number_of kind ≡ Some number → begins_value kind ≡ true
    number_begins (token.Number n whole) number e = refl
    number_begins (token.Word w) number e = cc
    number_begins (token.Symbol s) number e = cc
    number_begins (token.Name name quoted) number e = cc
    number_begins (token.Text text) number e = cc
    number_begins token.Indent number e = cc
    number_begins token.Dedent number e = cc
    number_begins token.Newline number e = cc
    number_begins token.Finish number e = cc
value_begins V xs v (Negative minus t is number) = ap begins_value is
value_begins V xs v (Words t is) = text_begins t.kind _ is
  where
    text_begins : (kind : TokenKind) (text : List ℕ) → text_of kind ≡ Some text → begins_value kind ≡ true
    text_begins (token.Text t) text e = refl
    text_begins (token.Number n whole) text e = cc
    text_begins (token.Word w) text e = cc
    text_begins (token.Symbol s) text e = cc
    text_begins (token.Name name quoted) text e = cc
    text_begins token.Indent text e = cc
    text_begins token.Dedent text e = cc
    text_begins token.Newline text e = cc
    text_begins token.Finish text e = cc
value_begins V xs v (Attributes left right opens r closes) = ap begins_value opens
value_begins V xs v (Vector left right opens r closes) = ap begins_value opens

module _ {p : ℕ → Reader AttrValue} {V : Spelling AttrValue} {d : ℕ} (c : Complete p V Anything d)
    (begin : (xs : List Token) (v : AttrValue) → V xs v → Begins begins_value xs) where
  attribute_parts : (xs : List Token) (a : Attribute) → SpellsAttribute V xs a → AttributeParts V xs a
  attribute_parts xs a (Bare t named) = accept_then t named (inr done_now)
  attribute_parts xs a (Valued t named r) = accept_then t named (inl (part_last _ r))

  -- an attribute stops where no value follows
  attribute_complete : Complete (λ m. attribute_with (p m)) (SpellsAttribute V) (Avoids begins_value) d
  unfolding attribute_with
  attribute_complete = spelled_complete attribute_parts (next_complete accept_complete (λ key. choose_complete begins_value
      (last_complete (stops_complete (λ rest avoids. tt) c)) (done_complete (Avoids begins_value))
      (λ xs a rest t avoids. subst (λ (z : List Token). Begins begins_value (z ++ rest)) (sym (with_nothing t.joins t.second.nothing)) (begins_longer begins_value t.front rest (begin t.front t.middle t.first)))
      (λ xs a rest t avoids. subst (λ (z : List Token). Avoids begins_value (z ++ rest)) (sym t.nothing) avoids)))

  attributes_avoid : PartsAvoid (is_symbol symbol.RightBrace) (SpellsAttribute V)
  attributes_avoid xs a (Bare t named) = ap not (name_fails (is_symbol symbol.RightBrace) (λ name quoted. refl) t.kind (name_is t.kind _ named))
  attributes_avoid xs a (Valued t named r) = ap not (name_fails (is_symbol symbol.RightBrace) (λ name quoted. refl) t.kind (name_is t.kind _ named))

  list_complete : Complete (λ m. list_with (p m)) (ListParts V) Anything d
  unfolding list_with
  list_complete = then_complete (separated_complete (is_symbol symbol.RightBrace) attribute_complete attributes_avoid
      (symbol_avoids symbol.Comma begins_value refl) (symbol_avoids symbol.RightBrace begins_value refl) (symbol_avoids symbol.RightBrace (is_symbol symbol.Comma) refl))
      (λ attributes. next_complete one_complete (λ right. done_complete Anything))
      (λ attributes ys w rest t any. let right = opened t in
      subst (λ (z : List Token). Begins (is_symbol symbol.RightBrace) (z ++ rest)) (sym right.joins) right.passes)

  no_bracket : (kind : TokenKind) → begins_value kind ≡ true → is_symbol symbol.RightBracket kind ≡ false
  no_bracket (token.Symbol symbol.LeftBrace) e = refl
  no_bracket (token.Symbol symbol.LeftBracket) e = refl
  no_bracket (token.Symbol symbol.Minus) e = refl
  no_bracket (token.Symbol s) e = cc
  no_bracket (token.Word w) e = refl
  no_bracket (token.Number n whole) e = refl
  no_bracket (token.Name name quoted) e = refl
  no_bracket (token.Text text) e = refl
  no_bracket token.Indent e = refl
  no_bracket token.Dedent e = refl
  no_bracket token.Newline e = refl
  no_bracket token.Finish e = refl

  values_avoid : PartsAvoid (is_symbol symbol.RightBracket) V
  values_avoid xs v r = begins_not begins_value (is_symbol symbol.RightBracket) no_bracket xs (begin xs v r)

  vector_complete : Complete (λ m. vector_with (p m)) (VectorParts V) Anything d
  unfolding vector_with
  vector_complete = then_complete (separated_complete (is_symbol symbol.RightBracket) c values_avoid
      (λ rest begins. tt) (λ rest begins. tt) (symbol_avoids symbol.RightBracket (is_symbol symbol.Comma) refl))
      (λ values. next_complete one_complete (λ right. done_complete Anything))
      (λ values ys w rest t any. let right = opened t in
      subst (λ (z : List Token). Begins (is_symbol symbol.RightBracket) (z ++ rest)) (sym right.joins) right.passes)

  value_parts : (xs : List Token) (v : AttrValue) → SpellsValue V xs v → ValueParts V xs v
  value_parts xs v (Yes t is) = inr (inr (inr (accept_then t (ap value_of is) done_now)))
  value_parts xs v (No t is) = inr (inr (inr (accept_then t (ap value_of is) done_now)))
  value_parts xs v (Number t number) = inr (inr (inr (accept_then t (number_value t.kind _ number) done_now)))
  value_parts xs v (Negative minus t is number) = inr (inr (inl (one_then minus (kind_symbol symbol.Minus minus.kind is) (accept_then t number done_now))))
  value_parts xs v (Words t text) = inr (inr (inr (accept_then t (text_value t.kind _ text) done_now)))
  value_parts xs v (Attributes left right opens r closes) =
      inl (one_then left (kind_symbol symbol.LeftBrace left.kind opens) (part_then _ _ _ r (one_then right (kind_symbol symbol.RightBrace right.kind closes) done_now)))
  value_parts xs v (Vector left right opens r closes) =
      inr (inl (one_then left (kind_symbol symbol.LeftBracket left.kind opens) (part_then _ _ _ r (one_then right (kind_symbol symbol.RightBracket right.kind closes) done_now))))

  opens_with : {S : Place → Spelling AttrValue} (s : Symbol) (xs : List Token) (v : AttrValue) (rest : List Token) → Then (IsOne (is_symbol s)) S xs v → Begins (is_symbol s) (xs ++ rest)
  opens_with s xs v rest t = let left = opened t in subst (λ (z : List Token). Begins (is_symbol s) (z ++ rest)) (sym left.joins) left.passes

  simple_avoids : (s : Symbol) → is_symbol s (token.Symbol symbol.Minus) ≡ false → (xs : List Token) (v : AttrValue) (rest : List Token) → SimpleParts xs v → Avoids (is_symbol s) (xs ++ rest)
  simple_avoids s apart xs v rest (inl t) = symbol_avoids symbol.Minus (is_symbol s) apart (xs ++ rest) (opens_with symbol.Minus xs v rest t)
  simple_avoids s apart xs v rest (inr t) = let single = taken t in
      subst (λ (z : List Token). Avoids (is_symbol s) (z ++ rest)) (sym single.joins) (no_symbol s single.token.kind single.value single.gives)

  brackets_avoid : (xs : List Token) (v : AttrValue) (rest : List Token)
      → Either (Then (IsOne (is_symbol symbol.LeftBracket)) (λ left. VectorParts V)) SimpleParts xs v → Anything rest → Avoids (is_symbol symbol.LeftBrace) (xs ++ rest)
  brackets_avoid xs v rest (inl t) any = symbol_avoids symbol.LeftBracket (is_symbol symbol.LeftBrace) refl (xs ++ rest) (opens_with symbol.LeftBracket xs v rest t)
  brackets_avoid xs v rest (inr t) any = simple_avoids symbol.LeftBrace refl xs v rest t

  value_with_complete : Complete (λ m. value_with (p m)) (SpellsValue V) Anything d
  unfolding value_with
  value_with_complete = spelled_complete value_parts (choose_complete (is_symbol symbol.LeftBrace) (next_complete one_complete (λ left. list_complete))
      (choose_complete (is_symbol symbol.LeftBracket) (next_complete one_complete (λ left. vector_complete)) simple_complete
      (λ xs v rest t any. opens_with symbol.LeftBracket xs v rest t) (λ xs v rest t any. simple_avoids symbol.LeftBracket refl xs v rest t))
      (λ xs v rest t any. opens_with symbol.LeftBrace xs v rest t) brackets_avoid)

within_begins : (d : ℕ) (xs : List Token) (v : AttrValue) → ValueWithin d xs v → Begins begins_value xs
within_begins zero xs v r = absurd r
within_begins (suc d) xs v r = value_begins (ValueWithin d) xs v r

pub value_at_complete : (d : ℕ) → Complete value_at (ValueWithin d) Anything d
value_at_complete zero = record { reads = λ m le xs v rest r any. absurd r }
value_at_complete (suc d) = complete_deeper value_at (λ m. value_with (value_at m)) (ValueWithin (suc d)) Anything d value_step
    (value_with_complete (value_at_complete d) (within_begins d))

-- an attribute stops where no value follows, however deep its value nests
pub plain_complete : {d : ℕ} → Complete (λ m. attribute) SpellsPlain (Avoids begins_value) d
plain_complete {d} = complete_closed attribute_at (λ depth. SpellsAttribute (ValueWithin depth)) (Avoids begins_value) attribute_at_good
    (λ depth. attribute_complete (value_at_complete depth) (within_begins depth)) d

-- one deeper
pub value_above : (depth : ℕ) (ts : List Token) → 0 < depth → value_at depth ts ≡ value_with (value_at (depth - 1)) ts
unfolding value_at
value_above zero ts some = absurd (omega arith)
value_above (suc depth) ts some = let below : suc depth - 1 ≡ depth = omega arith in ap (λ d. value_with (value_at d) ts) (sym below)
