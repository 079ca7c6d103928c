-- The shapes of productions are read exactly, where their parts are.
use Rattle.std.specs.Prelude.{◌≡◌, ℕ, Bool, true, false, not, List, [], ◌∷◌, ◌++◌}
use Rattle.std.proofs.Common.{refl, sym, ap, subst, ◌∙◌, inl, inr, append_assoc, append-nil, arith}
use Rattle.uvl_lexer.specs.declared.token.Token.{Token}
use Rattle.uvl_lexer.specs.declared.token.Symbol.TheVariants as symbol
use Rattle.uvl_grammar.specs.steps.Tests.{Test, is_symbol, is_indent, is_dedent, stays}
use Rattle.uvl_grammar.specs.Shapes.{Spelling, Repeated, None_more, One_more, OneOrMore, First, BehindComma, Comma, Separated, Nothing, Parts, Body, No_body, Indented}
use Rattle.uvl_grammar.specs.steps.Reading.{Reader, one_or_more, behind_comma, separated, body}
use Rattle.uvl_grammar.proofs.TokenKinds.{symbol_kind, kind_symbol, indent_kind, dedent_kind}
use Rattle.uvl_grammar.proofs.Readers.{Good, Then, IsOne, IsDone, Either, HasToken, then_good, spelled_so, done_good, many_good, choose_good, opened, respell}
use Rattle.uvl_grammar.proofs.Completing.{Rest, Complete, Anything, Begins, Avoids, PartsBegin, one_complete, next_complete, then_complete, last_complete, done_complete, spelled_complete, stops_complete, many_complete, parts_complete, choose_complete, one_then, part_then, part_last, done_now}
use Rattle.uvl_grammar.proofs.Parts.Samples.{symbol_good, indent_good, dedent_good}

-- what stands in front of nothing
pub with_nothing : {xs ys zs : List Token} → xs ≡ ys ++ zs → zs ≡ [] → xs ≡ ys
with_nothing {xs} {ys} {zs} e nothing = e ∙ ap (λ z. ys ++ z) nothing ∙ append-nil ys

-- ---- one or more

abbrev OneOrMoreParts : {A : Type 0} → Spelling A → Spelling (List A)
OneOrMoreParts R = Then R (λ a. Then (Repeated R) (λ items. IsDone (a ∷ items)))

one_or_more_of : {A : Type 0} (R : Spelling A) (xs : List Token) (v : List A) → OneOrMoreParts R xs v → OneOrMore R xs v
one_or_more_of R xs v t =
    respell (OneOrMore R) (First t.first t.second.first)
    (t.joins ∙ ap (λ z. t.front ++ z) (with_nothing t.second.joins t.second.second.nothing)) t.second.second.gives

one_or_more_parts : {A : Type 0} (R : Spelling A) (xs : List Token) (v : List A) → OneOrMore R xs v → OneOrMoreParts R xs v
one_or_more_parts R xs v (First r rs) = part_then _ _ _ r (part_last _ rs)

pub one_or_more_good : {A : Type 0} (test : Test) {p : ℕ → Reader A} {R : Spelling A} {d n : ℕ}
    → Good p R d n → HasToken R → Good (λ m. one_or_more test (p m)) (OneOrMore R) d n
unfolding one_or_more
one_or_more_good test {p} {R} good has = spelled_so (one_or_more_of R) (then_good good (λ a. then_good (many_good test good has) (λ items. done_good)))

-- ---- behind a comma

comma_of : {A : Type 0} (R : Spelling A) (xs : List Token) (v : A) → Then (IsOne (is_symbol symbol.Comma)) (λ comma. R) xs v → BehindComma R xs v
comma_of R xs v t =
    let comma = opened t in
    respell (BehindComma R) (Comma comma.token (symbol_kind symbol.Comma comma.token.kind comma.passes) comma.second) comma.joins refl

comma_parts : {A : Type 0} (R : Spelling A) (xs : List Token) (v : A) → BehindComma R xs v → Then (IsOne (is_symbol symbol.Comma)) (λ comma. R) xs v
comma_parts R xs v (Comma comma is r) = one_then comma (kind_symbol symbol.Comma comma.kind is) r

pub comma_good : {A : Type 0} {p : ℕ → Reader A} {R : Spelling A} {d n : ℕ} → Good p R d n → Good (λ m. behind_comma (p m)) (BehindComma R) d n
unfolding behind_comma
comma_good {p} {R} good = spelled_so (comma_of R) (then_good (symbol_good symbol.Comma) (λ comma. good))

pub comma_complete : {A : Type 0} {p : ℕ → Reader A} {R : Spelling A} {Stops : Rest} {d : ℕ} → Complete p R Stops d
    → Complete (λ m. behind_comma (p m)) (BehindComma R) Stops d
unfolding behind_comma
comma_complete {A} {p} {R} c = spelled_complete (comma_parts R) (next_complete one_complete (λ comma. c))

commas_have : {A : Type 0} (R : Spelling A) → HasToken (BehindComma R)
commas_have R xs v (Comma comma is r) = omega arith

commas_begin : {A : Type 0} (R : Spelling A) → PartsBegin (is_symbol symbol.Comma) (BehindComma R)
commas_begin R xs v (Comma comma is r) = kind_symbol symbol.Comma comma.kind is

-- ---- with commas between them

abbrev SomeSeparated : {A : Type 0} → Spelling A → Spelling (List A)
SomeSeparated R = Then R (λ a. Then (Repeated (BehindComma R)) (λ items. IsDone (a ∷ items)))

separated_of : {A : Type 0} (R : Spelling A) (xs : List Token) (v : List A) → Either (IsDone []) (SomeSeparated R) xs v → Separated R xs v
separated_of R xs v (inl t) = respell (Separated R) Nothing t.nothing t.gives
separated_of R xs v (inr t) =
    respell (Separated R) (Parts t.first t.second.first)
    (t.joins ∙ ap (λ z. t.front ++ z) (with_nothing t.second.joins t.second.second.nothing)) t.second.second.gives

separated_parts : {A : Type 0} (R : Spelling A) (xs : List Token) (v : List A) → Separated R xs v → Either (IsDone []) (SomeSeparated R) xs v
separated_parts R xs v Nothing = inl done_now
separated_parts R xs v (Parts r rs) = inr (part_then _ _ _ r (part_last _ rs))

pub separated_good : {A : Type 0} (closes : Test) {p : ℕ → Reader A} {R : Spelling A} {d n : ℕ} → Good p R d n
    → Good (λ m. separated closes (p m)) (Separated R) d n
unfolding separated
separated_good closes {p} {R} good = spelled_so (separated_of R) (choose_good closes done_good
    (then_good good (λ a. then_good (many_good (is_symbol symbol.Comma) (comma_good good) (commas_have R)) (λ items. done_good))))

-- ---- indented

abbrev IndentedParts : {A : Type 0} → Spelling A → Spelling (List A)
IndentedParts R = Then (IsOne is_indent) (λ indent. Then (OneOrMore R) (λ items. Then (IsOne is_dedent) (λ dedent. IsDone items)))

body_of : {A : Type 0} (R : Spelling A) (xs : List Token) (v : List A) → Either (IndentedParts R) (IsDone []) xs v → Body R xs v
body_of R xs v (inl t) =
    let indent = opened t in
    let dedent = opened indent.second.second in
    respell (Body R) (Indented indent.token dedent.token (indent_kind indent.token.kind indent.passes) indent.second.first
    (dedent_kind dedent.token.kind dedent.passes))
    (indent.joins ∙ ap (λ z. indent.token ∷ z) (indent.second.joins ∙ ap (λ z. indent.second.front ++ z) (dedent.joins ∙ ap (λ z. dedent.token ∷ z) dedent.second.nothing)))
    dedent.second.gives
body_of R xs v (inr t) = respell (Body R) No_body t.nothing t.gives

body_parts : {A : Type 0} (R : Spelling A) (xs : List Token) (v : List A) → Body R xs v → Either (IndentedParts R) (IsDone []) xs v
body_parts R xs v (Indented indent dedent opens r closes) =
    inl (one_then indent (ap is_indent opens) (part_then _ _ _ r (one_then dedent (ap is_dedent closes) done_now)))
body_parts R xs v No_body = inr done_now

pub body_good : {A : Type 0} {p : ℕ → Reader A} {R : Spelling A} {d n : ℕ} → Good p R d n → HasToken R
    → Good (λ m. body (p m)) (Body R) d n
unfolding body
body_good {p} {R} good has = spelled_so (body_of R) (choose_good is_indent
    (then_good indent_good (λ indent. then_good (one_or_more_good stays good has) (λ items. then_good dedent_good (λ dedent. done_good))))
    done_good)

-- ---- what is spelled is read

module _ {A : Type 0} (test : Test) {p : ℕ → Reader A} {R : Spelling A} {Stops : Rest} {d : ℕ}
    (c : Complete p R Stops d) (begins : PartsBegin test R)
    (at_part : (xs : List Token) (v : A) (rest : List Token) → R xs v → Stops (xs ++ rest)) where
  more_there : {ys : List Token} {items : List A} → Repeated R ys items → (rest : List Token) → Stops rest → Stops (ys ++ rest)
  more_there None_more rest at_rest = at_rest
  more_there (One_more {xs} {ys} {a} r rs) rest at_rest = subst Stops (sym (append_assoc xs ys rest)) (at_part xs a (ys ++ rest) r)

  pub one_or_more_complete : Complete (λ m. one_or_more test (p m)) (OneOrMore R) (λ rest. Stops rest × Avoids test rest) d
  unfolding one_or_more
  one_or_more_complete = spelled_complete (one_or_more_parts R) (then_complete c (λ a. last_complete (parts_complete test c begins at_part))
      (λ a ys w rest t ends. subst (λ (z : List Token). Stops (z ++ rest)) (sym (with_nothing t.joins t.second.nothing)) (more_there t.first rest ends.0)))

-- parts begin with a token that doesn't pass a test
abbrev pub PartsAvoid : {A : Type 0} → Test → Spelling A → Type 0
PartsAvoid {A} test R = (xs : List Token) (v : A) → R xs v → Begins (λ kind. not (test kind)) xs

avoids_on : (test : Test) (xs ys rest : List Token) → Begins (λ kind. not (test kind)) xs → Avoids test ((xs ++ ys) ++ rest)
avoids_on test [] ys rest begins = absurd begins
avoids_on test (x ∷ xs) ys rest begins = not_true (test x.kind) begins
  where
    not_true : (b : Bool) → not b ≡ true → b ≡ false
    not_true true e = sym e
    not_true false e = refl

module _ {A : Type 0} (closes : Test) {p : ℕ → Reader A} {R : Spelling A} {Stops : Rest} {d : ℕ}
    (c : Complete p R Stops d) (other : PartsAvoid closes R)
    (at_comma : (rest : List Token) → Begins (is_symbol symbol.Comma) rest → Stops rest)
    (at_close : (rest : List Token) → Begins closes rest → Stops rest)
    (no_comma : (rest : List Token) → Begins closes rest → Avoids (is_symbol symbol.Comma) rest) where
  commas_there : {ys : List Token} {items : List A} → Repeated (BehindComma R) ys items → (rest : List Token) → Begins closes rest → Stops (ys ++ rest)
  commas_there None_more rest closed = at_close rest closed
  commas_there (One_more (Comma comma is r) rs) rest closed = at_comma _ (kind_symbol symbol.Comma comma.kind is)

  some_avoid : (xs : List Token) (v : List A) (rest : List Token) → SomeSeparated R xs v → Begins closes rest → Avoids closes (xs ++ rest)
  some_avoid xs v rest t closed =
      subst (λ (z : List Token). Avoids closes (z ++ rest)) (sym t.joins) (avoids_on closes t.front t.back rest (other t.front t.middle t.first))

  pub separated_complete : Complete (λ m. separated closes (p m)) (Separated R) (Begins closes) d
  unfolding separated
  separated_complete = spelled_complete (separated_parts R) (choose_complete closes (done_complete (Begins closes))
      (then_complete c (λ a. last_complete (stops_complete (λ rest closed. (at_close rest closed, no_comma rest closed))
      (many_complete (is_symbol symbol.Comma) (comma_complete c) (commas_begin R) at_comma)))
      (λ a ys w rest t closed. subst (λ (z : List Token). Stops (z ++ rest)) (sym (with_nothing t.joins t.second.nothing)) (commas_there t.first rest closed)))
      (λ xs v rest t closed. subst (λ (z : List Token). Begins closes (z ++ rest)) (sym t.nothing) closed)
      some_avoid)

dedent_stays : (rest : List Token) → Begins is_dedent rest → Avoids stays rest
dedent_stays [] begins = tt
dedent_stays (t ∷ ts) begins = ap not begins

-- a body stops where no indentation follows
module _ {A : Type 0} {p : ℕ → Reader A} {R : Spelling A} {d : ℕ} (c : Complete p R Anything d) (begins : PartsBegin stays R) where
  pub body_complete : Complete (λ m. body (p m)) (Body R) (Avoids is_indent) d
  unfolding body
  body_complete = spelled_complete (body_parts R) (choose_complete is_indent
      (next_complete one_complete (λ indent. then_complete (one_or_more_complete stays c begins (λ xs v rest r. tt)) (λ items. next_complete one_complete (λ dedent. done_complete (Avoids is_indent)))
      (λ items ys w rest t ends. (tt, dedents ys w rest t))))
      (done_complete (Avoids is_indent))
      (λ xs v rest t ends. indents xs v rest t)
      (λ xs v rest t ends. subst (λ (z : List Token). Avoids is_indent (z ++ rest)) (sym t.nothing) ends))
    where
      dedents : {items : List A} (ys : List Token) (w : List A) (rest : List Token) → Then (IsOne is_dedent) (λ dedent. IsDone items) ys w → Avoids stays (ys ++ rest)
      dedents ys w rest t = let dedent = opened t in
          subst (λ (z : List Token). Avoids stays (z ++ rest)) (sym dedent.joins) (ap not dedent.passes)

      indents : (xs : List Token) (v : List A) (rest : List Token) → IndentedParts R xs v → Begins is_indent (xs ++ rest)
      indents xs v rest t = let indent = opened t in
          subst (λ (z : List Token). Begins is_indent (z ++ rest)) (sym indent.joins) indent.passes
