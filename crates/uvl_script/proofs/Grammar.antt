-- A text is cut into words exactly where it is made of them.
use Rattle.std.proofs.Common.{◌≡◌, ℕ, ◌==◌, true, false, not, List, [], ◌∷◌, ◌++◌, Option, Some, None, length, refl, sym, ap, ◌∙◌, inl, inr, subst, arith}
use Rattle.std.specs.List.{list_all}
use Rattle.std.proofs.lemmas.Bool.{cases_Bool, and_parts, and_from, cond-true, cond-false, false≢true, eqb-true}
use Rattle.std.proofs.lemmas.Bool.Decides.{nat_tests}
use Rattle.uvl_base.specs.Name.{is_name, may_stand_in_name}
use Rattle.uvl_script.specs.Words.{is_separator, is_solid, ends_word, IsMadeOf, nothing, gap, plain, quoted, Place, outside, in_word, in_quotes, behind_quotes, onto, onto_first, cut, if_names, words_of}
use Rattle.uvl_script.proofs.Cutting.{is_unquote, not_true, cut-plain, cut-in_quotes, cut-behind-end, if_names-onto}

-- ---- what is made of words is cut into them

stands-unquote : (c : ℕ) → may_stand_in_name c ≡ true → is_unquote c ≡ true
stands-unquote c stands = grind (arith, nat_tests)

all-unquote : (word : List ℕ) → list_all may_stand_in_name word ≡ true → list_all is_unquote word ≡ true
all-unquote [] all = refl
all-unquote (c ∷ word) all =
    let parts = and_parts (may_stand_in_name c) (list_all may_stand_in_name word) all in
    and_from (is_unquote c) (list_all is_unquote word) (stands-unquote c parts.0) (all-unquote word parts.1)

name-stands : (word : List ℕ) → is_name word ≡ true → list_all may_stand_in_name word ≡ true
name-stands word name = (and_parts (not (length word == 0)) (list_all may_stand_in_name word) name).1

-- a name that is no quoted word, in front of a text
plain-cut : (word text : List ℕ) → is_name word ≡ true → list_all is_solid word ≡ true → ends_word text ≡ true → cut outside (word ++ text) ≡ onto word (cut outside text)
plain-cut [] text name solid ends = absurd (false≢true name)
plain-cut (c ∷ word) text name solid ends =
    let stands = and_parts (may_stand_in_name c) (list_all may_stand_in_name word) (name-stands (c ∷ word) name) in
    cut-plain c word text solid (not_true (c == 34) (stands-unquote c stands.0)) ends

quoted-cut : (word text : List ℕ) → is_name word ≡ true → ends_word text ≡ true → cut outside (34 ∷ (word ++ 34 ∷ text)) ≡ onto word (cut outside text)
quoted-cut word text name ends =
    cut-in_quotes word text (all-unquote word (name-stands word name)) ∙ ap (λ words. onto word words) (cut-behind-end text ends)

pub words_of-made : (text : List ℕ) (words : List (List ℕ)) → IsMadeOf text words → words_of text ≡ Some words
words_of-made _ _ nothing = refl
words_of-made _ words (gap c text _ is made) = ap if_names (cond-true (is_separator c) _ _ is) ∙ words_of-made text words made
words_of-made _ _ (plain word text words name solid ends made) =
    ap if_names (plain-cut word text name solid ends) ∙ if_names-onto word (cut outside text) name ∙ ap (λ some. onto word some) (words_of-made text words made)
words_of-made _ _ (quoted word text words name ends made) =
    ap if_names (quoted-cut word text name ends) ∙ if_names-onto word (cut outside text) name ∙ ap (λ some. onto word some) (words_of-made text words made)

-- ---- what is cut into names is made of them

-- text behind a word: a word may end in front of it, and it is made of the words that it is cut into, where they are names
record Rest (text : List ℕ) (words : List (List ℕ)) : Type 0 where
  ends : ends_word text ≡ true
  made : list_all is_name words ≡ true → IsMadeOf text words

-- a text that begins within a word
record WordPart (text : List ℕ) (words : List (List ℕ)) : Type 0 where
  word : List ℕ
  more : List (List ℕ)
  rest : List ℕ
  first : words ≡ word ∷ more
  spelled : text ≡ word ++ rest
  solid : list_all is_solid word ≡ true
  behind : Rest rest more

-- a text that begins within quotes
record QuotePart (text : List ℕ) (words : List (List ℕ)) : Type 0 where
  word : List ℕ
  more : List (List ℕ)
  rest : List ℕ
  first : words ≡ word ∷ more
  spelled : text ≡ word ++ 34 ∷ rest
  behind : Rest rest more

-- what a text is that is cut into words from some place on
abbrev Part : Place → List ℕ → List (List ℕ) → Type 0
Part outside text words = list_all is_name words ≡ true → IsMadeOf text words
Part in_word text words = WordPart text words
Part in_quotes text words = QuotePart text words
Part behind_quotes text words = Rest text words

-- a word in front of words makes these words
record Onto (word : List ℕ) (behind : Option (List (List ℕ))) (words : List (List ℕ)) : Type 0 where
  more : List (List ℕ)
  is : behind ≡ Some more
  first : words ≡ word ∷ more

onto_is : (word : List ℕ) (behind : Option (List (List ℕ))) (words : List (List ℕ)) → onto word behind ≡ Some words → Onto word behind words
onto_is word None words e = cc
onto_is word (Some more) words e = record { more = more; is = refl; first = cc }

-- a character in front of the first word makes these words
record OntoFirst (c : ℕ) (behind : Option (List (List ℕ))) (words : List (List ℕ)) : Type 0 where
  inner : List (List ℕ)
  is : behind ≡ Some inner
  first : (word : List ℕ) (more : List (List ℕ)) → inner ≡ word ∷ more → words ≡ (c ∷ word) ∷ more

onto_first_is : (c : ℕ) (behind : Option (List (List ℕ))) (words : List (List ℕ)) → onto_first c behind ≡ Some words → OntoFirst c behind words
onto_first_is c None words e = cc
onto_first_is c (Some []) words e = record { inner = []; is = refl; first = λ word more some. cc }
onto_first_is c (Some (w ∷ ws)) words e = record { inner = w ∷ ws; is = refl; first = λ word more some. cc }

-- no words of an empty text
none_made : (words : List (List ℕ)) → Some [] ≡ Some words → IsMadeOf [] words
none_made words e = let none : [] ≡ words = cc in subst (IsMadeOf []) none nothing

-- the names among words of which the first is known
names_of : (words : List (List ℕ)) (word : List ℕ) (more : List (List ℕ)) → words ≡ word ∷ more → list_all is_name words ≡ true → (is_name word ≡ true) × (list_all is_name more ≡ true)
names_of words word more first names = and_parts (is_name word) (list_all is_name more) (ap (λ all. list_all is_name all) (sym first) ∙ names)

made_at : (text same : List ℕ) (words also : List (List ℕ)) → text ≡ same → words ≡ also → IsMadeOf same also → IsMadeOf text words
made_at text same words also e f made = subst (λ (t : List ℕ). IsMadeOf t words) (sym e) (subst (λ (w : List (List ℕ)). IsMadeOf same w) (sym f) made)

-- a plain word in front
plain_made : (c : ℕ) (cs : List ℕ) (words : List (List ℕ)) (o : OntoFirst c (cut in_word cs) words) → WordPart cs o.inner → is_separator c ≡ false → list_all is_name words ≡ true → IsMadeOf (c ∷ cs) words
plain_made c cs words o part isnt names =
    let first = o.first part.word part.more part.first in
    let both = names_of words (c ∷ part.word) part.more first names in
    made_at (c ∷ cs) ((c ∷ part.word) ++ part.rest) words ((c ∷ part.word) ∷ part.more) (ap (λ xs. c ∷ xs) part.spelled) first
    (plain (c ∷ part.word) part.rest part.more both.0 (and_from (is_solid c) (list_all is_solid part.word) (ap not isnt) part.solid) part.behind.ends (part.behind.made both.1))

-- a quoted word in front
quoted_made : (c : ℕ) (cs : List ℕ) (words : List (List ℕ)) → QuotePart cs words → c ≡ 34 → list_all is_name words ≡ true → IsMadeOf (c ∷ cs) words
quoted_made c cs words part quote names =
    let both = names_of words part.word part.more part.first names in
    let text : c ∷ cs ≡ 34 ∷ (part.word ++ 34 ∷ part.rest) = cc (part.spelled) in
    made_at (c ∷ cs) (34 ∷ (part.word ++ 34 ∷ part.rest)) words (part.word ∷ part.more) text part.first
    (quoted part.word part.rest part.more both.0 part.behind.ends (part.behind.made both.1))

part_of : (place : Place) (text : List ℕ) (words : List (List ℕ)) → cut place text ≡ Some words → Part place text words
part_of outside [] words e = λ names. none_made words e
part_of outside (c ∷ cs) words e =
    elim (cases_Bool (is_separator c)) as (λ _. list_all is_name words ≡ true → IsMadeOf (c ∷ cs) words) [
      | inl is ↦ λ names. gap c cs words is (part_of outside cs words (sym (cond-true (is_separator c) _ _ is) ∙ e) names)
      | inr isnt ↦
          let solid = sym (cond-false (is_separator c) _ _ isnt) ∙ e in
          elim (cases_Bool (c == 34)) as (λ _. list_all is_name words ≡ true → IsMadeOf (c ∷ cs) words) [
            | inl is ↦ λ names. quoted_made c cs words (part_of in_quotes cs words (sym (cond-true (c == 34) _ _ is) ∙ solid)) (eqb-true c 34 is) names
            | inr other ↦
                let o = onto_first_is c (cut in_word cs) words (sym (cond-false (c == 34) _ _ other) ∙ solid) in
                λ names. plain_made c cs words o (part_of in_word cs o.inner o.is) isnt names
          ]
    ]
part_of in_word [] words e = record {
  word = [];
  more = [];
  rest = [];
  first = cc;
  spelled = refl;
  solid = refl;
  behind = record { ends = refl; made = λ names. nothing };
}
part_of in_word (c ∷ cs) words e =
    elim (cases_Bool (is_separator c)) as (λ _. WordPart (c ∷ cs) words) [
      | inl is ↦
          let o = onto_is [] (cut outside cs) words (sym (cond-true (is_separator c) _ _ is) ∙ e) in
          record {
            word = [];
            more = o.more;
            rest = c ∷ cs;
            first = o.first;
            spelled = refl;
            solid = refl;
            behind = record { ends = is; made = λ names. gap c cs o.more is (part_of outside cs o.more o.is names) };
          }
      | inr isnt ↦
          let o = onto_first_is c (cut in_word cs) words (sym (cond-false (is_separator c) _ _ isnt) ∙ e) in
          let part : WordPart cs o.inner = part_of in_word cs o.inner o.is in
          record {
            word = c ∷ part.word;
            more = part.more;
            rest = part.rest;
            first = o.first part.word part.more part.first;
            spelled = ap (λ xs. c ∷ xs) part.spelled;
            solid = and_from (is_solid c) (list_all is_solid part.word) (ap not isnt) part.solid;
            behind = part.behind;
          }
    ]
part_of in_quotes [] words e = cc
part_of in_quotes (c ∷ cs) words e =
    elim (cases_Bool (c == 34)) as (λ _. QuotePart (c ∷ cs) words) [
      | inl is ↦
          let o = onto_is [] (cut behind_quotes cs) words (sym (cond-true (c == 34) _ _ is) ∙ e) in
          record {
            word = [];
            more = o.more;
            rest = cs;
            first = o.first;
            spelled = ap (λ b. b ∷ cs) (eqb-true c 34 is);
            behind = part_of behind_quotes cs o.more o.is;
          }
      | inr other ↦
          let o = onto_first_is c (cut in_quotes cs) words (sym (cond-false (c == 34) _ _ other) ∙ e) in
          let part : QuotePart cs o.inner = part_of in_quotes cs o.inner o.is in
          record {
            word = c ∷ part.word;
            more = part.more;
            rest = part.rest;
            first = o.first part.word part.more part.first;
            spelled = ap (λ xs. c ∷ xs) part.spelled;
            behind = part.behind;
          }
    ]
part_of behind_quotes [] words e = record { ends = refl; made = λ names. none_made words e }
part_of behind_quotes (c ∷ cs) words e =
    elim (cases_Bool (is_separator c)) as (λ _. Rest (c ∷ cs) words) [
      | inl is ↦ record { ends = is; made = λ names. gap c cs words is (part_of outside cs words (sym (cond-true (is_separator c) _ _ is) ∙ e) names) }
      | inr isnt ↦ let none : None ≡ Some words = sym (cond-false (is_separator c) _ _ isnt) ∙ e in cc
    ]

-- the words that are names are all that a text is cut into
if_names_is : (cut_into : Option (List (List ℕ))) (words : List (List ℕ)) → if_names cut_into ≡ Some words → (cut_into ≡ Some words) × (list_all is_name words ≡ true)
if_names_is None words e = cc
if_names_is (Some all) words e =
    elim (cases_Bool (list_all is_name all)) as (λ _. (Some all ≡ Some words) × (list_all is_name words ≡ true)) [
      | inl names ↦
          let same : Some all ≡ Some words = sym (cond-true (list_all is_name all) _ _ names) ∙ e in
          let lists : all ≡ words = cc in
          (same, ap (λ xs. list_all is_name xs) (sym lists) ∙ names)
      | inr other ↦ let none : None ≡ Some words = sym (cond-false (list_all is_name all) _ _ other) ∙ e in cc
    ]

pub made-words_of : (text : List ℕ) (words : List (List ℕ)) → words_of text ≡ Some words → IsMadeOf text words
made-words_of text words e = let found = if_names_is (cut outside text) words e in part_of outside text words found.0 found.1
