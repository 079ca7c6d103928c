-- How a text is cut, word by word.
use Rattle.std.proofs.Common.{◌≡◌, ℕ, ◌==◌, Bool, true, false, not, ◌&&◌, List, [], ◌∷◌, ◌++◌, Option, Some, None, refl, sym, ap, ◌∙◌, inl, inr}
use Rattle.std.specs.List.{list_all}
use Rattle.std.proofs.lemmas.Bool.{cases_Bool, and_parts, and_from, cond-true, cond-false, false≢true}
use Rattle.uvl_base.specs.Name.{is_name}
use Rattle.uvl_script.specs.Lines.{is_silent}
use Rattle.uvl_script.specs.Words.{is_separator, is_solid, ends_word, outside, in_word, in_quotes, behind_quotes, onto, onto_first, cut, if_names}

-- a character within quotes
abbrev pub is_unquote : ℕ → Bool
is_unquote c = not (c == 34)

pub not_true : (b : Bool) → not b ≡ true → b ≡ false
not_true true h = sym h
not_true false h = refl

onto_first-onto : (c : ℕ) (word : List ℕ) (words : Option (List (List ℕ))) → onto_first c (onto word words) ≡ onto (c ∷ word) words
onto_first-onto c word None = refl
onto_first-onto c word (Some words) = refl

-- ---- separators

-- separators in front of a text make no words
pub cut-gap : (gap rest : List ℕ) → list_all is_separator gap ≡ true → cut outside (gap ++ rest) ≡ cut outside rest
cut-gap [] rest all = refl
cut-gap (c ∷ gap) rest all =
    let parts = and_parts (is_separator c) (list_all is_separator gap) all in
    cond-true (is_separator c) _ _ parts.0 ∙ cut-gap gap rest parts.1

-- separators in front of a text do not tell whether it is silent
pub is_silent-gap : (gap rest : List ℕ) → list_all is_separator gap ≡ true → is_silent (gap ++ rest) ≡ is_silent rest
is_silent-gap [] rest all = refl
is_silent-gap (c ∷ gap) rest all =
    let parts = and_parts (is_separator c) (list_all is_separator gap) all in
    cond-true (is_separator c) _ _ parts.0 ∙ is_silent-gap gap rest parts.1

-- ---- plain words

cut-in_word-end : (rest : List ℕ) → ends_word rest ≡ true → cut in_word rest ≡ onto [] (cut outside rest)
cut-in_word-end [] ends = refl
cut-in_word-end (c ∷ cs) ends = cond-true (is_separator c) _ _ ends ∙ ap (λ words. onto [] words) (sym (cond-true (is_separator c) _ _ ends))

cut-in_word : (word rest : List ℕ) → list_all is_solid word ≡ true → ends_word rest ≡ true → cut in_word (word ++ rest) ≡ onto word (cut outside rest)
cut-in_word [] rest solid ends = cut-in_word-end rest ends
cut-in_word (c ∷ word) rest solid ends =
    let parts = and_parts (is_solid c) (list_all is_solid word) solid in
    cond-false (is_separator c) _ _ (not_true (is_separator c) parts.0)
    ∙ ap (λ words. onto_first c words) (cut-in_word word rest parts.1 ends)
    ∙ onto_first-onto c word (cut outside rest)

-- a plain word in front of a text
pub cut-plain : (c : ℕ) (word rest : List ℕ) → list_all is_solid (c ∷ word) ≡ true → (c == 34) ≡ false → ends_word rest ≡ true → cut outside ((c ∷ word) ++ rest) ≡ onto (c ∷ word) (cut outside rest)
cut-plain c word rest solid other ends =
    let parts = and_parts (is_solid c) (list_all is_solid word) solid in
    cond-false (is_separator c) _ _ (not_true (is_separator c) parts.0)
    ∙ cond-false (c == 34) _ _ other
    ∙ ap (λ words. onto_first c words) (cut-in_word word rest parts.1 ends)
    ∙ onto_first-onto c word (cut outside rest)

-- ---- quoted words

-- a word may end behind its quote in front of a separator and at the end
pub cut-behind-end : (rest : List ℕ) → ends_word rest ≡ true → cut behind_quotes rest ≡ cut outside rest
cut-behind-end [] ends = refl
cut-behind-end (c ∷ cs) ends = cond-true (is_separator c) _ _ ends ∙ sym (cond-true (is_separator c) _ _ ends)

-- and nowhere else
pub cut-behind-stuck : (rest : List ℕ) → ends_word rest ≡ false → cut behind_quotes rest ≡ None
cut-behind-stuck [] stuck = absurd (false≢true (sym stuck))
cut-behind-stuck (c ∷ cs) stuck = cond-false (is_separator c) _ _ stuck

-- a word up to its quote
pub cut-in_quotes : (word rest : List ℕ) → list_all is_unquote word ≡ true → cut in_quotes (word ++ 34 ∷ rest) ≡ onto word (cut behind_quotes rest)
cut-in_quotes [] rest unquoted = refl
cut-in_quotes (c ∷ word) rest unquoted =
    let parts = and_parts (is_unquote c) (list_all is_unquote word) unquoted in
    cond-false (c == 34) _ _ (not_true (c == 34) parts.0)
    ∙ ap (λ words. onto_first c words) (cut-in_quotes word rest parts.1)
    ∙ onto_first-onto c word (cut behind_quotes rest)

-- a quote that isn't closed
pub cut-unclosed : (text : List ℕ) → list_all is_unquote text ≡ true → cut in_quotes text ≡ None
cut-unclosed [] unquoted = refl
cut-unclosed (c ∷ text) unquoted =
    let parts = and_parts (is_unquote c) (list_all is_unquote text) unquoted in
    cond-false (c == 34) _ _ (not_true (c == 34) parts.0) ∙ ap (λ words. onto_first c words) (cut-unclosed text parts.1)

-- ---- names

-- a word that is a name stands in front of the words behind it
pub if_names-onto : (word : List ℕ) (words : Option (List (List ℕ))) → is_name word ≡ true → if_names (onto word words) ≡ onto word (if_names words)
if_names-onto word None name = refl
if_names-onto word (Some words) name =
    elim (cases_Bool (list_all is_name words)) [
      | inl is ↦
          cond-true (list_all is_name (word ∷ words)) _ _ (and_from _ _ name is)
          ∙ ap (λ some. onto word some) (sym (cond-true (list_all is_name words) _ _ is))
      | inr is ↦
          cond-false (list_all is_name (word ∷ words)) _ _ (ap (λ b. b && list_all is_name words) name ∙ is)
          ∙ ap (λ some. onto word some) (sym (cond-false (list_all is_name words) _ _ is))
    ]

-- a word that is no name spoils the text
pub if_names-spoiled : (word : List ℕ) (words : Option (List (List ℕ))) → is_name word ≡ false → if_names (onto word words) ≡ None
if_names-spoiled word None name = refl
if_names-spoiled word (Some words) name = cond-false (list_all is_name (word ∷ words)) _ _ (ap (λ b. b && list_all is_name words) name)
