-- What the words of a line are read as.
use Rattle.std.proofs.Common.{◌≡◌, ℕ, true, false, List, [], ◌∷◌, ◌++◌, Option, Some, None, Ok, Err, is_some, IfSome, IsSome, rules, refl, sym, ap, ◌∙◌, inl, inr, subst, append_assoc, append-nil}
use Rattle.std.specs.Prelude.{IsUtf8, chars}
use Rattle.std.specs.Str.{is_utf8}
use Rattle.std.proofs.lemmas.Bool.{cases_Bool, cond-true, cond-false, false≢true}
use Rattle.std.proofs.lemmas.Str.{chars-nil, IsUtf8-from_is_utf8, is_utf8-from_IsUtf8}
use Rattle.uvl_script.specs.Lines.{is_silent, words_or_fault, words_of_text, words_of_line}
use Rattle.uvl_script.specs.Words.{words_of, onto}
use Rattle.uvl_script.specs.steps.Pieces.{onto_all}
use Rattle.uvl_script.specs.declared.fault.WordFault.TheVariants.{BadUtf8, BadName}

-- ---- words one after another

-- there are words behind a word exactly where there are words
pub is_some-onto : (word : List ℕ) (words : Option (List (List ℕ))) → is_some (onto word words) ≡ is_some words
is_some-onto word None = refl
is_some-onto word (Some words) = refl

-- the next word is one more of those in front
onto_all-next : (words : List (List ℕ)) (word : List ℕ) (more : Option (List (List ℕ))) → onto_all words (onto word more) ≡ onto_all (words ++ word ∷ []) more
onto_all-next words word None = refl
onto_all-next words word (Some more) = ap Some (sym (append_assoc words (word ∷ []) more))

pub onto_all-nil : (more : Option (List (List ℕ))) → more ≡ onto_all [] more
onto_all-nil None = refl
onto_all-nil (Some more) = refl

-- a name copied from the next word is one more of those in front
pub copied : (whole left more : Option (List (List ℕ))) (words new : List (List ℕ)) (name word : List ℕ)
    → whole ≡ onto_all words left → left ≡ onto word more → name ≡ word → new ≡ words ++ name ∷ [] → whole ≡ onto_all new more
copied whole left more words new name word so_far first same pushed =
    so_far ∙ ap (λ some. onto_all words some) first ∙ onto_all-next words word more
    ∙ ap (λ items. onto_all items more) (sym (pushed ∙ ap (λ n. words ++ n ∷ []) same))

-- where nothing is left the words in front are all
pub onto_all-done : (whole left : Option (List (List ℕ))) (words : List (List ℕ)) → whole ≡ onto_all words left → left ≡ Some [] → whole ≡ Some words
onto_all-done whole left words e done = e ∙ ap (λ more. onto_all words more) done ∙ ap Some (append-nil words)

pub IsSome-None : IsSome {T = List (List ℕ)} None → ⊥
IsSome-None some = search rules

-- where what is left isn't words, the whole isn't
pub onto_all-none : (whole left : Option (List (List ℕ))) (words : List (List ℕ)) → whole ≡ onto_all words left → left ≡ None → IsSome whole → ⊥
onto_all-none None left words e none some = IsSome-None some
onto_all-none (Some all) left words e none some = let bad : Some all ≡ None = e ∙ ap (λ more. onto_all words more) none in cc

-- ---- the words of a line

pub words_of_line-bytes : (line : List ℕ) → (IsUtf8 line → ⊥) → words_of_line line ≡ Err BadUtf8
words_of_line-bytes line other =
    elim (cases_Bool (is_utf8 line)) [
      | inl is ↦ absurd (other (IsUtf8-from_is_utf8 line is))
      | inr isnt ↦ cond-false (is_utf8 line) _ _ isnt
    ]

words_of_line-text : (line : List ℕ) → IsUtf8 line → words_of_line line ≡ words_of_text (chars line)
words_of_line-text line text = cond-true (is_utf8 line) _ _ (is_utf8-from_IsUtf8 line text)

pub words_of_line-silent : (line : List ℕ) → IsUtf8 line → is_silent (chars line) ≡ true → words_of_line line ≡ Ok []
words_of_line-silent line text is = words_of_line-text line text ∙ cond-true (is_silent (chars line)) _ _ is

pub words_of_line-some : (line : List ℕ) → IsUtf8 line → is_silent (chars line) ≡ false → words_of_line line ≡ words_or_fault (words_of (chars line))
words_of_line-some line text isnt = words_of_line-text line text ∙ cond-false (is_silent (chars line)) _ _ isnt

-- a blank text has no words
pub words_of-nil : words_of (chars []) ≡ Some []
words_of-nil = ap words_of chars-nil

pub if_words : (line : List ℕ) (words : Option (List (List ℕ))) → words_of_line line ≡ words_or_fault words → IfSome words (λ some. words_of_line line ≡ Ok some)
if_words line None e = tt
if_words line (Some words) e = e

pub if_no_words : (line : List ℕ) (words : Option (List (List ℕ))) → words_of_line line ≡ words_or_fault words → is_some words ≡ false → words_of_line line ≡ Err BadName
if_no_words line None e none = e
if_no_words line (Some words) e none = absurd (false≢true (sym none))

IsSome-nil : IsSome {T = List (List ℕ)} (Some [])
IsSome-nil = search rules

-- a blank text is made of words
pub IsSome-blank : IsSome (words_of (chars []))
IsSome-blank = subst (λ (words : Option (List (List ℕ))). IsSome words) (sym words_of-nil) IsSome-nil

-- ---- words that are none

onto_all-word : (words more : List (List ℕ)) (word : List ℕ) → onto_all words (Some (word ∷ more)) ≡ Some [] → ⊥
onto_all-word [] more word e = cc
onto_all-word (first ∷ words) more word e = cc

-- a text that has a word isn't blank
pub not_all-blank : (whole left more : Option (List (List ℕ))) (words : List (List ℕ)) (word : List ℕ) → whole ≡ onto_all words left → left ≡ onto word more → IsSome whole
    → whole ≡ Some [] → ⊥
not_all-blank whole left None words word so_far first some none = onto_all-none whole left words so_far first some
not_all-blank whole left (Some more) words word so_far first some none =
    onto_all-word words more word (ap (λ w. onto_all words w) (sym first) ∙ sym so_far ∙ none)

-- a line without words has a text without words
pub blank_text : (line : List ℕ) (whole : Option (List (List ℕ))) → IsSome whole → IfSome whole (λ words. words_of_line line ≡ Ok words) → words_of_line line ≡ Ok []
    → whole ≡ Some []
blank_text line None some words none = absurd (IsSome-None some)
blank_text line (Some whole) some words none = let is : words_of_line line ≡ Ok whole = words in cc
