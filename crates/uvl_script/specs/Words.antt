-- The words of a line of a script.
use Rattle.std.specs.Prelude.{◌≡◌, ℕ, Bool, true, not, ◌||◌, ◌==◌, List, [], ◌∷◌, ◌++◌, if◌then◌else◌, Option, Some, None}
use Rattle.std.specs.List.{list_all}
use Rattle.uvl_base.specs.Name.{is_name}

-- words are separated by spaces and tabs
abbrev pub is_separator : ℕ → Bool
is_separator c = c == 32 || c == 9

-- a character within a word that isn't quoted
abbrev pub is_solid : ℕ → Bool
is_solid c = not (is_separator c)

-- a word may end in front of a separator and at the end of the line
abbrev pub ends_word : List ℕ → Bool
ends_word [] = true
ends_word (c ∷ cs) = is_separator c

-- Texts are made of separators and of words, each followed by a separator or by the end. A word stands for
-- itself, or in double quotes for what is between them. A quoted word may hold separators.
pub data IsMadeOf : List ℕ → List (List ℕ) → Type 0 where
  nothing : IsMadeOf [] []
  gap : (c : ℕ) (text : List ℕ) (words : List (List ℕ)) → is_separator c ≡ true → IsMadeOf text words
      → IsMadeOf (c ∷ text) words
  plain : (word text : List ℕ) (words : List (List ℕ)) → is_name word ≡ true → list_all is_solid word ≡ true
      → ends_word text ≡ true → IsMadeOf text words → IsMadeOf (word ++ text) (word ∷ words)
  quoted : (word text : List ℕ) (words : List (List ℕ)) → is_name word ≡ true → ends_word text ≡ true
      → IsMadeOf text words → IsMadeOf (34 ∷ (word ++ 34 ∷ text)) (word ∷ words)

-- where in a line a character stands
pub data Place : Type 0 where
  outside : Place
  in_word : Place
  in_quotes : Place
  behind_quotes : Place

-- a word in front of the words behind it
abbrev pub onto : List ℕ → Option (List (List ℕ)) → Option (List (List ℕ))
onto word None = None
onto word (Some words) = Some (word ∷ words)

-- a character in front of the first word
abbrev pub onto_first : ℕ → Option (List (List ℕ)) → Option (List (List ℕ))
onto_first c None = None
onto_first c (Some []) = Some []
onto_first c (Some (word ∷ words)) = Some ((c ∷ word) ∷ words)

-- What the quotes and the separators of a text make of it, from some place on; within a word its rest
-- is the first. None where a quote isn't closed, or is closed and no separator follows.
abbrev pub cut : Place → List ℕ → Option (List (List ℕ))
cut outside [] = Some []
cut outside (c ∷ cs) =
    if is_separator c then cut outside cs else (if c == 34 then cut in_quotes cs else onto_first c (cut in_word cs))
cut in_word [] = Some ([] ∷ [])
cut in_word (c ∷ cs) = if is_separator c then onto [] (cut outside cs) else onto_first c (cut in_word cs)
cut in_quotes [] = None
cut in_quotes (c ∷ cs) = if c == 34 then onto [] (cut behind_quotes cs) else onto_first c (cut in_quotes cs)
cut behind_quotes [] = Some []
cut behind_quotes (c ∷ cs) = if is_separator c then cut outside cs else None

-- words, where each of them is a name
abbrev pub if_names : Option (List (List ℕ)) → Option (List (List ℕ))
if_names None = None
if_names (Some words) = if list_all is_name words then Some words else None

-- the words of a text, or none where it isn't made of words that are names
abbrev pub words_of : List ℕ → Option (List (List ℕ))
words_of text = if_names (cut outside text)
