-- What the words of a text are cut into, one word after another.
use Rattle.std.specs.Prelude.{◌≡◌, ◌<◌, ◌≤◌, ℕ, List, [], ◌++◌, length, Option, Some, None, MatchOption, chars}
use Rattle.std.proofs.Common.{Bor}
use Rattle.uvl_script.specs.Words.{outside, in_quotes, cut, onto, words_of}

-- a word with what stands behind it, both as bytes, where there is a word
abbrev pub Parts : Type 0
Parts = Option (Bor (List ℕ) × Bor (List ℕ))

-- the first word of a text with what stands behind it, or none where the text is blank
abbrev pub IsFirstWord : List ℕ → Parts → Type 0
IsFirstWord text parts =
    MatchOption parts (words_of (chars text) ≡ Some [])
    (λ parts. words_of (chars text) ≡ onto (chars parts.0.now) (words_of (chars parts.1.now)))

-- the word with which a text begins, or none where the text isn't cut there; what stands behind it is shorter
abbrev pub IsFrontWord : List ℕ → Parts → Type 0
IsFrontWord text parts =
    MatchOption parts (cut outside (chars text) ≡ None)
    (λ parts. (cut outside (chars text) ≡ onto (chars parts.0.now) (cut outside (chars parts.1.now)))
    × (length parts.1.now < length text))

-- the same of a text behind a quote
abbrev pub IsQuotedFront : List ℕ → Parts → Type 0
IsQuotedFront text parts =
    MatchOption parts (cut in_quotes (chars text) ≡ None)
    (λ parts. (cut in_quotes (chars text) ≡ onto (chars parts.0.now) (cut outside (chars parts.1.now)))
    × (length parts.1.now ≤ length text))

-- words in front of the words behind them
abbrev pub onto_all : List (List ℕ) → Option (List (List ℕ)) → Option (List (List ℕ))
onto_all words None = None
onto_all words (Some more) = Some (words ++ more)
