-- A quote in front tells which kind of word it is.
use Rattle.std.proofs.Common.{◌≡◌, ℕ, ◌∷◌, ◌<◌, ◌≤◌, Bor, List, Option, Some, None, MatchOption, lit<, length, ap, ◌∙◌, arith}
use Rattle.std.specs.Prelude.{chars}
use Rattle.std.proofs.lemmas.Str.Pattern.{strip_prefix_char}
use Rattle.uvl_script.specs.Words.{cut, outside, in_quotes, onto}
use Rattle.uvl_script.proofs.Pieces.{cut-plain_word, plain_word-shorter, cut-behind_first_quote}
use Rattle.uvl_script.proofs.words.front_word.Goals as goal

-- what is said of the text behind the quote, said of the whole text
unquoted : (bs quoted : List ℕ) (r : Option (Bor (List ℕ) × Bor (List ℕ))) → cut outside (chars bs) ≡ cut in_quotes (chars quoted) → length quoted < length bs
    → MatchOption r (cut in_quotes (chars quoted) ≡ None) (λ parts. (cut in_quotes (chars quoted) ≡ onto (chars parts.0.now) (cut outside (chars parts.1.now))) × (length parts.1.now ≤ length quoted))
    → MatchOption r (cut outside (chars bs) ≡ None) (λ parts. (cut outside (chars bs) ≡ onto (chars parts.0.now) (cut outside (chars parts.1.now))) × (length parts.1.now < length bs))
unquoted bs quoted None same shorter none = same ∙ none
unquoted bs quoted (Some parts) same shorter first = (same ∙ first.0, omega arith)

pub returns-in-Some : goal.returns-in-Some
returns-in-Some c =
    let bs = c.args.text.now in
    let quoted = c.in-Some.quoted.now in
    let spelled : bs ≡ 34 ∷ quoted = strip_prefix_char 34 bs (Some c.in-Some.quoted) c.in-Some.ensures.cases (lit< tt) in
    unquoted bs quoted c.split_quoted.result (cut-behind_first_quote bs quoted c.utf8.text spelled) (omega (arith, ap (λ xs. length xs) spelled)) c.split_quoted.ensures

pub returns-in-None : goal.returns-in-None
returns-in-None c =
    let bs = c.args.text.now in
    let e = c.split_plain.ensures in
    let other = strip_prefix_char 34 bs None c.in-None.ensures.cases (lit< tt) in (
      cut-plain_word bs _ _ c.utf8.text e.spelled e.solid e.ends c.requires other,
      plain_word-shorter bs _ _ e.spelled e.ends c.requires,
    )
