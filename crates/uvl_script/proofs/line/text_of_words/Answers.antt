-- The text of a line has the words of the line.
use Rattle.std.proofs.Common.{◌≡◌, ℕ, false, List, Option, Ok, IfSome, sym, ap, ◌∙◌, subst}
use Rattle.std.specs.Prelude.{IsUtf8, chars}
use Rattle.uvl_script.specs.Lines.{is_silent, words_or_fault, words_of_line}
use Rattle.uvl_script.specs.Words.{words_of}
use Rattle.uvl_script.proofs.Reading.{words_of_line-bytes, words_of_line-silent, words_of_line-some, words_of-nil, IsSome-blank, if_words, if_no_words}
use Rattle.uvl_script.proofs.line.text_of_words.Goals as goal

pub returns-in_default-clause-fault : goal.returns-in_default-clause-fault
returns-in_default-clause-fault c = words_of_line-bytes c.args.line.now c.in_default.ensures.cases.0

pub returns-then-is_silent-clause-words : goal.returns-then-is_silent-clause-words
returns-then-is_silent-clause-words c =
    let line = c.args.line.now in
    let P : Option (List (List ℕ)) → Type 0 = λ words. IfSome words (λ some. words_of_line line ≡ Ok some) in
    let cases = c.in-Ok.ensures.cases in
    subst P (sym words_of-nil) (words_of_line-silent line cases.1 (ap (λ bs. is_silent (chars bs)) (sym cases.0) ∙ sym c.is_silent.ensures ∙ c.if-is_silent.true))

pub returns-then-is_silent-clause-cut : goal.returns-then-is_silent-clause-cut
returns-then-is_silent-clause-cut c = IsSome-blank

-- a line that isn't silent has the words of its text
of_text : (line text : List ℕ) → text ≡ line → IsUtf8 line → is_silent (chars text) ≡ false → words_of_line line ≡ words_or_fault (words_of (chars text))
of_text line text same utf8 isnt =
    words_of_line-some line utf8 (ap (λ bs. is_silent (chars bs)) (sym same) ∙ isnt) ∙ ap (λ bs. words_or_fault (words_of (chars bs))) (sym same)

pub returns-then-has_words-clause-words : goal.returns-then-has_words-clause-words
returns-then-has_words-clause-words c =
    let cases = c.in-Ok.ensures.cases in
    if_words c.args.line.now _ (of_text c.args.line.now c.in-Ok.text.now cases.0 cases.1 (sym c.is_silent.ensures ∙ c.if-is_silent.false))

pub returns-else-has_words-clause-fault : goal.returns-else-has_words-clause-fault
returns-else-has_words-clause-fault c =
    let cases = c.in-Ok.ensures.cases in
    if_no_words c.args.line.now _ (of_text c.args.line.now c.in-Ok.text.now cases.0 cases.1 (sym c.is_silent.ensures ∙ c.if-is_silent.false)) (sym c.has_words.ensures ∙ c.if-has_words.false)
