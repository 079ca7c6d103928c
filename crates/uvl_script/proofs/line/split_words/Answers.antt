-- A line of words has no fault of its words.
use Rattle.std.proofs.Common.{List, ℕ, [], Ok, Err, IfErr, rules, ◌≡◌, subst, ap, ◌∙◌}
use Rattle.uvl_script.specs.Lines.{words_of_line}
use Rattle.uvl_script.proofs.Commands.{no_fault}
use Rattle.uvl_script.proofs.Reading.{blank_text}
use Rattle.uvl_script.proofs.line.split_words.Goals as goal

pub returns-in_err-copy_words-clause-refused : goal.returns-in_err-copy_words-clause-refused
returns-in_err-copy_words-clause-refused c =
    let P : List ℕ → Type 0 = λ line. IfErr (words_of_line line) (λ fault. c.from_residual-in_err-copy_words.result ≡ Err fault) in
    subst P c.without_cr.ensures (no_fault (λ fault. c.from_residual-in_err-copy_words.result ≡ Err fault) c.without_cr.result.now _ c.in_ok-text.ensures.cut c.in_ok-text.ensures.words)

pub returns-in_err-copy_words-clause-silent : goal.returns-in_err-copy_words-clause-silent
returns-in_err-copy_words-clause-silent c =
    λ silent.
    let none : words_of_line c.without_cr.result.now ≡ Ok [] = ap words_of_line c.without_cr.ensures ∙ silent in
    let made = c.in_err-copy_words.ensures.blank (blank_text c.without_cr.result.now _ c.in_ok-text.ensures.cut c.in_ok-text.ensures.words none) in
    search rules
