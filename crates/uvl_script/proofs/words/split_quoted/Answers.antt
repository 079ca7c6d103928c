-- A word ends at the next quote.
use Rattle.std.proofs.Common.{◌==◌, Some, lit<, sym, ◌∙◌, subst}
use Rattle.std.specs.Str.{NoCharPasses}
use Rattle.std.proofs.lemmas.Str.Pattern.{split_parts}
use Rattle.uvl_script.proofs.Pieces.{cut-open_quotes, cut-quoted_word, cut-stuck_word, quoted_word-shorter}
use Rattle.uvl_script.proofs.words.split_quoted.Goals as goal

pub returns-in_default : goal.returns-in_default
returns-in_default c = cut-open_quotes c.args.text.now c.utf8.text c.in_default.ensures.cases

pub returns-then-ends_word : goal.returns-then-ends_word
returns-then-ends_word c =
    let bs = c.args.text.now in
    let cases = c.in-Some.ensures.cases in
    let spelled = (split_parts 34 bs (Some (c.in-Some.word, c.in-Some.rest)) cases (lit< tt)).0 in
    let none = subst (NoCharPasses (λ b. b == 34)) (sym cases.3) cases.2.0 in (
      cut-quoted_word bs c.in-Some.word.now c.in-Some.rest.now c.utf8.text spelled none (sym c.ends_word.ensures ∙ c.if-ends_word.true),
      quoted_word-shorter bs c.in-Some.word.now c.in-Some.rest.now spelled,
    )

pub returns-else-ends_word : goal.returns-else-ends_word
returns-else-ends_word c =
    let bs = c.args.text.now in
    let cases = c.in-Some.ensures.cases in
    let spelled = (split_parts 34 bs (Some (c.in-Some.word, c.in-Some.rest)) cases (lit< tt)).0 in
    let none = subst (NoCharPasses (λ b. b == 34)) (sym cases.3) cases.2.0 in
    cut-stuck_word bs c.in-Some.word.now c.in-Some.rest.now c.utf8.text spelled none (sym c.ends_word.ensures ∙ c.if-ends_word.false)
