-- A word in front changes nothing.
use Rattle.std.proofs.Common.{rules, is_some, sym, ap, ◌∙◌}
use Rattle.uvl_script.proofs.Reading.{is_some-onto}
use Rattle.uvl_script.proofs.words.has_words.Goals as goal

pub loop-behind-preserved : goal.loop-behind-preserved
loop-behind-preserved c =
    let first = rw c.in-Ok-Some.field-0-is at c.in-Ok-Some.ensures.first in
    (sym (is_some-onto _ _) ∙ ap is_some (sym first) ∙ c.loop-behind.invariant.0, search rules)
