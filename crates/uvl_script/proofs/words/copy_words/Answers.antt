-- The next word is copied behind the others.
use Rattle.std.proofs.Common.{rules}
use Rattle.uvl_script.proofs.Reading.{copied, not_all-blank}
use Rattle.uvl_script.proofs.words.copy_words.Goals as goal

pub loop-word-preserved : goal.loop-word-preserved
loop-word-preserved c =
    let first = rw c.in-Ok-Some.field-0-is at c.in-Ok-Some.ensures.first in
    (copied _ _ _ c.loop-word.words.items c.push.new.self.items c.in_ok-copy_word.field-0 _ c.loop-word.invariant.0 first c.in_ok-copy_word.ensures c.in_ok-push.ensures.items, search rules)

pub returns-in_err-copy_word-clause-blank : goal.returns-in_err-copy_word-clause-blank
returns-in_err-copy_word-clause-blank c =
    let first = rw c.in-Ok-Some.field-0-is at c.in-Ok-Some.ensures.first in
    λ none. absurd (not_all-blank _ _ _ c.loop-word.words.items _ c.loop-word.invariant.0 first c.requires none)

pub returns-in_err-push-clause-blank : goal.returns-in_err-push-clause-blank
returns-in_err-push-clause-blank c =
    let first = rw c.in-Ok-Some.field-0-is at c.in-Ok-Some.ensures.first in
    λ none. absurd (not_all-blank _ _ _ c.loop-word.words.items _ c.loop-word.invariant.0 first c.requires none)
