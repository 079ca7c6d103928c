-- A word is one too many.
use Rattle.std.proofs.Common.{sym, ◌∙◌}
use Rattle.std.proofs.lemmas.Bool.{false≢true}
use Rattle.uvl_script.proofs.Commands.{none_taken, too_many}
use Rattle.uvl_script.proofs.command.without_words.Goals as goal

pub returns-then-is_blank : goal.returns-then-is_blank
returns-then-is_blank c = none_taken c.args.command _ (c.is_blank.ensures.0 c.if-is_blank.true)

pub returns-else-is_blank : goal.returns-else-is_blank
returns-else-is_blank c = too_many c.args.command _ (λ none. false≢true (sym c.if-is_blank.false ∙ c.is_blank.ensures.1 none))
