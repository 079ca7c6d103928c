-- The words so far are texts, and none of them is a lone hyphen or ends the options.
use Rattle.uvl_words.proofs.CommandLine.LoneHyphens.{IsPast}
use Rattle.uvl_words.proofs.command_line.has_lone_hyphen.Given as goal

abbrev pub invariant-loop-word : goal.invariant-loop-word
invariant-loop-word l = IsPast l.words l.word-index
