-- The law of the forms, by its lemmas.
use Rattle.uvl_words.proofs.CommandLine.Forms.{only, taken}
use Rattle.uvl_words.proofs.laws.the_command_line_has_these_forms.Goals as goal

pub returns-clause-taken : goal.returns-clause-taken
returns-clause-taken c = taken

pub returns-clause-alone : goal.returns-clause-alone
returns-clause-alone c = only
