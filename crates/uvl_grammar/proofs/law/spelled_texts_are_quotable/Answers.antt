-- The texts are those of tokens.
use Rattle.uvl_grammar.proofs.Quoted.{file_quoted}
use Rattle.uvl_grammar.proofs.law.spelled_texts_are_quotable.Goals as goal

pub returns : goal.returns
returns c = file_quoted
