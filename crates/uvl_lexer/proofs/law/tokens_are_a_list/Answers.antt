-- The tokens of a text are a list that ends with the end of the text.
use Rattle.uvl_lexer.proofs.TokenLists.{tokens_are_a_list}
use Rattle.uvl_lexer.proofs.law.tokens_are_a_list.Goals as goal

pub returns : goal.returns
returns c = tokens_are_a_list
