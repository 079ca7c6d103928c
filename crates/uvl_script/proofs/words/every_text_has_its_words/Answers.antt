-- A text is cut into words exactly where it is made of them.
use Rattle.uvl_script.proofs.Grammar.{made-words_of, words_of-made}
use Rattle.uvl_script.proofs.words.every_text_has_its_words.Goals as goal

pub returns-clause-made : goal.returns-clause-made
returns-clause-made c = made-words_of

pub returns-clause-alone : goal.returns-clause-alone
returns-clause-alone c = words_of-made
