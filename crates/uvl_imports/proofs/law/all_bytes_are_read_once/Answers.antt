-- The law of bytes rests on those of texts and of lists of tokens.
use Rattle.uvl_imports.proofs.ReadOnce.{all_bytes}
use Rattle.uvl_imports.proofs.law.all_bytes_are_read_once.Goals as goal

pub returns : goal.returns
returns c = all_bytes c.every_text_is_read_once.ensures c.tokens_are_a_list.ensures c.every_token_list_is_parsed_once.ensures
