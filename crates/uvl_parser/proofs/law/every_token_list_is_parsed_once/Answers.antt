use Rattle.uvl_parser.proofs.Once.{parsed_once}
use Rattle.uvl_parser.proofs.law.every_token_list_is_parsed_once.Goals as goal

pub returns : goal.returns
returns c tokens list = parsed_once tokens list
