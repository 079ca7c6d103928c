use Rattle.uvl_grammar.proofs.WholeFiles.{one_file}
use Rattle.uvl_grammar.proofs.law.every_token_list_spells_one_file.Goals as goal

pub returns : goal.returns
returns c tokens file other spelled also = one_file tokens file other spelled also
