-- The law of cutting, by its lemmas.
use Rattle.uvl_lines.proofs.Cutting.{IsCut-lines, lines-IsCut}
use Rattle.uvl_lines.proofs.laws.every_script_has_one_cut.Goals as goal

pub returns-clause-cut : goal.returns-clause-cut
returns-clause-cut c = IsCut-lines

pub returns-clause-alone : goal.returns-clause-alone
returns-clause-alone c = lines-IsCut
