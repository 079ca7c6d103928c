use Rattle.uvl_placing.proofs.Behind.{files_are_read_in_front, files_are_read_among_all}
use Rattle.uvl_placing.proofs.laws.files_are_read_in_order.Goals as goal

pub returns-clause-in_front : goal.returns-clause-in_front
returns-clause-in_front c = files_are_read_in_front

pub returns-clause-among_all : goal.returns-clause-among_all
returns-clause-among_all c = files_are_read_among_all
