use Rattle.uvl_placing.proofs.Rows.{one_file_is_placed_twice, its_rules_hold_twice}
use Rattle.uvl_placing.proofs.laws.one_file_is_placed_twice.Goals as goal

pub returns-clause-features : goal.returns-clause-features
returns-clause-features c = one_file_is_placed_twice

pub returns-clause-rules : goal.returns-clause-rules
returns-clause-rules c = its_rules_hold_twice
