-- The worked row.
use Rattle.std.proofs.Common.{refl}
use Rattle.uvl_ast.specs.declared.feature.Feature.TheFolds.{fold-roll-Feature, fold-roll-Group}
use Rattle.uvl_placing.specs.Row.{OneFileIsPlacedTwice, ItsRulesHoldTwice}

pub one_file_is_placed_twice : OneFileIsPlacedTwice
one_file_is_placed_twice first second = simp (fold-roll-Feature, fold-roll-Group) refl

pub its_rules_hold_twice : ItsRulesHoldTwice
its_rules_hold_twice first second placed own h k = simp (fold-roll-Feature, fold-roll-Group, h, k) refl
