-- The rules in front of one are written.
use Rattle.std.proofs.Common.{◌≡◌, ◌≤◌, ◌*◌, ◌-◌, ◌++◌, string_bytes}
use Rattle.std.specs.List.{flat_map, range_with_len}
use Rattle.uvl_gen.specs.Generated.{rule_line}
use Rattle.uvl_gen.proofs.model.put_rules.Given as goal

abbrev pub invariant-loop-tens : goal.invariant-loop-tens
invariant-loop-tens l =
    (1 ≤ l.tens) × (string_bytes l.text ≡ string_bytes l.initial.text ++ flat_map (λ tens. rule_line (10 * tens)) (range_with_len 1 (l.tens - 1)))
