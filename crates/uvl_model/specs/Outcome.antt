-- What the truth of a part of a rule makes of the whole rule.
use Rattle.std.specs.Prelude.{Bool, if◌then◌else◌}
use Rattle.uvl_model.specs.declared.rules.Outcome.{Outcome}

-- whether the whole holds, by the truth of the part
abbrev pub outcome_at : Outcome → Bool → Bool
outcome_at outcome part = if part then outcome.with else outcome.without
