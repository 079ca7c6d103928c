-- Outside brackets one scope is left.
use Rattle.std.specs.Prelude.{◌&&◌, ◌==◌, reverse}
use Rattle.std.proofs.Common.{sym, ap, ◌∙◌}
use Rattle.uvl_profile.specs.Lines.{line_of}
use Rattle.uvl_profile.specs.Nesting.{open_brackets}
use Rattle.uvl_profile.proofs.Scanned.{outside_there}
use Rattle.uvl_profile.proofs.scan.Scan.is_feature_cardinality.Goals as goal

pub returns-then-is_late_cardinality : goal.returns-then-is_late_cardinality
returns-then-is_late_cardinality c =
    let outside = open_brackets (line_of (reverse c.args.front.now)) == 0 in
    c.is_outside.ensures
    ∙ outside_there c.args.self.now.nesting (reverse c.args.front.now) c.requires.scopes
    ∙ ap (λ b. b && outside) (sym c.if-is_late_cardinality.true ∙ c.is_late_cardinality.ensures)
