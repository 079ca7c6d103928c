-- A bracket or `!` makes the nesting that is kept one deeper.
use Rattle.std.proofs.Common.{sym, ◌∙◌}
use Rattle.uvl_profile.proofs.Scanned.{nested_there}
use Rattle.uvl_profile.proofs.scan.Scan.is_nested_too_deep.Goals as goal

pub returns-then-deepens : goal.returns-then-deepens
returns-then-deepens c =
    let nesting = c.args.self.now.nesting in
    nested_there nesting _ c.args.token.now c.requires.scopes nesting.counted (sym c.deepens.ensures ∙ c.if-deepens.true)
