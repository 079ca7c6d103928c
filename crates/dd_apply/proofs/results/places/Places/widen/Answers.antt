-- More places are empty ones.
use Rattle.std.proofs.Common.{rules, ◌≤◌, ◌-◌, ◌∙◌, length}
use Rattle.dd_apply.proofs.PlaceLemmas.{pairs-widened}
use Rattle.dd_apply.proofs.results.places.Places.widen.Goals as goal

pub returns : goal.returns
returns c =
    let size = c.len-size.ensures in
    let wide = c.max-wider.ensures in
    let more : length c.self.inside.places.items ≤ c.max-wider.result = search rules in
    pairs-widened c.self.inside.places.items c.resize-widened.new.self.items c.max-wider.result (c.max-wider.result - length c.self.inside.places.items) c.resize-widened.result
    more (search rules) ∙ c.self.view_is
