-- No count is above the number of tokens in front.
use Rattle.std.specs.Prelude.{reverse}
use Rattle.std.proofs.Common.{ap, arith}
use Rattle.std.proofs.lemmas.List.{length-reverse}
use Rattle.uvl_profile.specs.steps.Scan.{indentations_in, nodes_in}
use Rattle.uvl_profile.proofs.Scanned.{indentations_few, nodes_few, depth_few}
use Rattle.uvl_profile.proofs.scan.Scan.take.Goals as goal

pub behind-part-requires : goal.behind-part-requires
behind-part-requires c =
    let front = c.args.front.now in
    omega (arith, c.requires.room, indentations_few (reverse front), length-reverse front, ap indentations_in c.requires.follows.part)

pub nodes_behind-self-requires : goal.nodes_behind-self-requires
nodes_behind-self-requires c =
    let front = c.args.front.now in
    omega (arith, c.requires.room, nodes_few (reverse front), length-reverse front, ap nodes_in c.requires.follows.nodes)

pub take-requires : goal.take-requires
take-requires c =
    let front = c.args.front.now in
    let nesting = c.args.self.now.nesting in
    omega (arith, c.requires.room, length-reverse front, depth_few nesting (reverse front) c.requires.follows.scopes nesting.counted)
