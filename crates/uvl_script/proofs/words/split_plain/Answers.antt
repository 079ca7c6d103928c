-- A text may be cut in front of a separator.
use Rattle.std.proofs.Common.{◌≡◌, take, arith}
use Rattle.std.proofs.lemmas.Grind.{common_steps}
use Rattle.uvl_script.specs.Words.{is_solid}
use Rattle.uvl_script.proofs.Pieces.{counts, boundary-end, solid-front, ends-rest}
use Rattle.uvl_script.proofs.words.split_plain.Goals as goal

pub range-requires-clause-end_boundary : goal.range-requires-clause-end_boundary
range-requires-clause-end_boundary c =
    let n = c.solid_len-len in
    boundary-end c.args.text.now n.result (counts is_solid _ _ _ c.as_bytes.ensures.value n.ensures.count n.ensures.within)

pub range_from-requires : goal.range_from-requires
range_from-requires c =
    let n = c.solid_len-len in
    λ _. boundary-end c.args.text.now n.result (counts is_solid _ _ _ c.as_bytes.ensures.value n.ensures.count n.ensures.within)

pub returns-clause-solid : goal.returns-clause-solid
returns-clause-solid c =
    let n = c.solid_len-len in
    let word : c.range.result.now ≡ take n.result c.args.text.now = grind (arith, common_steps) in
    solid-front c.args.text.now _ n.result (counts is_solid _ _ _ c.as_bytes.ensures.value n.ensures.count n.ensures.within) word

pub returns-clause-ends : goal.returns-clause-ends
returns-clause-ends c =
    let n = c.solid_len-len in
    ends-rest c.args.text.now _ n.result (counts is_solid _ _ _ c.as_bytes.ensures.value n.ensures.count n.ensures.within) c.range_from.ensures.value
