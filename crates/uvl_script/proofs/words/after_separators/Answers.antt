-- A text may be cut behind its separators.
use Rattle.uvl_script.specs.Words.{is_separator}
use Rattle.uvl_script.proofs.Pieces.{counts, boundary-after}
use Rattle.uvl_script.proofs.words.after_separators.Goals as goal

pub range_from-requires : goal.range_from-requires
range_from-requires c =
    let n = c.separators_in_front-count in
    λ _. boundary-after c.args.text.now n.result c.utf8.text (counts is_separator _ _ _ c.as_bytes.ensures.value n.ensures.count n.ensures.within)
