-- The features in front of one are listed.
use Rattle.std.proofs.Common.{◌≡◌, not, filter, map}
use Rattle.std.specs.List.{range_with_len}
use Rattle.dd_quant.specs.Offers.{has_value, offer_for}
use Rattle.uvl_model.specs.Spelling.{numbered}
use Rattle.uvl_analyses.specs.Listed.{var_of}
use Rattle.uvl_analyses.proofs.listed.without_value.Given as goal

abbrev pub invariant-loop-number : goal.invariant-loop-number
invariant-loop-number l =
    l.features.items
    ≡ filter (λ feature. not (has_value (offer_for l.offers (var_of l.vars feature)) l.value)) (map numbered (range_with_len 0 l.number))
