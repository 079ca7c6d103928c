-- Lists of features by what is known of each.
use Rattle.std.specs.Prelude.{ℕ, Bool, true, false, not, ◌==◌, ◌&&◌, List, length, filter, map, get_or}
use Rattle.std.specs.List.{list_any, range_with_len}
use Rattle.dd_store.specs.declared.row.Var.{Var}
use Rattle.dd_quant.specs.declared.offer.Offer.{Offer}
use Rattle.dd_quant.specs.Offers.{has_value, offer_for}
use Rattle.uvl_model.specs.declared.rows.FeatureNo.{FeatureNo}
use Rattle.uvl_model.specs.Spelling.{numbered}

-- the number of a feature's variable
abbrev pub var_of : List Var → FeatureNo → ℕ
var_of vars feature = (get_or vars feature.0 (record { 0 = 0 })).0

-- the features whose variables may not have the value
abbrev pub without_offer : List Var → List Offer → Bool → List FeatureNo
without_offer vars offers value =
    filter
    (λ feature. not (has_value (offer_for offers (var_of vars feature)) value))
    (map numbered (range_with_len 0 (length vars)))

-- the features that are marked
abbrev pub with_mark : List Bool → List FeatureNo
with_mark marks = filter (λ feature. get_or marks feature.0 false) (map numbered (range_with_len 0 (length marks)))

-- the feature is among some
abbrev pub is_named : List FeatureNo → FeatureNo → Bool
is_named features feature = list_any (λ other. other.0 == feature.0) features

-- its variable may be true and, by the second offers, not false
abbrev pub stays : List Var → List Offer → List Offer → FeatureNo → Bool
stays vars first second feature =
    has_value (offer_for first (var_of vars feature)) true
    && not (has_value (offer_for second (var_of vars feature)) false)
