-- Where a comparison is constant, and for which sums so far it is the same constant.
use Rattle.std.specs.Prelude.{◌≡◌, ◌^◌, ℤ, pos, ◌+ℤ◌, ◌-ℤ◌, ◌≤ℤ◌, ◌<ℤ◌, Bool}
use Rattle.uvl_sums.specs.declared.settle.Settled.{Settled}
use Rattle.uvl_sums.specs.Steps.{meets}

-- the number is neither below the one nor above the other
pub record IsBetween (least z greatest : ℤ) : Type 0 where
  pub from : least ≤ℤ z
  pub upto : z ≤ℤ greatest

-- neither is the interval wider than sums can be
pub record IsInterval (least greatest : ℤ) : Type 0 where
  pub from : (pos 0 -ℤ pos (2 ^ 126)) ≤ℤ least
  pub upto : greatest ≤ℤ pos (2 ^ 126)

-- The terms that are left bring from the least to the greatest, which is not far, and so isn't where the sum gets by
-- them.
pub record AreSmall (so_far least greatest : ℤ) : Type 0 where
  pub least_small : (pos 0 -ℤ pos (2 ^ 126)) <ℤ least
  pub least_is : least ≤ℤ pos 0
  pub greatest_is : pos 0 ≤ℤ greatest
  pub greatest_small : greatest <ℤ pos (2 ^ 126)
  pub from : (pos 0 -ℤ pos (2 ^ 126)) ≤ℤ (so_far +ℤ least)
  pub upto : (so_far +ℤ greatest) ≤ℤ pos (2 ^ 126)

-- The comparison has this one value, whatever is brought by what is left, for this sum so far and for each of an
-- interval.
pub record Settles (exact : Bool) (so_far least greatest : ℤ) (settled : Settled) : Type 0 where
  pub now : IsBetween settled.least so_far settled.greatest
  pub interval : IsInterval settled.least settled.greatest
  pub same : (s t : ℤ) → IsBetween settled.least s settled.greatest → IsBetween least t greatest →
      meets exact (s +ℤ t) ≡ settled.value
