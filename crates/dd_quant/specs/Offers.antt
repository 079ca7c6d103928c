-- What a function leaves open: for each variable, which values it has where the function is true.
use Rattle.std.specs.Prelude.{◌≡◌, ◌↔◌, ℕ, ◌<◌, Bool, false, if◌then◌else◌, IsTrue, List, ◌∷◌, length, slice_index_or}
use Rattle.dd_store.specs.declared.row.Var.{Var}
use Rattle.dd_store.specs.Size.{Function}
use Rattle.dd_quant.specs.declared.literal.Literal.{Literal}
use Rattle.dd_quant.specs.declared.offer.Offer.{Offer}
use Rattle.dd_quant.specs.Possible.{literal_of, IsPossible}

-- whether an offer has the value
abbrev pub has_value : Offer → Bool → Bool
has_value o b = if b then o.yes else o.no

-- neither value
abbrev pub no_offer : Offer
no_offer = record { no = false; yes = false }

-- the offer for a variable, by its number
abbrev pub offer_for : List Offer → ℕ → Offer
offer_for offers v = slice_index_or offers v no_offer

-- There is one offer for each variable, by its number. It has a value exactly where some assignment with this value, and
-- with those that are given, makes the function true.
pub record AreOffers (order : List Var) (f : Function) (given : List Literal) (offers : List Offer) : Type 0 where
  pub number : length offers ≡ length order
  pub each : (v : ℕ) (b : Bool) → v < length order →
      IsTrue (has_value (offer_for offers v) b) ↔ IsPossible f (literal_of v b ∷ given)
