-- Partial results of a sum: what is held, and for which sums so far each is the same.
use Rattle.std.specs.Prelude.{◌≡◌, ℕ, ◌+◌, ◌<◌, ℤ, ◌+ℤ◌, Bool}
use Rattle.std.specs.Prelude.{List, ◌++◌, length, slice_index, Some}
use Rattle.std.specs.BTreeMap.{BTreeMap, get}
use Rattle.std.specs.List.{All}
use Rattle.std.specs.Ordering.{nat_cmp, int_cmp, ordering_then}
use Rattle.std.specs.declared.cmp.Ordering.{Ordering}
use Rattle.dd_store.specs.Changes.{Keeps}
use Rattle.dd_store.specs.Exhausted.{value_at, IsPartialResult}
use Rattle.dd_store.specs.Handles.{HoldsMore}
use Rattle.dd_store.specs.Size.{Function}
use Rattle.dd_store.specs.Table.{Table}
use Rattle.uvl_sums.specs.declared.memo.Known.{Known}
use Rattle.uvl_sums.specs.declared.memo.Part.{Part}
use Rattle.uvl_sums.specs.declared.steps.Step.{Step}
use Rattle.uvl_sums.specs.Settled.{IsBetween, IsInterval}
use Rattle.uvl_sums.specs.Steps.{terms_from, weight_at, remaining}
use Rattle.uvl_sums.specs.Sums.{Term}

-- Behind a call that asked for the function more is held than before: partial results of the function.
pub record Adds (old : Table) (held : List ℕ) (new : Table) (held' : List ℕ) (asked : Function) (most : ℕ) : Type 0 where
  pub keeps : Keeps old new
  pub more : List ℕ
  pub is : held' ≡ held ++ more
  pub handles : HoldsMore old new more
  pub few : length more < most
  pub parts : All (IsPartialResult new asked) more

-- a handle that is held has this value
pub record HasValueAt (t : Table) (held : List ℕ) (place : ℕ) (f : Function) : Type 0 where
  pub there : place < length held
  pub value : value_at t (slice_index held place) ≡ f

-- a part is what is left of the comparison for each sum so far of its interval
pub record IsPart (t : Table) (held : List ℕ) (exact : Bool) (terms : List Term) (part : Part) : Type 0 where
  pub interval : IsInterval part.least part.greatest
  pub same : (z : ℤ) → IsBetween part.least z part.greatest → HasValueAt t held part.place (remaining exact terms z)

-- a part for a sum so far
pub record IsPartFor (t : Table) (held : List ℕ) (exact : Bool) (terms : List Term) (so_far : ℤ) (part : Part) : Type 0 where
  pub now : IsBetween part.least so_far part.greatest
  pub part_is : IsPart t held exact terms part

-- The two parts are the halves of what is left for a sum so far: with the first variable false, and with it true.
pub record AreHalves (t : Table) (held : List ℕ) (exact : Bool) (steps : List Step) (at : ℕ) (low high : Part) (so_far : ℤ) : Type 0 where
  pub low_is : IsPartFor t held exact (terms_from steps (at + 1)) so_far low
  pub high_is : IsPartFor t held exact (terms_from steps (at + 1)) (so_far +ℤ weight_at steps at) high

-- how the keys of the known parts compare: by the place of the first term that is left, and then by the least sum so far
abbrev pub key_cmp : ℕ × ℤ → ℕ × ℤ → Ordering
key_cmp x y = ordering_then (nat_cmp x.0 y.0) (int_cmp x.1 y.1)

-- the part that stands under a key
abbrev pub part_under : ℕ × ℤ → Known → Part
part_under key known = record { place = known.place; least = key.1; greatest = known.greatest }

-- each known part is one of the terms that are left from its place on
abbrev pub AreKnown : Table → List ℕ → Bool → List Step → BTreeMap (ℕ × ℤ) Known → Type 0
AreKnown t held exact steps known =
    (key : ℕ × ℤ) (it : Known) → get key_cmp known key ≡ Some it →
    IsPart t held exact (terms_from steps key.0) (part_under key it)
