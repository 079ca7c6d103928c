-- How an object of the outside counts the faults that it answers. This project's own.
use Rattle.std.specs.Prelude.{◌≡◌, ℕ, ◌+◌, ◌-◌, ◌^◌, ◌≤◌, min, Bool}
use Rattle.std.specs.Bool.{OnTrue, OnFalse}

-- one more, in a counter of 64 bits that stops at its end
abbrev pub one_more : ℕ → ℕ
one_more count = min (count + 1) (2 ^ 64 - 1)

-- a call counts its fault: the count never falls, rises where the call failed, and else stays
pub record Counts (before now : ℕ) (failed : Bool) : Type 0 where
  pub never_falls : before ≤ now
  pub rises : OnTrue failed (one_more before ≤ now)
  pub stays : OnFalse failed (now ≡ before)
