-- Which calls of a stand-in are to fail, and in which sizes it gives its bytes. This project's own.
use Rattle.std.specs.Prelude.{ℕ, Bool, List, [], ◌∷◌, min, max, ◌==◌, if◌then◌else◌}
use Rattle.std.specs.List.{list_any}
use Rattle.uvl_outside.specs.Faults.{one_more}

-- the calls that a stand-in has answered, and the numbers, from 1, of those that are to fail
pub record Plan : Type 0 where
  pub fail : List ℕ
  pub answered : ℕ
  pub faults : ℕ

-- before the first call
abbrev pub fresh_plan : List ℕ → Plan
fresh_plan fail = record { fail = fail; answered = 0; faults = 0 }

-- the number of the next call is among those that are to fail
abbrev pub fails_next : Plan → Bool
fails_next plan = list_any (λ number. number == one_more plan.answered) plan.fail

-- after one more call, which was counted as a fault where it failed
abbrev pub after_call : Plan → Plan
after_call plan = record {
  fail = plan.fail;
  answered = one_more plan.answered;
  faults = if fails_next plan then one_more plan.faults else plan.faults;
}

-- the most bytes that go into a buffer of this length: the next size, where 0 counts as 1, or the room
abbrev pub most_given : List ℕ → ℕ → ℕ
most_given [] room = room
most_given (size ∷ _) room = min (max size 1) room
