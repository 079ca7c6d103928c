-- The members in front of one are marked.
use Rattle.std.proofs.Common.{◌≡◌, ℕ, ◌<◌, ◌||◌, ◌&&◌, false, take, length, get_or}
use Rattle.uvl_model.specs.Spelling.{numbered}
use Rattle.uvl_analyses.specs.Listed.{is_named, stays}
use Rattle.uvl_analyses.proofs.optional.mark_members.Given as goal

abbrev pub invariant-loop-member : goal.invariant-loop-member
invariant-loop-member l =
    (n : ℕ) → n < length l.vars
    → get_or l.kept n false ≡ (get_or l.initial.kept n false || (is_named (take l.member-index l.members) (numbered n) && stays l.vars l.open l.given (numbered n)))
