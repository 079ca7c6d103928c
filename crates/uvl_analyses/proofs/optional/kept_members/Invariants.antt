-- What the groups in front of one keep is marked.
use Rattle.std.proofs.Common.{◌≡◌, ℕ, ◌<◌, ◌&&◌, not, false, take, length, get_or}
use Rattle.std.specs.List.{list_any}
use Rattle.uvl_model.specs.Spelling.{numbered}
use Rattle.uvl_analyses.specs.Members.{is_dead_in, is_kept_in}
use Rattle.uvl_analyses.proofs.optional.kept_members.Given as goal

abbrev pub invariant-loop-group : goal.invariant-loop-group
invariant-loop-group l =
    (length l.kept.items ≡ length l.it.model.features)
    × ((n : ℕ) → n < length l.it.model.features
    → get_or l.kept.items n false
    ≡ (not (is_dead_in l.it.model (numbered n)) && list_any (λ group. is_kept_in l.it.model group (numbered n)) (take l.group-index l.it.model.groups)))
