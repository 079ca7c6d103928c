-- The variables of the table are the members.
use Rattle.std.proofs.Common.{◌≡◌, ◌∙◌}
use Rattle.uvl_diagram_tests.proofs.Members.{all_are_members}
use Rattle.uvl_diagram_tests.proofs.count.count_all.Goals as goal

pub count-requires : goal.count-requires
count-requires c = all_are_members c.args.kernel.now c.deref.result.now
    (c.deref.ensures.value ∙ c.in_ok-members.ensures.items ∙ c.order.ensures.order) c.order.ensures.sound
