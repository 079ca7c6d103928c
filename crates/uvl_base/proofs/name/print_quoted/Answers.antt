-- The quotes and the text go behind one another.
use Rattle.uvl_base.proofs.Quoting.{quoted_behind}
use Rattle.uvl_base.proofs.name.print_quoted.Goals as goal

pub returns-clause-written : goal.returns-clause-written
returns-clause-written c =
    quoted_behind _ _ _ _ _ _ c.args.text.now c.utf8.text c.in_ok-reserve.ensures.items c.in_ok-push.ensures.items
    c.in_ok-extend_from_slice.ensures.items c.as_bytes.ensures.value c.in_ok-push-2.ensures.items
