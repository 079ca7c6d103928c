-- The qualifier, a dot and the name.
use Rattle.uvl_scope.proofs.Dotting.{under_is}
use Rattle.uvl_scope.proofs.names.put_under.Goals as goal

pub returns : goal.returns
returns c =
    under_is c.clear.new.self c.push_str.new.self c.push_str-2.new.self c.push_str-3.new.self c.args.qualifier.now c.args.name.now c.clear.ensures.bytes
    c.in_ok-push_str.ensures.bytes c.in_ok-push_str-2.ensures.bytes c.in_ok-push_str-3.ensures.bytes
