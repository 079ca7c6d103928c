-- What is added and what is left are all.
use Rattle.std.proofs.Common.{◌≡◌, ◌++◌, map, drop}
use Rattle.uvl_scope.proofs.attributes.AttributeLists.append.Given as goal

abbrev pub invariant-loop-attributes : goal.invariant-loop-attributes
invariant-loop-attributes l =
    l.self ++ map (λ list. list.now) (drop l.attributes-index l.attributes-items) ≡ l.fn.self ++ map (λ list. list.now) l.attributes-items
