-- The tree from one group on.
use Rattle.uvl_compile.proofs.TreeLemmas.{IsTreeFrom}
use Rattle.uvl_compile.proofs.tree.compile_tree.Given as goal

abbrev pub invariant-loop-left : goal.invariant-loop-left
invariant-loop-left l = IsTreeFrom l.fn.kernel l.kernel l.map l.model.groups l.left l.tree

abbrev pub decreases-loop-left : goal.decreases-loop-left
decreases-loop-left l = l.left
