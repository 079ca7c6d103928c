-- Each call is for one variable fewer.
use Rattle.dd_bench.proofs.clauses.+compare_all.Given as goal

abbrev pub decreases-compare_all : goal.decreases-compare_all
decreases-compare_all l = l.left
