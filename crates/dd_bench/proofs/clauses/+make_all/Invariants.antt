-- Each call is for one variable fewer.
use Rattle.dd_bench.proofs.clauses.+make_all.Given as goal

abbrev pub decreases-make_all : goal.decreases-make_all
decreases-make_all l = l.left
