-- Each call is for one variable fewer.
use Rattle.uvl_diagram_tests.proofs.lists.+function.Given as goal

abbrev pub decreases-function : goal.decreases-function
decreases-function l = l.variables
