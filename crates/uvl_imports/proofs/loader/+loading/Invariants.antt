-- Each call goes from a file to its lines, from these to one of them, and from it to a file one deeper.
use Rattle.std.proofs.Common.{◌≡◌, ◌+◌, ◌*◌}
use Rattle.uvl_imports.proofs.Walked.{LinesSoFar}
use Rattle.uvl_imports.proofs.loader.+loading.Given as goal

abbrev pub decreases-load_file : goal.decreases-load_file
decreases-load_file g l = 4 * l.depth + 3

abbrev pub decreases-load_lines : goal.decreases-load_lines
decreases-load_lines g l = 4 * l.depth + 2

abbrev pub decreases-load_line : goal.decreases-load_line
decreases-load_line g l = 4 * l.depth + 1

abbrev pub invariant-load_lines-loop-line : goal.invariant-load_lines-loop-line
invariant-load_lines-loop-line g l =
    LinesSoFar (g.F.Files.told l.initial.files) l.path l.lines l.depth l.initial.set l.line-index l.set l.qualifiers l.targets
    × (g.F.Files.told l.files ≡ g.F.Files.told l.initial.files) × (g.F.Files.faults l.files ≡ g.F.Files.faults l.initial.files)
