-- What is left of the names is still to be put behind the text.
use Rattle.std.proofs.Common.{◌≡◌, ◌++◌, drop, string_bytes}
use Rattle.uvl_imports.specs.Paths.{each_behind}
use Rattle.uvl_imports.proofs.import_line.push_behind.Given as goal

abbrev pub invariant-loop-name : goal.invariant-loop-name
invariant-loop-name l =
    string_bytes l.text ++ each_behind l.mark (drop l.name-index l.names) ≡ string_bytes l.initial.text ++ each_behind l.mark l.names
