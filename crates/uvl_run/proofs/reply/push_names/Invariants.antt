-- The names up to now are written.
use Rattle.std.proofs.Common.{◌≡◌, [], map, take}
use Rattle.uvl_lines.specs.Lines.{joined}
use Rattle.uvl_model.specs.Names.{name_of}
use Rattle.uvl_run.specs.NameList.{name_line}
use Rattle.uvl_run.proofs.reply.push_names.Given as goal

abbrev pub invariant-loop-feature : goal.invariant-loop-feature
invariant-loop-feature l =
    l.into.items ≡ joined (map name_line (map (name_of (map (λ row. row.name) l.rows)) (take l.feature-index l.features))) []
