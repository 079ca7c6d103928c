-- What is left of the names is still to be put behind the text.
use Rattle.std.proofs.Common.{◌≡◌, ◌++◌, drop, chars, string_bytes}
use Rattle.uvl_placing.specs.Names.{behind_dots}
use Rattle.uvl_scope.specs.Spelling.{MayStandInName}
use Rattle.uvl_scope.proofs.spelling.push_behind_dots.Given as goal

abbrev pub invariant-loop-name : goal.invariant-loop-name
invariant-loop-name l = record {
  text : chars (string_bytes l.text) ++ behind_dots (drop l.name-index l.names) ≡ chars (string_bytes l.initial.text) ++ behind_dots l.names;
  name : MayStandInName (chars (string_bytes l.initial.text)) → MayStandInName (chars (string_bytes l.text));
}
