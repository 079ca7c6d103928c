use Rattle.std.proofs.lemmas.Str.{IsUtf8-string_bytes}
use Rattle.uvl_parser.proofs.LevelTexts.{pushed_text}
use Rattle.uvl_parser.proofs.include_lines.push_text.Goals as goal

pub returns : goal.returns
returns c = pushed_text c.push_str.result _ _ _ (IsUtf8-string_bytes c.args.into.now) c.push_str.ensures.bytes
