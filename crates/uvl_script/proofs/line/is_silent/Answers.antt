-- The first byte that is no separator tells.
use Rattle.std.proofs.Common.{sym}
use Rattle.uvl_script.proofs.Pieces.{is_silent-blank, is_silent-some}
use Rattle.uvl_script.proofs.line.is_silent.Goals as goal

pub returns-in-empty : goal.returns-in-empty
returns-in-empty c = sym (is_silent-blank c.args.text.now _ _ c.after_separators.ensures c.as_bytes.ensures.value c.in-empty.len_below)

pub returns-in-len1-up : goal.returns-in-len1-up
returns-in-len1-up c = sym (is_silent-some c.args.text.now _ _ c.after_separators.utf8 c.after_separators.ensures c.as_bytes.ensures.value c.in-len1-up.len_at_least)
