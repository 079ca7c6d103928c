use Rattle.std.proofs.Common.{refl}
use Rattle.uvl_parser.proofs.LevelTexts.{appended, symbol_chars}
use Rattle.uvl_parser.proofs.include_lines.push_symbol.Goals as goal

pub returns-in_ok-push_text-in-Some : goal.returns-in_ok-push_text-in-Some
returns-in_ok-push_text-in-Some c =
    rw (← c.in-Some.ensures) (refl, appended _ _ _ _ c.in_ok-push_text-in-Some.ensures (symbol_chars c.args.symbol _ c.in-Some.ensures))
