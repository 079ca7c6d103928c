use Rattle.std.proofs.Common.{chars, string_bytes}
use Rattle.uvl_grammar.specs.steps.Reading.{many}
use Rattle.uvl_grammar.specs.steps.Sections.{is_level_part, level_token}
use Rattle.uvl_parser.specs.steps.LanguageLevels.{texts_onto}
use Rattle.uvl_parser.proofs.LevelTexts.{TextsLeft}
use Rattle.uvl_parser.proofs.include_lines.more_tokens.Given as goal

abbrev pub invariant-loop-turn : goal.invariant-loop-turn
invariant-loop-turn l =
    TextsLeft (texts_onto (chars (string_bytes l.fn.into)) (many is_level_part level_token l.fn.tokens)) (chars (string_bytes l.into)) l._turn-end l._turn l.rest
