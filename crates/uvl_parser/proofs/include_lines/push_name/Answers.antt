use Rattle.uvl_parser.proofs.LevelTexts.{on_ok, quoted_text}
use Rattle.uvl_parser.proofs.include_lines.push_name.Goals as goal

pub returns : goal.returns
returns c =
    on_ok c.push_text-4.result _ _ c.push_text-4.ensures (λ last.
    quoted_text _ _ _ _ _ _ c.in_ok-push_text.ensures c.in_ok-push_text-2.ensures last c.if-not-quoted.false)
