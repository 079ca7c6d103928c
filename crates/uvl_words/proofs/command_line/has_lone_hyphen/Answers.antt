use Rattle.std.proofs.Common.{◌∙◌, sym}
use Rattle.uvl_words.proofs.CommandLine.LoneHyphens.{from_start, one_further}
use Rattle.uvl_words.proofs.command_line.has_lone_hyphen.Goals as goal

pub loop-word-init : goal.loop-word-init
loop-word-init c = from_start c.args.words.now

pub loop-word-preserved : goal.loop-word-preserved
loop-word-preserved c =
    one_further c.args.words.now c.loop-word.word-index _ c.loop-word.invariant c.loop-word-test.true
    c.is_hyphen.ensures.text (sym c.eq.ensures ∙ c.if-eq.false) (sym c.is_hyphen.ensures.value ∙ c.if-is_hyphen.false)
