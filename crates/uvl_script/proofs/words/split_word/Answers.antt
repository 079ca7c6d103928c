-- The first word stands behind the separators.
use Rattle.std.proofs.Common.{sym, ◌∙◌}
use Rattle.std.proofs.lemmas.Bool.{eqb-true, eqb-false}
use Rattle.uvl_script.proofs.Pieces.{words_of-blank, begins_word, words_of-first, words_of-spoiled, words_of-uncut}
use Rattle.uvl_script.proofs.words.split_word.Goals as goal
use Rattle.uvl_script.proofs.words.split_word.Goals.{in_default-via-in-Some+else-is_name, in_default-via-in_default}

pub returns-then-is_empty-clause-first : goal.returns-then-is_empty-clause-first
returns-then-is_empty-clause-first c =
    words_of-blank c.args.text.now _ c.after_separators-text.ensures (eqb-true _ 0 (sym c.is_empty.ensures ∙ c.if-is_empty.true))

pub front_word-requires : goal.front_word-requires
front_word-requires c = begins_word c.args.text.now _ c.after_separators-text.ensures (eqb-false _ 0 (sym c.is_empty.ensures ∙ c.if-is_empty.false))

pub returns-in-Some-clause-first : goal.returns-in-Some-clause-first
returns-in-Some-clause-first c =
    words_of-first c.args.text.now _ c.in-Some.word.now c.in-Some.rest.now c.after_separators-text.ensures c.in-Some.ensures.0 (sym c.is_name.ensures ∙ c.if-is_name.true)

pub returns-in_default-clause-bad_name : goal.returns-in_default-clause-bad_name
returns-in_default-clause-bad_name c =
    elim c.in_default.branch [
      | in_default-via-in-Some+else-is_name w ↦
          words_of-spoiled c.args.text.now _ w.in-Some.word.now w.in-Some.rest.now c.after_separators-text.ensures w.in-Some.ensures.0 (sym w.is_name.ensures ∙ w.if-is_name.false)
      | in_default-via-in_default w ↦ words_of-uncut c.args.text.now _ c.after_separators-text.ensures w.in_default.ensures
    ]
