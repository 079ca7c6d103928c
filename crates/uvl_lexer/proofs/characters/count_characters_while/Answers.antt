-- Each turn has the next character of the text.
use Rattle.std.proofs.Common.{sym, ◌∙◌, arith}
use Rattle.std.specs.Prelude.{chars}
use Rattle.std.proofs.lemmas.Iterator.{YieldsList-from_chars}
use Rattle.std.proofs.lemmas.Iterator.Consumers.{YieldsList-turn, YieldsList-end}
use Rattle.std.proofs.lemmas.List.{length_push}
use Rattle.uvl_lexer.specs.Characters.{is_of_class}
use Rattle.uvl_lexer.proofs.Counts.{count_stops, count_goes_on, count_ends}
use Rattle.uvl_lexer.proofs.characters.count_characters_while.Goals as goal

pub returns-then-not-is_of_class-clause-count : goal.returns-then-not-is_of_class-clause-count
returns-then-not-is_of_class-clause-count c =
    let t = YieldsList-turn (YieldsList-from_chars c.args.text.now c.utf8.text cc) c.loop-character.yielded _ c.loop-character.yielded_by _ _ c.in-Some.character c.in-Some.is c.next.ensures.steps in
    count_stops (is_of_class c.args.class) (chars c.args.text.now) _ _ c.in-Some.character _ c.loop-character.invariant.0 t
    (sym c.is_of_class.ensures ∙ c.if-not-is_of_class.true) c.loop-character.invariant.1

pub returns-then-not-is_of_class-clause-within : goal.returns-then-not-is_of_class-clause-within
returns-then-not-is_of_class-clause-within c =
    let t = YieldsList-turn (YieldsList-from_chars c.args.text.now c.utf8.text cc) c.loop-character.yielded _ c.loop-character.yielded_by _ _ c.in-Some.character c.in-Some.is c.next.ensures.steps in
    omega (arith, t.0, c.loop-character.invariant.0)

pub loop-character-preserved : goal.loop-character-preserved
loop-character-preserved c =
    let t = YieldsList-turn (YieldsList-from_chars c.args.text.now c.utf8.text cc) c.loop-character.yielded _ c.loop-character.yielded_by _ _ c.in-Some.character c.in-Some.is c.next.ensures.steps in
    let n = length_push c.loop-character.yielded c.in-Some.character in (
      omega (arith, n, c.loop-character.invariant.0),
      count_goes_on (is_of_class c.args.class) (chars c.args.text.now) _ _ c.in-Some.character _ c.loop-character.invariant.0 t
          (sym c.is_of_class.ensures ∙ c.if-not-is_of_class.false) c.loop-character.invariant.1,
    )

pub returns-clause-count : goal.returns-clause-count
returns-clause-count c =
    let t = YieldsList-end (YieldsList-from_chars c.args.text.now c.utf8.text cc) c.loop-character.yielded _ c.loop-character.yielded_by _ _ c.in-None.is c.next.ensures.steps in
    count_ends (is_of_class c.args.class) (chars c.args.text.now) _ _ (omega (arith, t.1, c.loop-character.invariant.0)) c.loop-character.invariant.1

pub returns-clause-within : goal.returns-clause-within
returns-clause-within c =
    let t = YieldsList-end (YieldsList-from_chars c.args.text.now c.utf8.text cc) c.loop-character.yielded _ c.loop-character.yielded_by _ _ c.in-None.is c.next.ensures.steps in
    omega (arith, t.1, c.loop-character.invariant.0)
