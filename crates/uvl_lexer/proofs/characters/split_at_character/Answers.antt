-- One character is taken after another, and the text is cut in front of what is left.
use Rattle.std.proofs.Common.{◌≡◌, ℕ, List, [], take, drop, refl, sym, ap, ◌∙◌, subst, arith}
use Rattle.std.specs.Prelude.{chars, IsUtf8}
use Rattle.uvl_lexer.proofs.Splits.{taken_more, something_left, may_be_cut, front_characters, rest_characters, rest_is}
use Rattle.uvl_lexer.proofs.characters.split_at_character.Goals as goal

pub loop-taken-init : goal.loop-taken-init
loop-taken-init c = (c.utf8.text, record { utf8 = c.utf8.text; characters = refl; ends = ([], refl) })

pub loop-taken-preserved : goal.loop-taken-preserved
loop-taken-preserved c =
    let more = taken_more c.args.text.now c.loop-taken.rest.now c.in-Some.parts.1.now c.in-Some.parts.0 c.loop-taken._taken c.loop-taken.invariant.1 c.in-Some.ensures.0 c.in-Some.ensures.1 in
    (more.utf8, more)

pub split_at-requires : goal.split_at-requires
split_at-requires c = may_be_cut c.args.text.now c.loop-taken.rest.now c.loop-taken._taken c.loop-taken.invariant.1

pub unreachable-requires : goal.unreachable-requires
unreachable-requires c =
    something_left c.args.text.now c.loop-taken.rest.now c.loop-taken._taken c.loop-taken.invariant.1 c.in_default.ensures
    (omega (arith, c.loop-taken-test.true, c.requires))

pub returns-clause-front : goal.returns-clause-front
returns-clause-front c =
    let k = c.loop-taken._taken in
    let all : k ≡ c.args.count = omega (arith, c.loop-taken-test.false, c.loop-taken.auto._taken-end) in
    ap chars c.split_at.ensures.front
    ∙ front_characters c.args.text.now c.loop-taken.rest.now k c.utf8.text c.loop-taken.invariant.1
    ∙ ap (λ (n : ℕ). take n (chars c.args.text.now)) all

pub returns-clause-rest : goal.returns-clause-rest
returns-clause-rest c =
    let k = c.loop-taken._taken in
    let all : k ≡ c.args.count = omega (arith, c.loop-taken-test.false, c.loop-taken.auto._taken-end) in
    ap chars c.split_at.ensures.back
    ∙ rest_characters c.args.text.now c.loop-taken.rest.now k c.loop-taken.invariant.1
    ∙ ap (λ (n : ℕ). drop n (chars c.args.text.now)) all

pub returns-clause-utf8 : goal.returns-clause-utf8
returns-clause-utf8 c =
    subst (λ (t : List ℕ). IsUtf8 t) (sym (c.split_at.ensures.back ∙ rest_is c.args.text.now c.loop-taken.rest.now c.loop-taken._taken c.loop-taken.invariant.1)) c.loop-taken.invariant.1.utf8
