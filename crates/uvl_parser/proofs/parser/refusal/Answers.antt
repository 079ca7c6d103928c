-- What reading the tokens up to and with a named one tells of them.
use Rattle.std.specs.Prelude.{Err}
use Rattle.std.proofs.Common.{sym, ap, ◌∙◌, subst, arith}
use Rattle.uvl_parser.specs.Parsing.{IsFaultAt}
use Rattle.uvl_parser.proofs.Parsed.{front_read, all_taken, last_stuck, front_stuck}
use Rattle.uvl_parser.proofs.parser.refusal.Goals as goal
use Rattle.uvl_parser.proofs.parser.refusal.Goals.{in-Ok, in-Err-Stuck+then-left-eq0, in-Err-Stuck+else-left-eq0+then-left-eq1, in-Err-Stuck+else-left-eq0+else-left-eq1, in-Err-OutOfMemory}

pub refusal_at-requires : goal.refusal_at-requires
refusal_at-requires c =
    let tokens = c.args.tokens.now in
    front_read tokens c.requires.list c.args.candidate c.requires.first c.in-Ok.field-0.0 c.in-Ok.field-0.1.now c.in-Ok.ensures

pub refusal_at-requires-then-left-eq0 : goal.refusal_at-requires-then-left-eq0
refusal_at-requires-then-left-eq0 c =
    let tokens = c.args.tokens.now in
    let stuck = rw c.in-Err-Stuck.field-0-is at c.in-Err-Stuck.ensures in
    all_taken tokens c.requires.list c.args.candidate c.requires.first (stuck ∙ ap Err c.if-left-eq0.true)

pub refusal_at-requires-then-left-eq1 : goal.refusal_at-requires-then-left-eq1
refusal_at-requires-then-left-eq1 c =
    let tokens = c.args.tokens.now in
    let stuck = rw c.in-Err-Stuck.field-0-is at c.in-Err-Stuck.ensures in
    subst (IsFaultAt tokens c.args.candidate.index) (sym c.dead_kind.ensures)
    (last_stuck tokens c.requires.list c.args.candidate c.requires.first (stuck ∙ ap Err c.if-left-eq1.true))

pub overflow_sub-last : goal.overflow_sub-last
overflow_sub-last c =
    let tokens = c.args.tokens.now in
    let stuck = rw c.in-Err-Stuck.field-0-is at c.in-Err-Stuck.ensures in
    (front_stuck tokens c.requires.list c.args.candidate c.requires.first c.in-Err-Stuck.left (omega (arith, c.if-left-eq0.false, c.if-left-eq1.false)) stuck).0

pub refusal_at-requires-else-left-eq1 : goal.refusal_at-requires-else-left-eq1
refusal_at-requires-else-left-eq1 c =
    let tokens = c.args.tokens.now in
    let stuck = rw c.in-Err-Stuck.field-0-is at c.in-Err-Stuck.ensures in
    (front_stuck tokens c.requires.list c.args.candidate c.requires.first c.in-Err-Stuck.left (omega (arith, c.if-left-eq0.false, c.if-left-eq1.false)) stuck).1

pub returns : goal.returns
returns c =
    elim c.match-file.branch [
      | in-Ok w ↦ rw w.result-is w.refusal_at.ensures
      | in-Err-Stuck+then-left-eq0 w ↦ rw w.result-is w.refusal_at-then-left-eq0.ensures
      | in-Err-Stuck+else-left-eq0+then-left-eq1 w ↦ rw w.result-is w.refusal_at-then-left-eq1.ensures
      | in-Err-Stuck+else-left-eq0+else-left-eq1 w ↦ rw w.result-is w.refusal_at-else-left-eq1.ensures
      | in-Err-OutOfMemory w ↦ rw w.result-is tt
    ]
