-- What reading all tokens tells of them.
use Rattle.uvl_parser.proofs.Parsed.{all_read, all_stuck}
use Rattle.uvl_parser.proofs.parser.read_unnamed.Goals as goal

pub overflow_sub-index : goal.overflow_sub-index
overflow_sub-index c =
    (all_stuck c.args.tokens.now c.requires.list c.requires.unnamed c.in-Err-Stuck.left (rw c.in-Err-Stuck.field-0-is at c.in-Err-Stuck.ensures)).1

pub refusal_at-requires : goal.refusal_at-requires
refusal_at-requires c =
    (all_stuck c.args.tokens.now c.requires.list c.requires.unnamed c.in-Err-Stuck.left (rw c.in-Err-Stuck.field-0-is at c.in-Err-Stuck.ensures)).2

pub returns-in-Ok-clause-file : goal.returns-in-Ok-clause-file
returns-in-Ok-clause-file c = all_read c.args.tokens.now c.requires.list c.requires.unnamed c.in-Ok.file c.in-Ok.field-0-1.now c.in-Ok.ensures
