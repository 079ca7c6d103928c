-- The blank is taken, and the reader stands behind it.
use Rattle.std.proofs.Common.{ℕ, length, ap, ◌∙◌, arith}
use Rattle.std.specs.Prelude.{chars}
use Rattle.uvl_lexer.specs.declared.reader.Reader.{Reader}
use Rattle.uvl_lexer.specs.Positions.{behind}
use Rattle.uvl_lexer.proofs.Laying.{blank_read}
use Rattle.uvl_lexer.proofs.Sizes.{size_is, count_within}
use Rattle.uvl_lexer.proofs.reader.Reader.take_blank.Goals as goal

pub overflow_cast-count : goal.overflow_cast-count
overflow_cast-count c = omega (arith, count_within c.args.spelling.now c.utf8.spelling, c.requires.count, c.requires.room)

pub behind-after-requires-clause-characters : goal.behind-after-requires-clause-characters
behind-after-requires-clause-characters c = omega (arith, count_within c.args.spelling.now c.utf8.spelling, c.requires.count)

pub returns-clause-read : goal.returns-clause-read
returns-clause-read c =
    let old = c.args.self.now in
    let new = c.end_line_at.new.self in
    let taken = c.in_ok-end_line_at.ensures in
    let size = length c.args.spelling.now in
    λ rest. blank_read old.tokens.items new.tokens.items old.begun new.begun old.indentations new.indentations old.brackets new.brackets
    old.position c.behind-after.result c.args.kind (chars c.args.spelling.now) size
    c.requires.blank
    (size_is c.args.spelling.now c.utf8.spelling)
    (c.behind-after.ensures.position ∙ ap (λ (n : ℕ). behind c.args.kind old.position n size) c.requires.count)
    taken.tokens taken.begun
    (ap (λ (r : Reader). r.indentations) c.end_line_at.ensures.others) (ap (λ (r : Reader). r.brackets) c.end_line_at.ensures.others) rest
