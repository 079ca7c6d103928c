-- The token is taken, and the reader stands behind it.
use Rattle.std.proofs.Common.{ℕ, length, ap, ◌∙◌, arith}
use Rattle.std.specs.Prelude.{chars}
use Rattle.uvl_lexer.specs.declared.piece.PieceKind.TheVariants as piece
use Rattle.uvl_lexer.specs.Positions.{behind}
use Rattle.uvl_lexer.proofs.Laying.{token_read}
use Rattle.uvl_lexer.proofs.Sizes.{size_is, count_within}
use Rattle.uvl_lexer.proofs.reader.Reader.take_lexeme.Goals as goal

pub overflow_cast-count : goal.overflow_cast-count
overflow_cast-count c = omega (arith, count_within c.args.spelling.now c.utf8.spelling, c.requires.count, c.requires.room)

pub behind-after-requires-clause-characters : goal.behind-after-requires-clause-characters
behind-after-requires-clause-characters c = omega (arith, count_within c.args.spelling.now c.utf8.spelling, c.requires.count)

pub returns-clause-read : goal.returns-clause-read
returns-clause-read c =
    let old = c.args.self.now in
    let new = c.take_token.new.self in
    let taken = c.in_ok-take_token.ensures in
    let size = length c.args.spelling.now in
    λ rest. token_read old.tokens.items new.tokens.items old.begun new.begun old.indentations new.indentations old.brackets new.brackets
    old.position c.behind-after.result c.args.lexeme (chars c.args.spelling.now) size
    (size_is c.args.spelling.now c.utf8.spelling)
    (c.behind-after.ensures.position ∙ ap (λ (n : ℕ). behind (piece.Lexeme c.args.lexeme) old.position n size) c.requires.count)
    taken.stands.0 taken.stands.1 taken.tokens taken.indentations taken.brackets taken.begun rest
