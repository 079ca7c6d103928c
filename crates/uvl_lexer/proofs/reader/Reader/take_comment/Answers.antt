-- Each turn takes the characters up to the end of a line, or the end of a line.
use Rattle.std.proofs.Common.{length, sym, ap, ◌∙◌, arith, length-append}
use Rattle.std.specs.Prelude.{chars}
use Rattle.uvl_lexer.specs.Cut.{comment_onto}
use Rattle.uvl_lexer.specs.Layout.{Units, tokens_onto}
use Rattle.uvl_lexer.specs.steps.Turns.{read_units}
use Rattle.uvl_lexer.proofs.Comments.{comment_read, nothing_left}
use Rattle.uvl_lexer.proofs.Sizes.{no_bytes}
use Rattle.uvl_lexer.proofs.reader.Reader.take_comment.Goals as goal

pub loop-piece-preserved : goal.loop-piece-preserved
loop-piece-preserved c =
    let parts = c.split_at_count.ensures in
    let taken = c.in_ok-take_blank.ensures in
    let so_far = c.loop-piece.invariant in
    let front = c.split_at_count.result.0.now in
    let after = c.split_at_count.result.1.now in
    let r = c.loop-piece.self in (
      parts.utf8,
      taken.sound,
      omega (arith, taken.byte, ap length parts.bytes, length-append front after, so_far.2),
      λ more.
          so_far.3 more
          ∙ ap (λ (u : Units). tokens_onto r.tokens.items (read_units r.begun r.indentations u))
          (comment_read (chars c.loop-piece.rest.now) c.in-Some.piece (chars front) (chars after) (sym c.in-Some.ensures.piece) parts.front parts.rest r.position r.brackets more)
          ∙ taken.read (comment_onto (chars after) more),
    )

pub returns-clause-byte : goal.returns-clause-byte
returns-clause-byte c =
    let none = nothing_left (chars c.loop-piece.rest.now) (sym c.in_default.ensures.piece) in
    omega (arith, no_bytes c.loop-piece.rest.now c.loop-piece.invariant.0 none, c.loop-piece.invariant.2)
