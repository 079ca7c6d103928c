-- One piece after another is taken, up to the end or to a place at which none begins.
use Rattle.std.proofs.Common.{◌≡◌, ℕ, List, ◌≤◌, Some, Err, length, take, drop, sym, ap, ◌∙◌, subst, arith, length-append}
use Rattle.std.specs.Prelude.{chars}
use Rattle.std.proofs.lemmas.Result.{err_from_is_err_and}
use Rattle.uvl_lexer.specs.Cut.{Cut, cut, piece_onto}
use Rattle.uvl_lexer.specs.steps.Turns.{read_through}
use Rattle.uvl_lexer.specs.Pieces.{Piece, piece_at}
use Rattle.uvl_lexer.specs.steps.Reading.{read_on}
use Rattle.uvl_lexer.specs.Forms.{HasForm}
use Rattle.uvl_lexer.proofs.Cutting.{cut_piece}
use Rattle.uvl_lexer.proofs.Laying.{OnFault-map}
use Rattle.uvl_lexer.proofs.Sizes.{count_within}
use Rattle.uvl_lexer.proofs.Found.{found, taken}
use Rattle.uvl_lexer.proofs.lexer.read_text.Goals as goal

-- a cut begins with the piece that has been split off
cut_split : (text front after : List ℕ) (p : Piece) → piece_at text ≡ Some p → 1 ≤ p.1 → front ≡ take p.1 text → after ≡ drop p.1 text → cut text ≡ piece_onto p.0 front (cut after)
cut_split text front after p is some ef ea =
    cut_piece text p is some
    ∙ ap (λ (f : List ℕ). piece_onto p.0 f (cut (drop p.1 text))) (sym ef)
    ∙ ap (λ (a : List ℕ). piece_onto p.0 front (cut a)) (sym ea)

pub piece_at-requires : goal.piece_at-requires
piece_at-requires c = omega (arith, count_within c.loop-piece.rest.now c.loop-piece.invariant.0, c.loop-piece.invariant.2, c.requires)

pub take-requires-clause-spelled : goal.take-requires-clause-spelled
take-requires-clause-spelled c =
    let p = c.in-Some.piece in
    let text = chars c.loop-piece.rest.now in
    let h = found text p (sym c.in-Some.ensures.piece) in
    subst (λ (t : List ℕ). HasForm p.0 t) (sym (c.split_at_count.ensures.front ∙ taken text p h)) h.form

pub loop-piece-preserved : goal.loop-piece-preserved
loop-piece-preserved c =
    let p = c.in-Some.piece in
    let parts = c.split_at_count.ensures in
    let taken = c.in_ok-take.ensures in
    let so_far = c.loop-piece.invariant in
    let front = c.split_at_count.result.0.now in
    let after = c.split_at_count.result.1.now in (
      parts.utf8,
      taken.sound,
      omega (arith, taken.byte, ap length parts.bytes, length-append front after, so_far.2),
      so_far.3
          ∙ ap (read_on c.loop-piece.reader)
          (cut_split (chars c.loop-piece.rest.now) (chars front) (chars after) p (sym c.in-Some.ensures.piece) c.in-Some.ensures.within.0 parts.front parts.rest)
          ∙ taken.read (cut (chars after)),
    )

pub returns-in_err-take-clause-stops : goal.returns-in_err-take-clause-stops
returns-in_err-take-clause-stops c =
    let p = c.in-Some.piece in
    let parts = c.split_at_count.ensures in
    let front = c.split_at_count.result.0.now in
    let after = c.split_at_count.result.1.now in
    let text = chars c.args.text.now in
    let so_far : read_through text ≡ read_on c.loop-piece.reader (piece_onto p.0 (chars front) (cut (chars after))) =
    c.loop-piece.invariant.3
    ∙ ap (read_on c.loop-piece.reader)
    (cut_split (chars c.loop-piece.rest.now) (chars front) (chars after) p (sym c.in-Some.ensures.piece) c.in-Some.ensures.within.0 parts.front parts.rest) in
    let from = err_from_is_err_and c.from_residual.result c.from_residual.ensures.1 in
    rw (from.1, from.2)
    (OnFault-map c.in_err-take.field-0.0
    (λ place why. (rest : Cut) → read_on c.loop-piece.reader (piece_onto p.0 (chars front) rest) ≡ Err (place, why))
    (λ place why. read_through text ≡ Err (place, why))
    (λ place why refused. so_far ∙ refused (cut (chars after)))
    c.in_err-take.ensures.refused)
