-- The value is noted, and how far the edge leads.
use Rattle.std.proofs.Common.{ℕ, subst}
use Rattle.dd_store.specs.Table.{top_of}
use Rattle.dd_quant.specs.steps.Noted.{NotesEdge}
use Rattle.dd_quant.proofs.NotedLemmas.{edge-noted}
use Rattle.dd_quant.proofs.noted.note_edge.Goals as goal

pub returns : goal.returns
returns c =
    let b = c.args.is_noted in
    let v = c.args.literal.var.0 in
    let x = c.args.literal.value in
    let o = c.args.offers.now in
    let o' = c.note_value.new.offers in
    let f = c.args.far.now in
    let f' = c.reach.new.far in
    subst (λ (k : ℕ). NotesEdge b v x k (top_of c.args.kernel.now c.args.end.0) o o' f f') c.level.ensures
    (subst (λ (k : ℕ). NotesEdge b v x c.level.result k o o' f f') c.top.ensures
    (edge-noted b v x c.level.result c.top.result o o' f f' c.note_value.ensures.noted c.reach.ensures.passed c.note_value.ensures.number c.reach.ensures.number))
