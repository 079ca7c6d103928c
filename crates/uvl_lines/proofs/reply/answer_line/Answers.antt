-- The reply is that to the line, and so to any that is read alike.
use Rattle.std.proofs.Common.{ℕ, List, subst}
use Rattle.std.specs.Io.KnownBytes.{Appends}
use Rattle.std.proofs.lemmas.Result.{err_from_is_err_and}
use Rattle.uvl_outside.specs.Sink.{AppendsFront}
use Rattle.uvl_lines.proofs.Answering.{Replied-one, Line-alike, Halted-answer, Halted-put, Answering-err}
use Rattle.uvl_lines.proofs.reply.answer_line.Goals as goal

pub returns-in_err-write_reply-clause-answered : goal.returns-in_err-write_reply-clause-answered
returns-in_err-write_reply-clause-answered g c = λ other alike.
    let R = g.A.Answerer.replies (g.F.Files.told c.args.files.now) in
    let F = g.A.Answerer.fetches in
    let from = err_from_is_err_and c.from_residual.result c.from_residual.ensures.1 in
    Answering-err R F _ _ _ _ _ _ from.0 _ from.1 from.2 (Halted-answer R F _ _ c.args.line.now other c.in_err-write_reply.field-0.0 alike c.in_err-write_reply.ensures.fetching)

pub returns-in_err-put_reply-clause-answered : goal.returns-in_err-put_reply-clause-answered
returns-in_err-put_reply-clause-answered g c = λ other alike.
    let R = g.A.Answerer.replies (g.F.Files.told c.args.files.now) in
    let F = g.A.Answerer.fetches in
    let from = err_from_is_err_and c.from_residual-in_err-put_reply.result c.from_residual-in_err-put_reply.ensures.1 in
    let P : List ℕ → Type 0 = λ text. AppendsFront (g.K.Sink.written c.args.out.now) (g.K.Sink.written c.put_reply.new.out) text in
    let reply = Line-alike R F _ _ c.args.line.now other c.write_reply.new.into.items alike c.in_ok-write_reply.ensures.replied in
    Answering-err R F _ _ _ _ _ _ from.0 _ from.1 from.2 (Halted-put R F _ _ _ _ other _ c.in_err-put_reply.field-0.0 reply (subst P c.deref.ensures.value c.in_err-put_reply.ensures.wrote))

pub returns-clause-answered : goal.returns-clause-answered
returns-clause-answered g c = λ other alike.
    let R = g.A.Answerer.replies (g.F.Files.told c.args.files.now) in
    let F = g.A.Answerer.fetches in
    let P : List ℕ → Type 0 = λ text. Appends (g.K.Sink.written c.args.out.now) (g.K.Sink.written c.put_reply.new.out) text in
    let reply = Line-alike R F _ _ c.args.line.now other c.write_reply.new.into.items alike c.in_ok-write_reply.ensures.replied in
    Replied-one R F _ _ _ _ other _ reply (subst P c.deref.ensures.value c.in_ok-put_reply.ensures.wrote)
