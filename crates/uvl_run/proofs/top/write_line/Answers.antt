-- The line was written whole, or not.
use Rattle.std.proofs.Common.{List, ℕ, subst, ap, ◌∙◌}
use Rattle.std.specs.Io.KnownBytes.{Appends}
use Rattle.uvl_outside.specs.Sink.{AppendsFront}
use Rattle.uvl_run.specs.Status.{outcome_of}
use Rattle.uvl_run.proofs.Runs.{written_whole, written_partly, put_failed_is}
use Rattle.uvl_run.proofs.top.write_line.Goals as goal

pub returns-in-Ok : goal.returns-in-Ok
returns-in-Ok g c =
    let P : List ℕ → Type 0 = λ line. Appends (g.K.Sink.written c.args.out.now) (g.K.Sink.written c.put.new.self) line in
    written_whole c.args.line.now _ _ _ _ _ (subst P c.as_bytes.ensures.value c.in-Ok.ensures.appends) c.in-Ok.ensures.counted

pub returns-in-Err : goal.returns-in-Err
returns-in-Err g c =
    let P : List ℕ → Type 0 = λ line. AppendsFront (g.K.Sink.written c.args.out.now) (g.K.Sink.written c.put.new.self) line in
    let is = c.from-in-Err.ensures ∙ ap (λ ending. (outcome_of ending).status) c.from.ensures in
    written_partly c.args.line.now _ _ _ _ _ c.in-Err.fault c.from-in-Err.result is (subst P c.as_bytes.ensures.value c.in-Err.ensures.appends)
    (put_failed_is c.in-Err.fault _ _ c.in-Err.ensures.counted)
