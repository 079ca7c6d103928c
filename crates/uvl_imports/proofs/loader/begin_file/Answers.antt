-- What is read of the content says what is begun.
use Rattle.std.proofs.Common.{List, ℕ, ap, ◌∙◌, subst, string_bytes}
use Rattle.uvl_imports.specs.Walking.{begun}
use Rattle.uvl_imports.specs.steps.Answers.{IsFaultOf}
use Rattle.uvl_imports.specs.steps.Growing.{met_of}
use Rattle.uvl_imports.proofs.Begun.{begins_told, refuses_told}
use Rattle.uvl_imports.proofs.loader.begin_file.Goals as goal

pub returns-in_ok-begin-in-Ok-clause-answer : goal.returns-in_ok-begin-in-Ok-clause-answer
returns-in_ok-begin-in-Ok-clause-answer g c =
    begins_told (g.F.Files.told c.args.files.now) (string_bytes c.args.path.now) c.as_str.result.now (met_of c.args.set.now) _ c.bytes_left.result c.in-Ok.file c.in-Ok.count
    c.as_str.ensures.value c.bytes_left.ensures c.in-Ok.ensures.read
    (c.in_ok-begin-in-Ok.ensures.begun ∙ ap (λ (p : List ℕ). begun p c.in-Ok.count (met_of c.args.set.now)) c.in_ok-clone-in-Ok.ensures.cases)

pub returns-in-Err-clause-answer : goal.returns-in-Err-clause-answer
returns-in-Err-clause-answer g c =
    refuses_told (g.F.Files.told c.args.files.now) (string_bytes c.args.path.now) c.as_str.result.now (met_of c.args.set.now) (met_of c.args.set.now) c.bytes_left.result c.in-Err.fault c.fault_of.result
    c.as_str.ensures.value c.bytes_left.ensures c.in-Err.ensures.read (subst (λ (p : List ℕ). IsFaultOf p c.in-Err.fault c.fault_of.result) c.as_str-in-Err.ensures.value c.fault_of.ensures)
