-- What was fetched says what is read of the content.
use Rattle.std.proofs.Common.{List, ℕ, IfOk, IfErr, length, subst, ◌≡◌}
use Rattle.uvl_imports.specs.Reading.{IsFileOf}
use Rattle.uvl_imports.specs.steps.Answers.{IsFaultIn}
use Rattle.uvl_imports.proofs.Contents.{content_of_whole, content_of_absent, content_of_too_long, content_of_failure, content_of_want}
use Rattle.uvl_imports.proofs.reading.read_file.Goals as goal

pub returns-in-Ok-Whole-clause-read : goal.returns-in-Ok-Whole-clause-read
returns-in-Ok-Whole-clause-read g c =
    let File : List ℕ → Type 0 = λ bytes. IfOk c.sized_file_in.result (λ pair. IsFileOf bytes pair.0) in
    let Size : List ℕ → Type 0 = λ bytes. IfOk c.sized_file_in.result (λ pair. pair.1 ≡ length bytes) in
    let Fault : List ℕ → Type 0 = λ bytes. IfErr c.sized_file_in.result (IsFaultIn bytes) in
    content_of_whole c.all_bytes_are_read_once.ensures (g.F.Files.told c.args.files.now) c.args.path.now c.args.limit c.fetch.new.into.items
    (rw c.in-Ok-Whole.field-0-is at c.in-Ok-Whole.ensures.fetched) c.sized_file_in.result
    (subst File c.deref.ensures.value c.sized_file_in.ensures.file) (subst Size c.deref.ensures.value c.sized_file_in.ensures.size) (subst Fault c.deref.ensures.value c.sized_file_in.ensures.fault)

pub returns-in-Ok-Absent-clause-read : goal.returns-in-Ok-Absent-clause-read
returns-in-Ok-Absent-clause-read g c =
    rw c.of_whole_file.ensures (content_of_absent (g.F.Files.told c.args.files.now) c.args.path.now c.args.limit c.fetch.new.into.items (rw c.in-Ok-Absent.field-0-is at c.in-Ok-Absent.ensures.fetched))

pub returns-in-Ok-TooLong-clause-read : goal.returns-in-Ok-TooLong-clause-read
returns-in-Ok-TooLong-clause-read g c =
    rw c.of_whole_file-in-Ok-TooLong.ensures (content_of_too_long (g.F.Files.told c.args.files.now) c.args.path.now c.args.limit c.fetch.new.into.items (rw c.in-Ok-TooLong.field-0-is at c.in-Ok-TooLong.ensures.fetched))

pub returns-in-Err-Failed-clause-read : goal.returns-in-Err-Failed-clause-read
returns-in-Err-Failed-clause-read g c = content_of_failure (g.F.Files.told c.args.files.now) c.args.path.now c.args.limit

pub returns-clause-read : goal.returns-clause-read
returns-clause-read g c = content_of_want (g.F.Files.told c.args.files.now) c.args.path.now c.args.limit
