-- What is answered of the main file is what the whole set is.
use Rattle.std.proofs.Common.{string_bytes}
use Rattle.std.proofs.lemmas.Result.{err_from_is_err_and}
use Rattle.uvl_imports.proofs.Top.{loads_told, fault_told}
use Rattle.uvl_imports.proofs.loader.load.Goals as goal

pub returns-in_err-load_file-clause-fault : goal.returns-in_err-load_file-clause-fault
returns-in_err-load_file-clause-fault g c =
    let p = err_from_is_err_and c.from_residual-in_err-load_file.result c.from_residual-in_err-load_file.ensures.1 in
    rw (p.1, p.2) (fault_told c.all_bytes_are_read_once.ensures (g.F.Files.told c.args.files.now) c.args.main.now (string_bytes c.in_ok-main.main) c.new-set.result c.load_file.new.set c.in_err-load_file.field-0.0
    c.in_ok-main.ensures.ok c.new-set.ensures.nothing c.in_err-load_file.ensures.answer)

pub returns-clause-loads : goal.returns-clause-loads
returns-clause-loads g c =
    loads_told c.all_bytes_are_read_once.ensures (g.F.Files.told c.args.files.now) c.args.main.now (string_bytes c.in_ok-main.main) c.new-set.result c.load_file.new.set c.in_ok-load_file.field-0 c.finish.result.files
    c.in_ok-main.ensures.ok c.new-set.ensures.nothing c.in_ok-load_file.ensures.answer c.finish.ensures.files
