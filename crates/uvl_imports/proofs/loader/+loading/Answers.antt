-- A file, its lines one after the other, and the cases of one line.
use Rattle.std.proofs.Common.{◌≡◌, ◌-◌, ◌<◌, ◌+◌, true, false, ltb, length, Ok, Err, sym, ap, ◌∙◌, arith, string_bytes, List, ℕ}
use Rattle.std.proofs.lemmas.Result.{err_from_is_err_and}
use Rattle.uvl_imports.specs.Limits.{most_files}
use Rattle.uvl_imports.specs.Paths.{target_of, has_bad_name}
use Rattle.uvl_imports.specs.Texts.{has, place_of}
use Rattle.uvl_imports.specs.Walking.{at_depth, deeper, paths_of, read_file, read_line}
use Rattle.uvl_imports.specs.steps.Growing.{met_of}
use Rattle.uvl_base.specs.declared.fault.FaultKind.TheVariants.{ImportDepth, TooManyFiles}
use Rattle.uvl_imports.proofs.Lines.{refused_told, found_told, same_told, deeper_below, deeper_none, line_goes, target_known, target_full, target_new, not_true, not_false}
use Rattle.uvl_imports.proofs.Walked.{not_ended, has_ended, lines_as, line_as, same_way, ended_as, so_far_stop, so_far_step, so_far_end}
use Rattle.uvl_imports.proofs.loader.+loading.Goals as goal

pub load_file-returns-in_err-targets-clause-answer : goal.load_file-returns-in_err-targets-clause-answer
load_file-returns-in_err-targets-clause-answer g t c =
    let p = err_from_is_err_and c.from_residual-in_err-targets.result c.from_residual-in_err-targets.ensures.1 in
    let told = g.F.Files.told c.args.files.now in
    let path = string_bytes c.args.path in
    let reads = lines_as told (g.F.Files.told c.begin_file.new.files) c.args.depth path c.as_str.result.now c.in_ok-file.file.imports c.as_slice-lines.result.now c.begin_file.new.set c.load_lines.new.set (Err c.in_err-targets.field-0.0)
    c.in_ok-file.ensures.same c.as_str.ensures.value c.as_slice-lines.ensures c.in_err-targets.ensures.answer in
    rw (p.1, p.2) (not_ended told c.args.depth path c.args.set.now c.begin_file.new.set c.load_lines.new.set c.in_ok-file.file c.in_err-targets.field-0.0 c.in_ok-file.ensures.answer reads)

pub load_file-returns-clause-answer : goal.load_file-returns-clause-answer
load_file-returns-clause-answer g t c =
    let told = g.F.Files.told c.args.files.now in
    let path = string_bytes c.args.path in
    let reads = lines_as told (g.F.Files.told c.begin_file.new.files) c.args.depth path c.as_str.result.now c.in_ok-file.file.imports c.as_slice-lines.result.now c.begin_file.new.set c.load_lines.new.set (Ok c.in_ok-targets.targets)
    c.in_ok-file.ensures.same c.as_str.ensures.value c.as_slice-lines.ensures c.in_ok-targets.ensures.answer in
    let way = same_way c.end.new.self.way c.args.set.now.way path (sym c.in_ok-end.ensures.way ∙ c.in_ok-targets.ensures.way ∙ c.in_ok-file.ensures.way) in
    has_ended told c.args.depth path c.args.set.now c.begin_file.new.set c.load_lines.new.set c.end.new.self c.in_ok-file.file c.in_ok-targets.targets c.in_ok-end.field-0 c.in_ok-file.ensures.answer reads
    (ended_as c.args.set.now.way path c.in_ok-file.file c.in_ok-targets.targets c.load_lines.new.set c.end.new.self c.in_ok-end.field-0 c.in_ok-end.ensures.files way c.in_ok-end.ensures.bytes c.in_ok-end.ensures.position)

pub load_line-returns-then-depth-eq0-clause-answer : goal.load_line-returns-then-depth-eq0-clause-answer
load_line-returns-then-depth-eq0-clause-answer g t c =
    let set = c.args.set.now in
    let target = c.deref.ensures ∙ c.in_ok-target.ensures in
    let good : has_bad_name c.args.qualifiers.now c.args.line.now ≡ false = sym c.in_ok-has_bad_name.ensures.bad ∙ c.if-branch.false in
    let apart : has set.way (target_of c.args.path.now c.args.line.now) ≡ false = ap (has set.way) (sym target) ∙ sym c.has.ensures ∙ c.if-has.false in
    refused_told (g.F.Files.told c.args.files.now) (λ contents read. read_line (deeper contents read c.args.depth) c.args.path.now c.args.qualifiers.now c.args.line.now (met_of set)) (met_of set)
    c.args.path.now c.args.line.now.place ImportDepth c.refusal-then-depth-eq0.result
    (λ contents read.
    line_goes (deeper contents read c.args.depth) c.args.path.now c.args.qualifiers.now c.args.line.now (met_of set) good apart
    ∙ ap (λ b. at_depth b c.args.path.now c.args.line.now.place (target_of c.args.path.now c.args.line.now) (met_of set)) (ap (deeper contents read) c.if-depth-eq0.true ∙ deeper_none contents read))
    c.refusal-then-depth-eq0.ensures

pub load_line-returns-in-Some-clause-answer : goal.load_line-returns-in-Some-clause-answer
load_line-returns-in-Some-clause-answer g t c =
    let set = c.args.set.now in
    let path = c.args.path.now in
    let line = c.args.line.now in
    let target = c.deref.ensures ∙ c.in_ok-target.ensures in
    let good : has_bad_name c.args.qualifiers.now line ≡ false = sym c.in_ok-has_bad_name.ensures.bad ∙ c.if-branch.false in
    let apart : has set.way (target_of path line) ≡ false = ap (has set.way) (sym target) ∙ sym c.has.ensures ∙ c.if-has.false in
    let deep : 0 < c.args.depth = omega (arith, c.if-depth-eq0.false) in
    let known = ap (λ (x : List ℕ). place_of x (paths_of set.files)) (sym (c.deref-2.ensures ∙ c.in_ok-target.ensures)) ∙ sym c.position_of.ensures.place ∙ c.in-Some.is in
    found_told (g.F.Files.told c.args.files.now) (λ contents read. read_line (deeper contents read c.args.depth) path c.args.qualifiers.now line (met_of set)) (met_of set) c.in-Some.position
    (λ contents read.
    line_goes (deeper contents read c.args.depth) path c.args.qualifiers.now line (met_of set) good apart
    ∙ ap (λ b. at_depth b path line.place (target_of path line) (met_of set)) (deeper_below contents read c.args.depth deep)
    ∙ target_known (read_file contents read (c.args.depth - 1)) path line.place (target_of path line) (met_of set) c.in-Some.position known)

pub load_line-returns-in-None-clause-answer : goal.load_line-returns-in-None-clause-answer
load_line-returns-in-None-clause-answer g t c =
    let set = c.args.set.now in
    let path = c.args.path.now in
    let line = c.args.line.now in
    let target = c.deref.ensures ∙ c.in_ok-target.ensures in
    let good : has_bad_name c.args.qualifiers.now line ≡ false = sym c.in_ok-has_bad_name.ensures.bad ∙ c.if-branch.false in
    let apart : has set.way (target_of path line) ≡ false = ap (has set.way) (sym target) ∙ sym c.has.ensures ∙ c.if-has.false in
    let deep : 0 < c.args.depth = omega (arith, c.if-depth-eq0.false) in
    let none = ap (λ (x : List ℕ). place_of x (paths_of set.files)) (sym (c.deref-2.ensures ∙ c.in_ok-target.ensures)) ∙ sym c.position_of.ensures.place ∙ c.in-None.is in
    let full : ltb (length set.files + length set.way) most_files ≡ false = not_true _ (sym c.is_full.ensures ∙ c.if-is_full.true) in
    refused_told (g.F.Files.told c.args.files.now) (λ contents read. read_line (deeper contents read c.args.depth) path c.args.qualifiers.now line (met_of set)) (met_of set)
    path line.place TooManyFiles c.refusal-in-None.result
    (λ contents read.
    line_goes (deeper contents read c.args.depth) path c.args.qualifiers.now line (met_of set) good apart
    ∙ ap (λ b. at_depth b path line.place (target_of path line) (met_of set)) (deeper_below contents read c.args.depth deep)
    ∙ target_full (read_file contents read (c.args.depth - 1)) path line.place (target_of path line) (met_of set) none full)
    c.refusal-in-None.ensures

pub load_line-returns-in-None-2-clause-answer : goal.load_line-returns-in-None-2-clause-answer
load_line-returns-in-None-2-clause-answer g t c =
    let set = c.args.set.now in
    let path = c.args.path.now in
    let line = c.args.line.now in
    let target = c.deref.ensures ∙ c.in_ok-target.ensures in
    let good : has_bad_name c.args.qualifiers.now line ≡ false = sym c.in_ok-has_bad_name.ensures.bad ∙ c.if-branch.false in
    let apart : has set.way (target_of path line) ≡ false = ap (has set.way) (sym target) ∙ sym c.has.ensures ∙ c.if-has.false in
    let deep : 0 < c.args.depth = omega (arith, c.if-depth-eq0.false) in
    let none = ap (λ (x : List ℕ). place_of x (paths_of set.files)) (sym (c.deref-2.ensures ∙ c.in_ok-target.ensures)) ∙ sym c.position_of.ensures.place ∙ c.in-None-2.is in
    let room : ltb (length set.files + length set.way) most_files ≡ true = not_false _ (sym c.is_full.ensures ∙ c.if-is_full.false) in
    same_told (g.F.Files.told c.args.files.now) (λ contents read. read_file contents read (c.args.depth - 1) (string_bytes c.in_ok-target.target) (met_of set))
    (λ contents read. read_line (deeper contents read c.args.depth) path c.args.qualifiers.now line (met_of set)) (met_of c.load_file.new.set) c.load_file.result
    (λ contents read.
    sym (line_goes (deeper contents read c.args.depth) path c.args.qualifiers.now line (met_of set) good apart
    ∙ ap (λ b. at_depth b path line.place (target_of path line) (met_of set)) (deeper_below contents read c.args.depth deep)
    ∙ target_new (read_file contents read (c.args.depth - 1)) path line.place (target_of path line) (met_of set) none room
    ∙ ap (λ (x : List ℕ). read_file contents read (c.args.depth - 1) x (met_of set)) (sym c.in_ok-target.ensures)))
    c.load_file.ensures.answer

pub load_lines-returns-in_err-target-clause-answer : goal.load_lines-returns-in_err-target-clause-answer
load_lines-returns-in_err-target-clause-answer g t c =
    let p = err_from_is_err_and c.from_residual.result c.from_residual.ensures.1 in
    let l = c.loop-line in
    let told = g.F.Files.told c.args.files.now in
    let reads = line_as told (g.F.Files.told l.files) c.args.depth c.args.path.now l.qualifiers c.line-item.result l.set c.load_line.new.set (Err c.in_err-target.field-0.0) l.invariant.1 c.in_err-target.ensures.answer in
    rw (p.1, p.2) (so_far_stop told c.args.path.now c.args.lines.now c.args.depth c.args.set.now l.line-index l.set l.qualifiers l.targets l.invariant.0 c.line-item.result c.loop-line-test.true c.line-item.is
    c.load_line.new.set c.in_err-target.field-0.0 reads)

pub load_lines-loop-line-preserved : goal.load_lines-loop-line-preserved
load_lines-loop-line-preserved g t c =
    let l = c.loop-line in
    let told = g.F.Files.told c.args.files.now in
    let made = c.in_ok-target.ensures in
    let reads = line_as told (g.F.Files.told l.files) c.args.depth c.args.path.now l.qualifiers c.line-item.result l.set c.load_line.new.set (Ok c.in_ok-target.target) l.invariant.1 made.answer in (
      so_far_step told c.args.path.now c.args.lines.now c.args.depth c.args.set.now l.line-index l.set l.qualifiers l.targets l.invariant.0 c.line-item.result c.loop-line-test.true c.line-item.is
          c.load_line.new.set c.in_ok-target.target c.load_line.new.qualifiers c.push.new.self reads made.sound made.qualifier made.qualifiers made.grown.0 made.grown.1 made.way c.in_ok-push.ensures.ok,
      made.same ∙ l.invariant.1,
      made.counted.stays ∙ l.invariant.2,
    )

pub load_lines-returns-clause-answer : goal.load_lines-returns-clause-answer
load_lines-returns-clause-answer g t c =
    let l = c.loop-line in
    so_far_end (g.F.Files.told c.args.files.now) c.args.path.now c.args.lines.now c.args.depth c.args.set.now l.line-index l.set l.qualifiers l.targets l.invariant.0 c.loop-line-test.false
