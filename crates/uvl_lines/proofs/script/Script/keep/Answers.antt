-- As many bytes are taken as there is room for.
use Rattle.std.proofs.Common.{◌≡◌, ◌-◌, ◌++◌, ℕ, List, length, take, min, vec_len, sym, ap, ◌∙◌, arith}
use Rattle.std.proofs.lemmas.Bool.Decides.{nat_tests}
use Rattle.uvl_lines.specs.steps.Kept.{most_kept_bytes, kept}
use Rattle.uvl_lines.proofs.Kept.{kept-append, kept-room}
use Rattle.uvl_lines.proofs.script.Script.keep.Goals as goal

pub returns : goal.returns
returns c = λ begun is.
    let line = c.args.self.now.line in
    let bytes = c.args.bytes.now in
    let size : length line.items ≡ vec_len line = let counted = line.ok.0 in grind (arith, nat_tests) in
    let short = c.args.self.now.short in
    let room : c.min.result ≡ min (most_kept_bytes - length line.items) (length bytes)
    = c.min.ensures ∙ ap (λ (n : ℕ). min (most_kept_bytes - n) (length bytes)) (c.len-room.ensures ∙ sym size) in
    kept-room line.items bytes _ (omega arith) (c.in_ok-extend_from_slice.ensures.items ∙ ap (λ (n : ℕ). line.items ++ take n bytes) room)
    ∙ ap (λ (front : List ℕ). kept (front ++ bytes)) is ∙ kept-append begun bytes
