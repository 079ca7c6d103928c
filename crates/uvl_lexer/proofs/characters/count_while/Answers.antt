-- Where the count of bytes stops at ASCII, it is the count of characters.
use Rattle.std.proofs.Common.{◌≡◌, ◌<◌, ℕ, List, length, get_or, ap, ◌∙◌, subst, arith}
use Rattle.std.specs.Prelude.{chars}
use Rattle.std.specs.List.{prefix_len}
use Rattle.std.proofs.lemmas.List.Sums.{prefix_len-le-length}
use Rattle.uvl_lexer.specs.Characters.{is_of_class}
use Rattle.uvl_lexer.specs.steps.Bytes.{is_byte_of_class}
use Rattle.uvl_lexer.proofs.AsciiFronts.{ascii_count}
use Rattle.uvl_lexer.proofs.characters.count_while.Goals as goal

pub returns-then-is_ascii_at-clause-count : goal.returns-then-is_ascii_at-clause-count
returns-then-is_ascii_at-clause-count c =
    let n = c.count_bytes_while-count.result in
    let text = c.args.text.now in
    let bytes : c.as_bytes-bytes.result.now ≡ text = c.as_bytes-bytes.ensures.value in
    ascii_count (is_of_class c.args.class) text n c.utf8.text
    (c.count_bytes_while-count.ensures ∙ ap (prefix_len (is_byte_of_class c.args.class)) bytes)
    (subst (λ (t : List ℕ). n < length t → get_or t n 0 < 128) bytes c.if-is_ascii_at.ensures)

pub returns-then-is_ascii_at-clause-within : goal.returns-then-is_ascii_at-clause-within
returns-then-is_ascii_at-clause-within c =
    omega (arith, returns-then-is_ascii_at-clause-count c, prefix_len-le-length (is_of_class c.args.class) (chars c.args.text.now))
