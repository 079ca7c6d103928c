-- Where the bytes in front are ASCII, they are as many characters.
use Rattle.std.proofs.Common.{◌≡◌, ◌≤◌, ℕ, List, length, take, ap, ◌∙◌, subst}
use Rattle.std.specs.Prelude.{chars, IsUtf8}
use Rattle.std.specs.Str.{IsAscii}
use Rattle.uvl_lexer.proofs.AsciiFronts.{AsciiFront, ascii_front}
use Rattle.uvl_lexer.proofs.characters.split_at_count.Goals as goal

front : (text bytes : List ℕ) (n : ℕ) → bytes ≡ text → IsUtf8 text → (n ≤ length bytes) × IsAscii (take n bytes) → AsciiFront text n
front text bytes n same utf8 h =
    let here = subst (λ (t : List ℕ). (n ≤ length t) × IsAscii (take n t)) same h in
    ascii_front text n utf8 here.0 here.1

pub split_at-requires : goal.split_at-requires
split_at-requires c = (front c.args.text.now c.as_bytes.result.now c.args.count c.as_bytes.ensures.value c.utf8.text c.if-begins_ascii.ensures).boundary

pub returns-then-begins_ascii-clause-front : goal.returns-then-begins_ascii-clause-front
returns-then-begins_ascii-clause-front c =
    ap chars c.split_at.ensures.front ∙ (front c.args.text.now c.as_bytes.result.now c.args.count c.as_bytes.ensures.value c.utf8.text c.if-begins_ascii.ensures).front

pub returns-then-begins_ascii-clause-rest : goal.returns-then-begins_ascii-clause-rest
returns-then-begins_ascii-clause-rest c =
    ap chars c.split_at.ensures.back ∙ (front c.args.text.now c.as_bytes.result.now c.args.count c.as_bytes.ensures.value c.utf8.text c.if-begins_ascii.ensures).rest
