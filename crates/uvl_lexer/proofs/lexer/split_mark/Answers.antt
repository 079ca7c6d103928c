-- A byte order mark has three bytes.
use Rattle.std.proofs.Common.{◌≡◌, ℕ, length, ap, ◌∙◌, arith, length-append}
use Rattle.std.specs.Prelude.{encode_utf8}
use Rattle.std.proofs.lemmas.Str.{length-encode}
use Rattle.uvl_lexer.specs.declared.position.Position.{Position}
use Rattle.uvl_lexer.specs.Positions.{behind_mark}
use Rattle.uvl_lexer.proofs.lexer.split_mark.Goals as goal

pub returns-then-parts-eq65279-clause-bytes : goal.returns-then-parts-eq65279-clause-bytes
returns-then-parts-eq65279-clause-bytes c =
    let mark = c.in-Some.parts.0 in
    let rest = c.in-Some.parts.1.now in
    let size : length (encode_utf8 mark) ≡ 3 = ap (λ (x : ℕ). length (encode_utf8 x)) c.if-parts-eq65279.true ∙ length-encode 65279 in
    let byte : c.behind_mark.result.byte ≡ 3 = ap (λ (p : Position). p.byte) (c.behind_mark.ensures.position ∙ ap behind_mark c.start-start.ensures.front) in
    omega (arith, size, byte, ap length c.in-Some.ensures.1, length-append (encode_utf8 mark) rest)
