-- Each turn closes one indentation.
use Rattle.std.proofs.Common.{◌≡◌, ℕ, List, [], ◌∷◌, ◌++◌, drop, ap, ◌∙◌, append_assoc, arith}
use Rattle.uvl_lexer.specs.declared.token.Token.{Token}
use Rattle.uvl_lexer.specs.declared.token.TokenKind.TheVariants as token
use Rattle.uvl_lexer.specs.declared.reader.Reader.{Reader}
use Rattle.uvl_lexer.specs.declared.position.Position.{Position}
use Rattle.uvl_lexer.specs.Layout.{unspelled_at, dedents}
use Rattle.uvl_lexer.specs.Indentations.{kept_by}
use Rattle.uvl_lexer.proofs.Laying.{ClosesOne, closes_one}
use Rattle.uvl_lexer.proofs.reader.Reader.close_indentations.Goals as goal

pub loop-self-preserved : goal.loop-self-preserved
loop-self-preserved c =
    let i = c.args.indentation in
    let was = c.loop-self.self in
    let put = c.put_unspelled.new.self in
    let others = c.put_unspelled.ensures.others in
    let so_far = c.loop-self.invariant in
    let indentations : c.close.new.self ≡ drop 1 was.indentations = c.close.ensures ∙ ap (λ (r : Reader). drop 1 r.indentations) others in
    let position : put.position ≡ was.position = ap (λ (r : Reader). r.position) others in
    let dedent = unspelled_at token.Dedent was.position in
    let one : ClosesOne i was.indentations was.position = closes_one i was.indentations was.position (omega (arith, c.loop-self-test.true, c.innermost.ensures)) in
    let make : Reader → Reader = λ r. record r { tokens = put.tokens; indentations = c.close.new.self } in (
      ap (λ (ts : List Token). ts ++ dedents i c.close.new.self put.position) c.in_ok-put_unspelled.ensures.tokens
          ∙ ap (λ (ls : List ℕ). (was.tokens.items ++ dedent ∷ []) ++ dedents i ls put.position) indentations
          ∙ ap (λ (p : Position). (was.tokens.items ++ dedent ∷ []) ++ dedents i (drop 1 was.indentations) p) position
          ∙ append_assoc was.tokens.items (dedent ∷ []) (dedents i (drop 1 was.indentations) was.position)
          ∙ ap (λ (ts : List Token). was.tokens.items ++ ts) one.dedents
          ∙ so_far.0,
      ap (kept_by i) indentations ∙ one.kept ∙ so_far.1,
      ap make others ∙ ap make so_far.2,
    )
