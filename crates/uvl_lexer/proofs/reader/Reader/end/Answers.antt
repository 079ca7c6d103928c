-- The end of the text, or what can't be read.
use Rattle.std.proofs.Common.{◌≡◌, ℕ, List, [], ◌∷◌, ◌++◌, length, sym, ap, ◌∙◌, subst, Err}
use Rattle.std.specs.Prelude.{chars}
use Rattle.std.proofs.lemmas.Bool.{eqb-true}
use Rattle.std.proofs.lemmas.List.{nil_from_length}
use Rattle.uvl_base.specs.declared.place.Place.{Place}
use Rattle.uvl_base.specs.declared.fault.FaultKind.{FaultKind}
use Rattle.uvl_base.specs.declared.fault.FaultKind.TheVariants.{Unclosed}
use Rattle.uvl_lexer.specs.declared.fault.LexFault.{LexFault}
use Rattle.uvl_lexer.specs.declared.fault.LexFault.TheVariants.{At}
use Rattle.uvl_lexer.specs.declared.position.Position.{Position}
use Rattle.uvl_lexer.specs.declared.reader.Reader.{Reader}
use Rattle.uvl_lexer.specs.declared.token.Token.{Token}
use Rattle.uvl_lexer.specs.declared.token.TokenKind.TheVariants as token
use Rattle.uvl_lexer.specs.Cut.{Whole, Unread, cut}
use Rattle.uvl_lexer.specs.Layout.{Lexed, dedents, unspelled_at}
use Rattle.uvl_lexer.specs.steps.Turns.{newline_at}
use Rattle.uvl_lexer.specs.Pieces.{piece_at}
use Rattle.uvl_lexer.specs.Positions.{place_of}
use Rattle.uvl_lexer.specs.Reading.{OnFault}
use Rattle.uvl_lexer.specs.steps.Reading.{read_on}
use Rattle.uvl_lexer.proofs.Cutting.{cut_unread, cut_end}
use Rattle.uvl_lexer.proofs.Laying.{end_read, open_at_end, unread_read}
use Rattle.uvl_lexer.proofs.reader.Reader.end.Goals as goal

-- a fault that is known
told : (f : LexFault) (place : Place) (why : FaultKind) (l : Lexed) → f ≡ At place why → l ≡ Err (place, why) → OnFault f (λ q k. l ≡ Err (q, k))
told f place why l is h = subst (λ (g : LexFault). OnFault g (λ q k. l ≡ Err (q, k))) (sym is) h

pub returns-in-Some-clause-refused : goal.returns-in-Some-clause-refused
returns-in-Some-clause-refused c =
    let self = c.args.self.now in
    let rest = chars c.args.rest.now in
    let first = c.in-Some.parts.0 in
    let others = chars c.in-Some.parts.1.now in
    let is : rest ≡ first ∷ others = c.in-Some.ensures.0 in
    let unread : cut rest ≡ Unread (first ∷ others) = ap cut is ∙ cut_unread first others (sym (ap piece_at is) ∙ c.requires) in
    told c.fault.result (place_of self.position) c.fault_at.result (read_on self (cut rest)) c.fault.ensures
    (unread_read self.tokens.items self.begun self.indentations self.brackets self.position (cut rest) (first ∷ others) unread
    ∙ ap (λ (k : FaultKind). Err (place_of self.position, k)) (sym c.fault_at.ensures))

pub returns-then-not-is_empty-clause-refused : goal.returns-then-not-is_empty-clause-refused
returns-then-not-is_empty-clause-refused c =
    let self = c.args.self.now in
    let rest = chars c.args.rest.now in
    let whole : cut rest ≡ Whole = ap cut c.in_default.ensures ∙ cut_end in
    told c.fault-then-not-is_empty.result (place_of self.position) Unclosed (read_on self (cut rest)) c.fault-then-not-is_empty.ensures
    (open_at_end self.tokens.items self.begun self.indentations self.brackets self.position (cut rest) (sym c.is_empty.ensures ∙ c.if-not-is_empty.true) whole)

pub returns-clause-read : goal.returns-clause-read
returns-clause-read c =
    let self = c.args.self.now in
    let rest = chars c.args.rest.now in
    let line = c.end_line.new.self in
    let closed = c.close_indentations.new.self in
    let last = c.put_unspelled.new.self in
    let whole : cut rest ≡ Whole = ap cut c.in_default.ensures ∙ cut_end in
    let none_open : self.brackets ≡ [] = nil_from_length self.brackets (eqb-true (length self.brackets) 0 (sym c.is_empty.ensures ∙ c.if-not-is_empty.false)) in
    let line_others = c.end_line.ensures.others in
    let closed_others = c.close_indentations.ensures.others in
    let line_position : line.position ≡ self.position = ap (λ (r : Reader). r.position) line_others in
    let line_indentations : line.indentations ≡ self.indentations = ap (λ (r : Reader). r.indentations) line_others in
    let position : closed.position ≡ self.position = ap (λ (r : Reader). r.position) closed_others ∙ line_position in
    let n = newline_at self.begun self.position in
    let new : last.tokens.items ≡ ((self.tokens.items ++ n) ++ dedents 0 self.indentations self.position) ++ unspelled_at token.Finish self.position ∷ [] =
    c.in_ok-put_unspelled.ensures.tokens
    ∙ ap (λ (p : Position). closed.tokens.items ++ unspelled_at token.Finish p ∷ []) position
    ∙ ap (λ (ts : List Token). ts ++ unspelled_at token.Finish self.position ∷ [])
    (c.in_ok-close_indentations.ensures.tokens
    ∙ ap (λ (ls : List ℕ). line.tokens.items ++ dedents 0 ls line.position) line_indentations
    ∙ ap (λ (p : Position). line.tokens.items ++ dedents 0 self.indentations p) line_position
    ∙ ap (λ (ts : List Token). ts ++ dedents 0 self.indentations self.position) c.in_ok-end_line.ensures.tokens) in
    end_read self.tokens.items last.tokens.items self.begun self.indentations self.brackets self.position (cut rest) none_open whole new
