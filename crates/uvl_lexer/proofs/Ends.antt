-- A text has tokens only where it is cut to its end.
use Rattle.std.proofs.Common.{◌≡◌, ℕ, ◌==◌, Bool, true, false, cond, ◌&&◌, List, [], ◌∷◌, length, Option, Some, None, Ok, Err, refl, sym, ap, ◌∙◌, subst}
use Rattle.std.specs.Prelude.{encode_utf8_all}
use Rattle.uvl_base.specs.declared.place.Place.{Place}
use Rattle.uvl_base.specs.declared.fault.FaultKind.{FaultKind}
use Rattle.uvl_lexer.specs.declared.token.Token.{Token}
use Rattle.uvl_lexer.specs.declared.token.TokenKind.{TokenKind}
use Rattle.uvl_lexer.specs.declared.position.Position.{Position}
use Rattle.uvl_lexer.specs.declared.brackets.Bracket.{Bracket}
use Rattle.uvl_lexer.specs.declared.piece.PieceKind.{PieceKind}
use Rattle.uvl_lexer.specs.declared.piece.PieceKind.TheVariants as piece
use Rattle.uvl_lexer.specs.Cut.{Cut, Whole, Unread, Begins, comment_onto, piece_onto}
use Rattle.uvl_lexer.specs.Forms.{NoneBegins}
use Rattle.uvl_lexer.specs.Layout.{Lexed, Units, Finished, Stopped, Refused, Ended, Spelled, Tokens, Stops, lexed, laid_out, lines_from, units_of, unit_onto, token_onto, break_onto, tokens_onto, refusal_of, token_of, brackets_behind, after_mark, front_of}
use Rattle.uvl_lexer.specs.PieceByPiece.{SpelledPiece, IsCut, read_as, laid_by, TokensAreOfACut, StopsAreOfACut}
use Rattle.uvl_lexer.specs.Positions.{behind}
use Rattle.uvl_lexer.specs.steps.Turns.{read_units, may_begin}
use Rattle.uvl_lexer.proofs.Laying.{by_lines}
use Rattle.uvl_lexer.proofs.OneCut.{cut_of, read_by, none_at_end}

-- units that go on to the end of the text
abbrev Finishes : Units → Type 0
Finishes (Finished p) = Unit {0}
Finishes (Stopped p kind) = ⊥
Finishes (Refused p kind) = ⊥
Finishes (Ended p rest) = Finishes rest
Finishes (Spelled p kind after rest) = Finishes rest

-- a cut that goes on to the end of the text
abbrev GoesToEnd : Cut → Type 0
GoesToEnd Whole = Unit {0}
GoesToEnd (Unread cs) = ⊥
GoesToEnd (Begins kind cs rest) = GoesToEnd rest

-- what is read is a list of tokens
abbrev IsRead : Lexed → Type 0
IsRead (Ok tokens) = Unit {0}
IsRead (Err fault) = ⊥

behind_tokens : (front : List Token) (l : Lexed) → IsRead (tokens_onto front l) → IsRead l
behind_tokens front (Ok tokens) h = tt
behind_tokens front (Err fault) h = h

of_test : (b : Bool) (l : Lexed) (fault : Place × FaultKind) → IsRead (cond b l (Err fault)) → IsRead l
of_test true l fault h = h
of_test false l fault h = absurd h

refused_either : (b : Bool) (f g : Place × FaultKind) → IsRead (cond b (Err f) (Err g)) → ⊥
refused_either true f g h = h
refused_either false f g h = h

finishes : (begun : Bool) (indentations : List ℕ) (units : Units) → IsRead (read_units begun indentations units) → Finishes units
finishes begun indentations (Finished p) h = tt
finishes begun indentations (Stopped p kind) h = h
finishes begun indentations (Refused p kind) h = refused_either (may_begin begun indentations p) _ _ h
finishes begun indentations (Ended p rest) h = finishes false indentations rest (behind_tokens _ _ h)
finishes begun indentations (Spelled p kind after rest) h = finishes true _ rest (behind_tokens _ _ (of_test (may_begin begun indentations p) _ _ h))

behind_break : (brackets : List Bracket) (p : Position) (rest : Units) → Finishes (break_onto brackets p rest) → Finishes rest
behind_break [] p rest h = h
behind_break (b ∷ bs) p rest h = h

behind_token : (refusal : Option FaultKind) (p : Position) (token : TokenKind) (after : Position) (rest : Units) → Finishes (token_onto refusal p token after rest) → Finishes rest
behind_token None p token after rest h = h
behind_token (Some kind) p token after rest h = absurd h

behind_unit : (kind : PieceKind) (cs : List ℕ) (brackets : List Bracket) (p after : Position) (rest : Units) → Finishes (unit_onto kind cs brackets p after rest) → Finishes rest
behind_unit piece.Space cs brackets p after rest h = h
behind_unit piece.Tab cs brackets p after rest h = h
behind_unit piece.Comment cs brackets p after rest h = h
behind_unit piece.Break cs brackets p after rest h = behind_break brackets p rest h
behind_unit (piece.Lexeme l) cs brackets p after rest h = behind_token (refusal_of l cs brackets) p (token_of l cs) after rest h

goes_to_end : (p : Position) (brackets : List Bracket) (c : Cut) → Finishes (units_of p brackets c) → GoesToEnd c
goes_to_end p brackets Whole h = tt
goes_to_end p brackets (Unread cs) h = h
goes_to_end p brackets (Begins kind cs rest) h =
    goes_to_end (behind kind p (length cs) (length (encode_utf8_all cs))) (brackets_behind kind brackets) rest (behind_unit kind cs brackets p _ _ h)

behind_comment : (cs : List ℕ) (rest : Cut) → GoesToEnd (comment_onto cs rest) → GoesToEnd rest
behind_comment [] rest h = h
behind_comment (c ∷ []) rest h = one (c == 10) h
  where
    one : (b : Bool) → GoesToEnd (cond b (Begins piece.Break (c ∷ []) rest) (Begins piece.Space (c ∷ []) rest)) → GoesToEnd rest
    one true h = h
    one false h = h
behind_comment (c ∷ d ∷ cs) rest h = one (c == 10) (c == 13 && d == 10) (behind_comment (d ∷ cs) rest) (behind_comment cs rest) h
  where
    one : (a b : Bool) → (GoesToEnd (comment_onto (d ∷ cs) rest) → GoesToEnd rest) → (GoesToEnd (comment_onto cs rest) → GoesToEnd rest)
        → GoesToEnd (cond a (Begins piece.Break (c ∷ []) (comment_onto (d ∷ cs) rest)) (cond b (Begins piece.Break (c ∷ d ∷ []) (comment_onto cs rest)) (Begins piece.Space (c ∷ []) (comment_onto (d ∷ cs) rest)))) → GoesToEnd rest
    one true b later past h = later h
    one false true later past h = past h
    one false false later past h = later h

behind_piece : (kind : PieceKind) (cs : List ℕ) (rest : Cut) → GoesToEnd (piece_onto kind cs rest) → GoesToEnd rest
behind_piece piece.Comment cs rest h = behind_comment cs rest h
behind_piece piece.Space cs rest h = h
behind_piece piece.Tab cs rest h = h
behind_piece piece.Break cs rest h = h
behind_piece (piece.Lexeme l) cs rest h = h

nothing_left : (pieces : List SpelledPiece) (left : List ℕ) → GoesToEnd (read_as pieces left) → left ≡ []
nothing_left [] [] h = refl
nothing_left [] (c ∷ cs) h = absurd h
nothing_left (p ∷ ps) left h = nothing_left ps left (behind_piece p.0 p.1 (read_as ps left) h)

-- where pieces are read as tokens, nothing is left behind them
whole : (text : List ℕ) (pieces : List SpelledPiece) (left : List ℕ) (tokens : List Token) → laid_by text pieces left ≡ Ok tokens → left ≡ []
whole text pieces left tokens h =
    let units = units_of (front_of text) [] (read_as pieces left) in
    let read : IsRead (read_units false [] units) = subst (λ (l : Lexed). IsRead l) (sym h ∙ by_lines [] units) tt in
    nothing_left pieces left (goes_to_end (front_of text) [] (read_as pieces left) (finishes false [] units read))

-- what a text is read as, by a cut of it that goes as far as pieces go
by_cut : (text : List ℕ) (pieces : List SpelledPiece) (left : List ℕ) → IsCut pieces left (after_mark text) → NoneBegins left → lexed text ≡ laid_by text pieces left
by_cut text pieces left is ends = ap (λ (c : Cut). laid_out [] (lines_from None (units_of (front_of text) [] c))) (read_by (after_mark text) pieces left is ends)

pub tokens_of_a_cut : TokensAreOfACut
tokens_of_a_cut text tokens = (there, back)
  where
    there : Tokens text tokens → (pieces : List SpelledPiece) × IsCut pieces [] (after_mark text) × (laid_by text pieces [] ≡ Ok tokens)
    there has =
        let is = cut_of (after_mark text) in
        let laid : laid_by text is.pieces is.left ≡ Ok tokens = sym (by_cut text is.pieces is.left is.is_cut is.ends) ∙ has in
        let end : is.left ≡ [] = whole text is.pieces is.left tokens laid in
        (is.pieces, subst (λ (l : List ℕ). IsCut is.pieces l (after_mark text)) end is.is_cut, subst (λ (l : List ℕ). laid_by text is.pieces l ≡ Ok tokens) end laid)

    back : ((pieces : List SpelledPiece) × IsCut pieces [] (after_mark text) × (laid_by text pieces [] ≡ Ok tokens)) → Tokens text tokens
    back (pieces, is, laid) = by_cut text pieces [] is none_at_end ∙ laid

pub stops_of_a_cut : StopsAreOfACut
stops_of_a_cut text place kind = (there, back)
  where
    there : Stops text place kind → (pieces : List SpelledPiece) × (left : List ℕ) × IsCut pieces left (after_mark text) × NoneBegins left × (laid_by text pieces left ≡ Err (place, kind))
    there stop =
        let is = cut_of (after_mark text) in
        (is.pieces, is.left, is.is_cut, is.ends, sym (by_cut text is.pieces is.left is.is_cut is.ends) ∙ stop)

    back : ((pieces : List SpelledPiece) × (left : List ℕ) × IsCut pieces left (after_mark text) × NoneBegins left × (laid_by text pieces left ≡ Err (place, kind))) → Stops text place kind
    back (pieces, left, is, ends, laid) = by_cut text pieces left is ends ∙ laid
