-- The tokens of a text are a list that ends with the end of the text.
use Rattle.std.proofs.Common.{◌≡◌, ℕ, zero, suc, ◌*◌, ◌==◌, ◌&&◌, Bool, true, false, not, cond, List, [], ◌∷◌, ◌++◌, replicate, Option, Some, None, Ok, Err, refl, sym, ap, ◌∙◌, subst, append_assoc, arith}
use Rattle.std.specs.Prelude.{⊤, length, encode_utf8_all}
use Rattle.std.specs.List.{list_all, list_any}
use Rattle.std.specs.Str.Parse.{digits_value}
use Rattle.std.proofs.lemmas.Bool.{cond-false}
use Rattle.uvl_base.specs.declared.fault.FaultKind.{FaultKind}
use Rattle.uvl_base.specs.Number.{is_negative, is_point, whole_digits, decimals, millionths_of, millionths_of_digits}
use Rattle.uvl_lexer.specs.declared.token.Token.{Token}
use Rattle.uvl_lexer.specs.declared.token.TokenKind.{TokenKind}
use Rattle.uvl_lexer.specs.declared.token.TokenKind.TheVariants as token
use Rattle.uvl_base.specs.declared.word.Word.{Word}
use Rattle.uvl_lexer.specs.declared.brackets.Bracket.{Bracket}
use Rattle.uvl_lexer.specs.declared.position.Position.{Position}
use Rattle.uvl_lexer.specs.declared.piece.Lexeme.{Lexeme}
use Rattle.uvl_lexer.specs.declared.piece.Lexeme.TheVariants as spells
use Rattle.uvl_lexer.specs.declared.piece.PieceKind.{PieceKind}
use Rattle.uvl_lexer.specs.declared.piece.PieceKind.TheVariants as piece
use Rattle.uvl_lexer.specs.Characters.{may_stand_in_text}
use Rattle.uvl_lexer.specs.Cut.{Cut, Whole, Unread, Begins, cut, comment_onto, piece_onto}
use Rattle.uvl_lexer.specs.Forms.{HasForm, HasTokenForm, IsText, IsNumber}
use Rattle.uvl_lexer.specs.Layout.{Lexed, Units, Finished, Stopped, Refused, Ended, Spelled, inner, word_or_name, token_of, token_onto, break_onto, unit_onto, end_of, units_of, brackets_behind, tokens_onto, unspelled_at, token_at, dedents, front_of, after_mark}
use Rattle.uvl_lexer.specs.Indentations.{is_deeper, closed_by}
use Rattle.uvl_lexer.specs.PieceByPiece.{SpelledPiece, IsCut, read_as}
use Rattle.uvl_lexer.specs.Positions.{behind}
use Rattle.uvl_lexer.specs.TokenList.{IsUnsigned, IsInner, AreInner, IsTokenList, TokensAreAList}
use Rattle.uvl_lexer.specs.steps.Turns.{read_units, read_through, layout_before, newline_at, indentations_after, may_begin}
use Rattle.uvl_lexer.proofs.Laying.{lexed-reads}
use Rattle.uvl_lexer.proofs.Names.{identifier-is_name, quoted-is_name, inner_is}
use Rattle.uvl_lexer.proofs.Numbers.{number-unsigned, number-no_decimals}
use Rattle.uvl_lexer.proofs.OneCut.{cut_once}

-- ---- lists of tokens

inner_append : (xs ys : List Token) → AreInner xs → AreInner ys → AreInner (xs ++ ys)
inner_append [] ys hx hy = hy
inner_append (x ∷ xs) ys hx hy = (hx.0, inner_append xs ys hx.1 hy)

inner_replicate : (n : ℕ) (t : Token) → IsInner t.kind → AreInner (replicate n t)
inner_replicate zero t h = tt
inner_replicate (suc n) t h = (h, inner_replicate n t h)

list_onto : (xs ts : List Token) → AreInner xs → IsTokenList ts → IsTokenList (xs ++ ts)
list_onto xs ts hx is = record {
  front = xs ++ is.front;
  end = is.end;
  joined = ap (λ (us : List Token). xs ++ us) is.joined ∙ sym (append_assoc xs is.front (is.end ∷ []));
  finish = is.finish;
  inner = inner_append xs is.front hx is.inner;
}

-- what is read, where it is a list of tokens, is such a list
abbrev IsList : Lexed → Type 0
IsList (Ok tokens) = IsTokenList tokens
IsList (Err fault) = ⊤

tokens_list : (xs : List Token) (l : Lexed) → AreInner xs → IsList l → IsList (tokens_onto xs l)
tokens_list xs (Ok tokens) hx is = list_onto xs tokens hx is
tokens_list xs (Err fault) hx is = tt

one_of_lists : (b : Bool) (l m : Lexed) → IsList l → IsList m → IsList (cond b l m)
one_of_lists true l m hl hm = hl
one_of_lists false l m hl hm = hm

-- ---- units

-- the tokens among units can be spelled
abbrev AreSound : Units → Type 0
AreSound (Finished p) = ⊤
AreSound (Stopped p kind) = ⊤
AreSound (Refused p kind) = ⊤
AreSound (Ended p rest) = AreSound rest
AreSound (Spelled p kind after rest) = IsInner kind × AreSound rest

newline_inner : (begun : Bool) (p : Position) → AreInner (newline_at begun p)
newline_inner true p = (tt, tt)
newline_inner false p = tt

one_of_inner : (b : Bool) (xs ys : List Token) → AreInner xs → AreInner ys → AreInner (cond b xs ys)
one_of_inner true xs ys hx hy = hx
one_of_inner false xs ys hx hy = hy

dedents_inner : (indentation : ℕ) (indentations : List ℕ) (p : Position) → AreInner (dedents indentation indentations p)
dedents_inner indentation indentations p = inner_replicate (closed_by indentation indentations) (unspelled_at token.Dedent p) tt

marks_inner : (begun : Bool) (indentations : List ℕ) (p : Position) → AreInner (layout_before begun indentations p)
marks_inner true indentations p = tt
marks_inner false indentations p =
    one_of_inner (is_deeper p.reach indentations) (unspelled_at token.Indent p ∷ []) (dedents p.reach indentations p) (tt, tt) (dedents_inner p.reach indentations p)

finish_list : (p : Position) → IsTokenList (unspelled_at token.Finish p ∷ [])
finish_list p = record { front = []; end = unspelled_at token.Finish p; joined = refl; finish = refl; inner = tt }

read_list : (begun : Bool) (indentations : List ℕ) (units : Units) → AreSound units → IsList (read_units begun indentations units)
read_list begun indentations (Finished p) h =
    list_onto (newline_at begun p ++ dedents 0 indentations p) (unspelled_at token.Finish p ∷ [])
    (inner_append (newline_at begun p) (dedents 0 indentations p) (newline_inner begun p) (dedents_inner 0 indentations p)) (finish_list p)
read_list begun indentations (Stopped p kind) h = tt
read_list begun indentations (Refused p kind) h = one_of_lists (may_begin begun indentations p) _ _ tt tt
read_list begun indentations (Ended p rest) h =
    tokens_list (newline_at begun p) (read_units false indentations rest) (newline_inner begun p) (read_list false indentations rest h)
read_list begun indentations (Spelled p kind after rest) h =
    one_of_lists (may_begin begun indentations p) _ _
    (tokens_list (layout_before begun indentations p ++ token_at kind p after ∷ []) (read_units true (indentations_after begun indentations p) rest)
    (inner_append (layout_before begun indentations p) (token_at kind p after ∷ []) (marks_inner begun indentations p) (h.0, tt))
    (read_list true (indentations_after begun indentations p) rest h.1))
    tt

-- ---- what the spellings of tokens say

no_more : (whole behind : List ℕ) → behind ≡ [] → (ones : ℕ) × (millionths_of_digits whole behind ≡ ones * 1000000)
no_more whole behind none =
    let same : millionths_of_digits whole [] ≡ digits_value 10 whole * 1000000 = omega arith in
    subst (λ (ds : List ℕ). (ones : ℕ) × (millionths_of_digits whole ds ≡ ones * 1000000)) (sym none) (digits_value 10 whole, same)

number_inner : (cs : List ℕ) → IsNumber cs → IsUnsigned (millionths_of (encode_utf8_all cs)) (not (list_any is_point (encode_utf8_all cs)))
number_inner cs is =
    let bytes = encode_utf8_all cs in
    record {
      millionths = millionths_of_digits (whole_digits bytes) (decimals bytes);
      unsigned = cond-false (is_negative bytes) _ _ (number-unsigned cs is);
      in_ones = λ whole. no_more (whole_digits bytes) (decimals bytes) (number-no_decimals cs is whole);
    }

text_inner : (cs : List ℕ) → IsText cs → list_all may_stand_in_text (inner cs) ≡ true
text_inner cs (text, is, fits) = ap (list_all may_stand_in_text) (ap inner is ∙ inner_is 39 text) ∙ fits

word_inner : (w : Option Word) (cs : List ℕ) → IsInner (token.Name cs false) → IsInner (word_or_name w cs)
word_inner (Some w) cs h = tt
word_inner None cs h = h

token_inner : (l : Lexeme) (cs : List ℕ) → HasTokenForm l cs → IsInner (token_of l cs)
token_inner spells.Identifier cs form = word_inner _ cs (identifier-is_name cs form)
token_inner spells.Quoted cs form = quoted-is_name cs form
token_inner spells.Number cs form = number_inner cs form
token_inner spells.Text cs form = text_inner cs form
token_inner (spells.Symbol s) cs form = tt

-- ---- cuts

-- a piece that spells a token has the token's form
abbrev IsFormed : PieceKind → List ℕ → Type 0
IsFormed (piece.Lexeme l) cs = HasTokenForm l cs
IsFormed _ cs = ⊤

-- so do all pieces of a cut
abbrev AreFormed : Cut → Type 0
AreFormed Whole = ⊤
AreFormed (Unread cs) = ⊤
AreFormed (Begins kind cs rest) = IsFormed kind cs × AreFormed rest

one_of_cuts : (b : Bool) (x y : Cut) → AreFormed x → AreFormed y → AreFormed (cond b x y)
one_of_cuts true x y hx hy = hx
one_of_cuts false x y hx hy = hy

comment_formed : (cs : List ℕ) (rest : Cut) → AreFormed rest → AreFormed (comment_onto cs rest)
comment_formed [] rest h = h
comment_formed (c ∷ []) rest h =
    one_of_cuts (c == 10) (Begins piece.Break (c ∷ []) rest) (Begins piece.Space (c ∷ []) rest) (tt, h) (tt, h)
comment_formed (c ∷ d ∷ cs) rest h =
    let more = comment_onto (d ∷ cs) rest in
    let at_lf = Begins piece.Break (c ∷ []) more in
    let at_cr = Begins piece.Break (c ∷ d ∷ []) (comment_onto cs rest) in
    let plain = Begins piece.Space (c ∷ []) more in
    let others = comment_formed (d ∷ cs) rest h in
    one_of_cuts (c == 10) at_lf (cond (c == 13 && d == 10) at_cr plain) (tt, others)
    (one_of_cuts (c == 13 && d == 10) at_cr plain (tt, comment_formed cs rest h) (tt, others))

onto_formed : (kind : PieceKind) (cs : List ℕ) (rest : Cut) → HasForm kind cs → AreFormed rest → AreFormed (piece_onto kind cs rest)
onto_formed piece.Comment cs rest form h = comment_formed cs rest h
onto_formed piece.Space cs rest form h = (tt, h)
onto_formed piece.Tab cs rest form h = (tt, h)
onto_formed piece.Break cs rest form h = (tt, h)
onto_formed (piece.Lexeme l) cs rest form h = (form, h)

pieces_formed : (ps : List SpelledPiece) (left text : List ℕ) → IsCut ps left text → AreFormed (read_as ps left)
pieces_formed [] [] text is = tt
pieces_formed [] (c ∷ cs) text is = tt
pieces_formed (p ∷ ps) left text (after, joined, longest, others) =
    onto_formed p.0 p.1 (read_as ps left) longest.begins.form (pieces_formed ps left after others)

cut_formed : (text : List ℕ) → AreFormed (cut text)
cut_formed text = let is = cut_once text in subst AreFormed (sym is.read) (pieces_formed is.pieces is.left text is.is_cut)

-- ---- the units of a cut

token_sound : (refusal : Option FaultKind) (p : Position) (kind : TokenKind) (after : Position) (rest : Units) → IsInner kind → AreSound rest
    → AreSound (token_onto refusal p kind after rest)
token_sound None p kind after rest h hr = (h, hr)
token_sound (Some why) p kind after rest h hr = tt

break_sound : (brackets : List Bracket) (p : Position) (rest : Units) → AreSound rest → AreSound (break_onto brackets p rest)
break_sound [] p rest h = h
break_sound (b ∷ bs) p rest h = h

unit_sound : (kind : PieceKind) (cs : List ℕ) (brackets : List Bracket) (p after : Position) (rest : Units) → IsFormed kind cs → AreSound rest
    → AreSound (unit_onto kind cs brackets p after rest)
unit_sound piece.Space cs brackets p after rest form h = h
unit_sound piece.Tab cs brackets p after rest form h = h
unit_sound piece.Comment cs brackets p after rest form h = h
unit_sound piece.Break cs brackets p after rest form h = break_sound brackets p rest h
unit_sound (piece.Lexeme l) cs brackets p after rest form h = token_sound _ p (token_of l cs) after rest (token_inner l cs form) h

end_sound : (brackets : List Bracket) (p : Position) → AreSound (end_of brackets p)
end_sound [] p = tt
end_sound (b ∷ bs) p = tt

units_sound : (p : Position) (brackets : List Bracket) (c : Cut) → AreFormed c → AreSound (units_of p brackets c)
units_sound p brackets Whole h = end_sound brackets p
units_sound p brackets (Unread cs) h = tt
units_sound p brackets (Begins kind cs rest) h =
    let after = behind kind p (length cs) (length (encode_utf8_all cs)) in
    unit_sound kind cs brackets p after _ h.0 (units_sound after (brackets_behind kind brackets) rest h.1)

-- ---- the tokens of a text

pub tokens_are_a_list : TokensAreAList
tokens_are_a_list text tokens is =
    let read : IsList (read_through text) = read_list false [] (units_of (front_of text) [] (cut (after_mark text))) (units_sound (front_of text) [] _ (cut_formed (after_mark text))) in
    subst IsList (sym (lexed-reads text) ∙ is) read
