-- Layout tokens and the others, one piece after another.
use Rattle.std.proofs.Common.{◌≡◌, ℕ, suc, ◌<◌, ◌==◌, Bool, true, false, cond, ◌&&◌, not, List, [], ◌∷◌, ◌++◌, length, take, drop, replicate, ◌⊎◌, Option, Some, None, Ok, Err, refl, sym, ap, ◌∙◌, append_assoc, arith, inl, inr}
use Rattle.std.specs.Prelude.{nat_lt, encode_utf8_all}
use Rattle.std.proofs.lemmas.Bool.{cases_Bool, cond-true, cond-false}
use Rattle.std.proofs.lemmas.Bool.Decides.{nat_tests}
use Rattle.std.proofs.lemmas.List.{append-nil}
use Rattle.uvl_base.specs.declared.place.Place.{Place}
use Rattle.uvl_base.specs.declared.fault.FaultKind.{FaultKind}
use Rattle.uvl_base.specs.declared.fault.FaultKind.TheVariants.{BadIndent, Unclosed}
use Rattle.uvl_lexer.specs.declared.token.Token.{Token}
use Rattle.uvl_lexer.specs.declared.token.TokenKind.{TokenKind}
use Rattle.uvl_lexer.specs.declared.token.TokenKind.TheVariants as token
use Rattle.uvl_lexer.specs.declared.position.Position.{Position}
use Rattle.uvl_lexer.specs.declared.brackets.Bracket.{Bracket}
use Rattle.uvl_lexer.specs.declared.fault.LexFault.{LexFault}
use Rattle.uvl_lexer.specs.declared.fault.LexFault.TheVariants.{At, OutOfMemory}
use Rattle.uvl_lexer.specs.declared.piece.Lexeme.{Lexeme}
use Rattle.uvl_lexer.specs.declared.piece.PieceKind.{PieceKind}
use Rattle.uvl_lexer.specs.declared.piece.PieceKind.TheVariants as piece
use Rattle.uvl_lexer.specs.Cut.{Cut, cut, Whole, Unread, Begins, comment_onto}
use Rattle.uvl_lexer.specs.steps.Reading.{comment_piece}
use Rattle.uvl_lexer.specs.Pieces.{Piece}
use Rattle.uvl_lexer.specs.Reading.{OnFault}
use Rattle.uvl_lexer.specs.steps.Spellings.{IsBlank}
use Rattle.uvl_lexer.specs.Layout.{Lexed, Units, Finished, Stopped, Refused, Ended, Spelled, Begun, lines_from, laid_out, line_layout, tokens_onto, token_onto, token_at, token_of, unspelled_at, dedents, units_of, refusal_of, brackets_behind, brackets_behind_token, ends_line_at, fault_at, lexed, after_mark, front_of}
use Rattle.uvl_lexer.specs.steps.Turns.{read_units, read_through, layout_before, newline_at, indentations_after, may_begin}
use Rattle.uvl_lexer.specs.Indentations.{innermost, closed_by, kept_by, is_aligned, indentations_behind}
use Rattle.uvl_lexer.specs.Positions.{place_of, behind}

-- tokens in front of tokens
pub tokens_onto-append : (xs ys : List Token) (l : Lexed) → tokens_onto xs (tokens_onto ys l) ≡ tokens_onto (xs ++ ys) l
tokens_onto-append xs ys (Ok others) = ap Ok (sym (append_assoc xs ys others))
tokens_onto-append xs ys (Err fault) = refl

-- one indentation is closed
pub record ClosesOne (i : ℕ) (indentations : List ℕ) (p : Position) : Type 0 where
  pub dedents : unspelled_at token.Dedent p ∷ dedents i (drop 1 indentations) p ≡ dedents i indentations p
  pub kept : kept_by i (drop 1 indentations) ≡ kept_by i indentations

pub closes_one : (i : ℕ) (indentations : List ℕ) (p : Position) → i < innermost indentations → ClosesOne i indentations p
closes_one i [] p h = absurd (omega arith)
closes_one i (l ∷ ls) p h =
    let above : nat_lt i l ≡ true = grind (arith, nat_tests) in
    let one_more : closed_by i (l ∷ ls) ≡ suc (closed_by i ls) = cond-true (nat_lt i l) _ _ above ∙ omega arith in
    record {
      dedents = sym (ap (λ (n : ℕ). replicate n (unspelled_at token.Dedent p)) one_more);
      kept = sym (ap (λ (n : ℕ). drop n (l ∷ ls)) one_more);
    }

-- readers that say the same read the same
read_same : (a a' : List Token) (b b' : Bool) (l l' : List ℕ) (k k' : List Bracket) (p p' : Position) (rest : Cut) → a ≡ a' → b ≡ b' → l ≡ l' → k ≡ k' → p ≡ p'
    → tokens_onto a (read_units b l (units_of p k rest)) ≡ tokens_onto a' (read_units b' l' (units_of p' k' rest))
read_same a a' b b' l l' k k' p p' rest ea eb el ek ep =
    ap (λ (x : List Token). tokens_onto x (read_units b l (units_of p k rest))) ea
    ∙ ap (λ (x : Bool). tokens_onto a' (read_units x l (units_of p k rest))) eb
    ∙ ap (λ (x : List ℕ). tokens_onto a' (read_units b' x (units_of p k rest))) el
    ∙ ap (λ (x : List Bracket). tokens_onto a' (read_units b' l' (units_of p x rest))) ek
    ∙ ap (λ (x : Position). tokens_onto a' (read_units b' l' (units_of x k' rest))) ep

-- a token that may stand is taken, with the layout tokens in front of it
pub token_taken : (front : List Token) (begun : Bool) (indentations : List ℕ) (refusal : Option FaultKind) (p : Position) (kind : TokenKind) (after : Position) (rest : Units)
    → may_begin begun indentations p ≡ true → refusal ≡ None
    → tokens_onto front (read_units begun indentations (token_onto refusal p kind after rest))
    ≡ tokens_onto (front ++ (layout_before begun indentations p ++ token_at kind p after ∷ [])) (read_units true (indentations_after begun indentations p) rest)
token_taken front begun indentations refusal p kind after rest stands none =
    let new = layout_before begun indentations p ++ token_at kind p after ∷ [] in
    ap (λ (r : Option FaultKind). tokens_onto front (read_units begun indentations (token_onto r p kind after rest))) none
    ∙ ap (tokens_onto front) (cond-true (may_begin begun indentations p) _ _ stands)
    ∙ tokens_onto-append front new (read_units true (indentations_after begun indentations p) rest)

-- a token on a badly indented line is refused
pub line_refused : (front : List Token) (begun : Bool) (indentations : List ℕ) (refusal : Option FaultKind) (p : Position) (kind : TokenKind) (after : Position) (rest : Units)
    → may_begin begun indentations p ≡ false
    → tokens_onto front (read_units begun indentations (token_onto refusal p kind after rest)) ≡ Err (place_of p, BadIndent)
line_refused front begun indentations None p kind after rest bad = ap (tokens_onto front) (cond-false (may_begin begun indentations p) _ _ bad)
line_refused front begun indentations (Some k) p kind after rest bad = ap (tokens_onto front) (cond-false (may_begin begun indentations p) _ _ bad)

-- a token that can't stand where it does is refused
pub token_refused : (front : List Token) (begun : Bool) (indentations : List ℕ) (refusal : Option FaultKind) (why : FaultKind) (p : Position) (kind : TokenKind) (after : Position) (rest : Units)
    → may_begin begun indentations p ≡ true → refusal ≡ Some why
    → tokens_onto front (read_units begun indentations (token_onto refusal p kind after rest)) ≡ Err (place_of p, why)
token_refused front begun indentations refusal why p kind after rest stands is =
    ap (λ (r : Option FaultKind). tokens_onto front (read_units begun indentations (token_onto r p kind after rest))) is
    ∙ ap (tokens_onto front) (cond-true (may_begin begun indentations p) _ _ stands)

-- a token, from the reader before it to the reader behind it
pub token_read : (front new : List Token) (begun begun' : Bool) (indentations indentations' : List ℕ) (brackets brackets' : List Bracket) (p p' : Position) (l : Lexeme) (cs : List ℕ) (size : ℕ)
    → size ≡ length (encode_utf8_all cs) → p' ≡ behind (piece.Lexeme l) p (length cs) size
    → may_begin begun indentations p ≡ true → refusal_of l cs brackets ≡ None
    → new ≡ front ++ (layout_before begun indentations p ++ token_at (token_of l cs) p p' ∷ [])
    → indentations' ≡ indentations_after begun indentations p → brackets' ≡ brackets_behind_token l brackets → begun' ≡ true
    → (rest : Cut)
    → tokens_onto front (read_units begun indentations (units_of p brackets (Begins (piece.Lexeme l) cs rest))) ≡ tokens_onto new (read_units begun' indentations' (units_of p' brackets' rest))
token_read front new begun begun' indentations indentations' brackets brackets' p p' l cs size e_size e_p stands none e_new e_indentations e_brackets e_begun rest =
    let after = behind (piece.Lexeme l) p (length cs) (length (encode_utf8_all cs)) in
    let same : p' ≡ after = e_p ∙ ap (behind (piece.Lexeme l) p (length cs)) e_size in
    let taken : tokens_onto front (read_units begun indentations (units_of p brackets (Begins (piece.Lexeme l) cs rest)))
    ≡ tokens_onto (front ++ (layout_before begun indentations p ++ token_at (token_of l cs) p after ∷ [])) (read_units true (indentations_after begun indentations p) (units_of after (brackets_behind_token l brackets) rest)) =
    token_taken front begun indentations (refusal_of l cs brackets) p (token_of l cs) after (units_of after (brackets_behind_token l brackets) rest) stands none in
    let new_same : new ≡ front ++ (layout_before begun indentations p ++ token_at (token_of l cs) p after ∷ []) =
    e_new ∙ ap (λ (q : Position). front ++ (layout_before begun indentations p ++ token_at (token_of l cs) p q ∷ [])) same in
    taken ∙ sym (read_same new _ begun' true indentations' (indentations_after begun indentations p) brackets' (brackets_behind_token l brackets) p' after rest new_same e_begun e_indentations e_brackets same)

-- a token that is refused
pub refused_read : (front : List Token) (begun : Bool) (indentations : List ℕ) (brackets : List Bracket) (p : Position) (l : Lexeme) (cs : List ℕ) (place : Place) (why : FaultKind)
    → place ≡ place_of p
    → (((may_begin begun indentations p ≡ false) × (why ≡ BadIndent)) ⊎ ((may_begin begun indentations p ≡ true) × (refusal_of l cs brackets ≡ Some why)))
    → (rest : Cut) → tokens_onto front (read_units begun indentations (units_of p brackets (Begins (piece.Lexeme l) cs rest))) ≡ Err (place, why)
refused_read front begun indentations brackets p l cs place why at (inl bad) rest =
    line_refused front begun indentations (refusal_of l cs brackets) p (token_of l cs) _ _ bad.0 ∙ cc
refused_read front begun indentations brackets p l cs place why at (inr refused) rest =
    token_refused front begun indentations (refusal_of l cs brackets) why p (token_of l cs) _ _ refused.0 refused.1 ∙ cc

no_more : (front : List Token) → front ≡ front ++ []
no_more front = sym (append-nil front)

some_open : (b : Bracket) (bs : List Bracket) → (length (b ∷ bs) == 0) ≡ false
some_open b bs = grind (arith, nat_tests)

-- a line break inside brackets
inside : (front : List Token) (begun : Bool) (indentations : List ℕ) (b : Bracket) (bs : List Bracket) (p : Position) (cs : List ℕ) (rest : Cut) (ends : Bool) → ends ≡ false
    → tokens_onto front (read_units begun indentations (units_of p (b ∷ bs) (Begins piece.Break cs rest)))
    ≡ tokens_onto (front ++ newline_at (begun && ends) p)
    (read_units (begun && not ends) indentations (units_of (behind piece.Break p (length cs) (length (encode_utf8_all cs))) (b ∷ bs) rest))
inside front true indentations b bs p cs rest true none = cc
inside front false indentations b bs p cs rest true none = cc
inside front true indentations b bs p cs rest false none = ap (λ (ts : List Token). tokens_onto ts _) (no_more front)
inside front false indentations b bs p cs rest false none = ap (λ (ts : List Token). tokens_onto ts _) (no_more front)

-- a space, a tab or a line break
blank_taken : (front : List Token) (begun : Bool) (indentations : List ℕ) (brackets : List Bracket) (p : Position) (kind : PieceKind) (cs : List ℕ) → IsBlank kind → (rest : Cut)
    → tokens_onto front (read_units begun indentations (units_of p brackets (Begins kind cs rest)))
    ≡ tokens_onto (front ++ newline_at (begun && ends_line_at kind brackets) p)
    (read_units (begun && not (ends_line_at kind brackets)) indentations (units_of (behind kind p (length cs) (length (encode_utf8_all cs))) brackets rest))
blank_taken front true indentations brackets p piece.Space cs h rest = ap (λ (ts : List Token). tokens_onto ts _) (no_more front)
blank_taken front false indentations brackets p piece.Space cs h rest = ap (λ (ts : List Token). tokens_onto ts _) (no_more front)
blank_taken front true indentations brackets p piece.Tab cs h rest = ap (λ (ts : List Token). tokens_onto ts _) (no_more front)
blank_taken front false indentations brackets p piece.Tab cs h rest = ap (λ (ts : List Token). tokens_onto ts _) (no_more front)
blank_taken front true indentations brackets p piece.Comment cs h rest = ap (λ (ts : List Token). tokens_onto ts _) (no_more front)
blank_taken front false indentations brackets p piece.Comment cs h rest = ap (λ (ts : List Token). tokens_onto ts _) (no_more front)
blank_taken front true indentations [] p piece.Break cs h rest = tokens_onto-append front (newline_at true p) _
blank_taken front false indentations [] p piece.Break cs h rest = tokens_onto-append front (newline_at false p) _
blank_taken front begun indentations (b ∷ bs) p piece.Break cs h rest = inside front begun indentations b bs p cs rest (ends_line_at piece.Break (b ∷ bs)) (some_open b bs)
blank_taken front begun indentations brackets p (piece.Lexeme l) cs h rest = absurd h

blank_brackets : (kind : PieceKind) (brackets : List Bracket) → IsBlank kind → brackets_behind kind brackets ≡ brackets
blank_brackets piece.Space brackets h = refl
blank_brackets piece.Tab brackets h = refl
blank_brackets piece.Break brackets h = refl
blank_brackets piece.Comment brackets h = refl
blank_brackets (piece.Lexeme l) brackets h = absurd h

-- the same, from the reader before it to the reader behind it
pub blank_read : (front new : List Token) (begun begun' : Bool) (indentations indentations' : List ℕ) (brackets brackets' : List Bracket) (p p' : Position) (kind : PieceKind) (cs : List ℕ) (size : ℕ)
    → IsBlank kind → size ≡ length (encode_utf8_all cs) → p' ≡ behind kind p (length cs) size
    → new ≡ front ++ newline_at (begun && ends_line_at kind brackets) p
    → begun' ≡ (begun && not (ends_line_at kind brackets)) → indentations' ≡ indentations → brackets' ≡ brackets
    → (rest : Cut)
    → tokens_onto front (read_units begun indentations (units_of p brackets (Begins kind cs rest))) ≡ tokens_onto new (read_units begun' indentations' (units_of p' brackets' rest))
blank_read front new begun begun' indentations indentations' brackets brackets' p p' kind cs size h e_size e_p e_new e_begun e_indentations e_brackets rest =
    blank_taken front begun indentations brackets p kind cs h rest
    ∙ sym (read_same new _ begun' _ indentations' indentations brackets' brackets p' (behind kind p (length cs) (length (encode_utf8_all cs))) rest e_new e_begun e_indentations e_brackets
    (e_p ∙ ap (behind kind p (length cs)) e_size))

-- the end of a text
pub end_read : (front new : List Token) (begun : Bool) (indentations : List ℕ) (brackets : List Bracket) (p : Position) (left : Cut)
    → brackets ≡ [] → left ≡ Whole → new ≡ ((front ++ newline_at begun p) ++ dedents 0 indentations p) ++ unspelled_at token.Finish p ∷ []
    → tokens_onto front (read_units begun indentations (units_of p brackets left)) ≡ Ok new
end_read front new begun indentations brackets p left none whole e_new =
    let n = newline_at begun p in
    let d = dedents 0 indentations p in
    let f = unspelled_at token.Finish p ∷ [] in
    ap (λ (bs : List Bracket). tokens_onto front (read_units begun indentations (units_of p bs left))) none
    ∙ ap (λ (l : Cut). tokens_onto front (read_units begun indentations (units_of p [] l))) whole
    ∙ ap Ok (sym (e_new ∙ append_assoc (front ++ n) d f ∙ append_assoc front n (d ++ f) ∙ ap (λ (t : List Token). front ++ t) (sym (append_assoc n d f))))

-- a bracket is open at the end
pub open_at_end : (front : List Token) (begun : Bool) (indentations : List ℕ) (brackets : List Bracket) (p : Position) (left : Cut)
    → (length brackets == 0) ≡ false → left ≡ Whole → tokens_onto front (read_units begun indentations (units_of p brackets left)) ≡ Err (place_of p, Unclosed)
open_at_end front begun indentations [] p left some whole = cc
open_at_end front begun indentations (b ∷ bs) p left some whole = ap (λ (l : Cut). tokens_onto front (read_units begun indentations (units_of p (b ∷ bs) l))) whole

-- no piece begins
pub unread_read : (front : List Token) (begun : Bool) (indentations : List ℕ) (brackets : List Bracket) (p : Position) (left : Cut) (cs : List ℕ)
    → left ≡ Unread cs → tokens_onto front (read_units begun indentations (units_of p brackets left)) ≡ Err (place_of p, fault_at cs)
unread_read front begun indentations brackets p left cs e = ap (λ (l : Cut). tokens_onto front (read_units begun indentations (units_of p brackets l))) e

-- a comment, one piece after another
pub comment_step : (c : ℕ) (cs : List ℕ) (more : Cut)
    → comment_onto (c ∷ cs) more ≡ Begins (comment_piece c cs).0 (take (comment_piece c cs).1 (c ∷ cs)) (comment_onto (drop (comment_piece c cs).1 (c ∷ cs)) more)
comment_step c [] more =
    elim (cases_Bool (c == 10)) [
      | inl lf ↦ rw lf refl
      | inr other ↦ elim (cases_Bool (c == 13)) [
        | inl cr ↦ rw (other, cr) refl
        | inr neither ↦ rw (other, neither) refl
      ]
    ]
comment_step c (d ∷ cs) more =
    elim (cases_Bool (c == 10)) [
      | inl lf ↦ rw lf refl
      | inr other ↦ elim (cases_Bool (c == 13 && d == 10)) [
        | inl cr ↦ rw (other, cr) refl
        | inr neither ↦ rw (other, neither) refl
      ]
    ]

-- the same, where the characters have been cut already
pub comment_split : (text : List ℕ) (c : ℕ) (cs front after : List ℕ) (q : Piece) (more : Cut) → text ≡ c ∷ cs → q ≡ comment_piece c cs → front ≡ take q.1 text → after ≡ drop q.1 text
    → comment_onto text more ≡ Begins q.0 front (comment_onto after more)
comment_split text c cs front after q more e eq ef ea =
    let P : Piece → List ℕ → Cut = λ r t. Begins r.0 (take r.1 t) (comment_onto (drop r.1 t) more) in
    ap (λ (t : List ℕ). comment_onto t more) e
    ∙ comment_step c cs more
    ∙ ap (λ (r : Piece). P r (c ∷ cs)) (sym eq)
    ∙ ap (P q) (sym e)
    ∙ ap (λ (f : List ℕ). Begins q.0 f (comment_onto (drop q.1 text) more)) (sym ef)
    ∙ ap (λ (a : List ℕ). Begins q.0 front (comment_onto a more)) (sym ea)

-- a fact of a fault follows from another
pub OnFault-map : (f : LexFault) (P Q : Place → FaultKind → Type 0) → ((place : Place) (why : FaultKind) → P place why → Q place why) → OnFault f P → OnFault f Q
OnFault-map (At place why) P Q step h = step place why h
OnFault-map OutOfMemory P Q step h = tt

-- no tokens in front
tokens_onto-none : (l : Lexed) → tokens_onto [] l ≡ l
tokens_onto-none (Ok others) = refl
tokens_onto-none (Err fault) = refl

-- a line that has begun is read on with its tokens in front, where its first token is aligned
abbrev BegunReads : List ℕ → Begun → Units → Type 0
BegunReads indentations line units =
    laid_out indentations (lines_from (Some line) units)
    ≡ cond (is_aligned line.0.reach indentations) (tokens_onto (line_layout indentations line.0 ++ line.1) (read_units true (indentations_behind line.0.reach indentations) units)) (Err (place_of line.0, BadIndent))

mutual
  -- the layout by lines is what is read one token after another
  pub by_lines : (indentations : List ℕ) (units : Units) → laid_out indentations (lines_from None units) ≡ read_units false indentations units
  by_lines indentations (Finished p) = refl
  by_lines indentations (Stopped p kind) = refl
  by_lines indentations (Refused p kind) = refl
  by_lines indentations (Ended p rest) = by_lines indentations rest ∙ sym (tokens_onto-none (read_units false indentations rest))
  by_lines indentations (Spelled p kind after rest) = line_reads indentations (p, token_at kind p after ∷ []) rest

  line_reads : (indentations : List ℕ) (line : Begun) (units : Units) → BegunReads indentations line units
  line_reads indentations line (Finished p) =
      let m = line_layout indentations line.0 in
      let n = unspelled_at token.Newline p ∷ [] in
      let d = dedents 0 (indentations_behind line.0.reach indentations) p in
      let f = unspelled_at token.Finish p ∷ [] in
      ap (λ (ts : List Token). cond (is_aligned line.0.reach indentations) (Ok ts) (Err (place_of line.0, BadIndent)))
      (append_assoc (m ++ line.1) n (d ++ f) ∙ ap (λ (ts : List Token). (m ++ line.1) ++ ts) (sym (append_assoc n d f)))
  line_reads indentations line (Stopped p kind) = refl
  line_reads indentations line (Refused p kind) = refl
  line_reads indentations line (Ended p rest) =
      let m = line_layout indentations line.0 in
      let n = unspelled_at token.Newline p ∷ [] in
      ap (λ (l : Lexed). cond (is_aligned line.0.reach indentations) l (Err (place_of line.0, BadIndent)))
      (ap (tokens_onto (m ++ line.1 ++ n)) (by_lines (indentations_behind line.0.reach indentations) rest) ∙ sym (tokens_onto-append (m ++ line.1) n (read_units false (indentations_behind line.0.reach indentations) rest)))
  line_reads indentations line (Spelled p kind after rest) =
      let m = line_layout indentations line.0 in
      let t = token_at kind p after ∷ [] in
      line_reads indentations (line.0, line.1 ++ t) rest
      ∙ ap (λ (l : Lexed). cond (is_aligned line.0.reach indentations) l (Err (place_of line.0, BadIndent)))
      (ap (λ (ts : List Token). tokens_onto ts (read_units true (indentations_behind line.0.reach indentations) rest)) (sym (append_assoc m line.1 t))
      ∙ sym (tokens_onto-append (m ++ line.1) t (read_units true (indentations_behind line.0.reach indentations) rest)))

-- what a text is read as, by its lines
pub lexed-reads : (text : List ℕ) → lexed text ≡ read_through text
lexed-reads text = by_lines [] (units_of (front_of text) [] (cut (after_mark text)))
