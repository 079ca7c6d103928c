-- A comment, read a line at a time.
use Rattle.std.proofs.Common.{◌≡◌, ℕ, zero, suc, ◌+◌, ◌≤◌, ◌==◌, Bool, true, false, not, cond, ◌&&◌, ◌||◌, List, [], ◌∷◌, length, take, drop, Option, Some, None, refl, sym, ap, ◌∙◌, inl, inr, arith, length-append}
use Rattle.std.specs.Prelude.{encode_utf8, encode_utf8_all}
use Rattle.std.specs.List.{prefix_len}
use Rattle.std.proofs.lemmas.Bool.{cases_Bool, cond-true, cond-false}
use Rattle.uvl_lexer.specs.Characters.{is_of_class, begins_with, stays_in_line}
use Rattle.uvl_lexer.specs.declared.characters.CharacterClass.TheVariants.{InLine}
use Rattle.uvl_lexer.specs.declared.position.Position.{Position}
use Rattle.uvl_lexer.specs.declared.brackets.Bracket.{Bracket}
use Rattle.uvl_lexer.specs.declared.piece.PieceKind.TheVariants as piece
use Rattle.uvl_lexer.specs.Cut.{Cut, Begins, comment_onto}
use Rattle.uvl_lexer.specs.steps.Reading.{comment_piece}
use Rattle.uvl_lexer.specs.Layout.{Units, units_of}
use Rattle.uvl_lexer.specs.Pieces.{Piece}
use Rattle.uvl_lexer.specs.Positions.{behind}
use Rattle.uvl_lexer.specs.steps.Reading.{comment_piece_at}
use Rattle.uvl_lexer.proofs.Laying.{comment_step, comment_split}

abbrev position : ℕ → ℕ → ℕ → ℕ → Position
position b l c r = record { byte = b; line = l; column = c; reach = r }

same_position : (l b b' c c' r r' : ℕ) → b ≡ b' → c ≡ c' → r ≡ r' → position b l c r ≡ position b' l c' r'
same_position l b b' c c' r r' eb ec er = ap (λ (x : ℕ). position x l c r) eb ∙ ap (λ (x : ℕ). position b' l x r) ec ∙ ap (λ (x : ℕ). position b' l c' x) er

no_space : (p : Position) → p ≡ behind piece.Space p 0 0
no_space p = same_position p.line p.byte (p.byte + 0) p.column (p.column + 0) p.reach (p.reach + 0) (omega arith) (omega arith) (omega arith)

-- a space and then others are as many spaces at once
one_space_more : (p : Position) (c : ℕ) (cs : List ℕ)
    → behind piece.Space (behind piece.Space p 1 (length (encode_utf8_all (c ∷ [])))) (length cs) (length (encode_utf8_all cs)) ≡ behind piece.Space p (length (c ∷ cs)) (length (encode_utf8_all (c ∷ cs)))
one_space_more p c cs =
    let one : length (encode_utf8_all (c ∷ [])) ≡ length (encode_utf8 c) + 0 = length-append (encode_utf8 c) [] in
    let all : length (encode_utf8_all (c ∷ cs)) ≡ length (encode_utf8 c) + length (encode_utf8_all cs) = length-append (encode_utf8 c) (encode_utf8_all cs) in
    same_position p.line _ _ _ _ _ _ (omega (arith, one, all)) (omega arith) (omega arith)

either : (a b : Bool) → not (a || b) ≡ true → (a ≡ false) × (b ≡ false)
either false b h = (refl, not_so b h)
  where
    not_so : (b : Bool) → not b ≡ true → b ≡ false
    not_so false h = refl
    not_so true h = cc
either true b h = cc

-- a character in front of a line's end is a space
space_here : (c : ℕ) (cs : List ℕ) → stays_in_line c ≡ true → comment_piece c cs ≡ (piece.Space, 1)
space_here c cs stays =
    let other = either (c == 10) (c == 13) stays in
    cond-false (c == 10) _ _ other.0 ∙ cond-false (c == 13 && begins_with 10 cs) _ _ (ap (λ (b : Bool). b && begins_with 10 cs) other.1)

space_onto : (c : ℕ) (cs : List ℕ) (more : Cut) → stays_in_line c ≡ true → comment_onto (c ∷ cs) more ≡ Begins piece.Space (c ∷ []) (comment_onto cs more)
space_onto c cs more stays =
    comment_step c cs more ∙ ap (λ (q : Piece). Begins q.0 (take q.1 (c ∷ cs)) (comment_onto (drop q.1 (c ∷ cs)) more)) (space_here c cs stays)

-- the characters in front of a line's end are as many spaces
line_spaces : (n : ℕ) (cs : List ℕ) → n ≤ prefix_len stays_in_line cs → (p : Position) (brackets : List Bracket) (more : Cut)
    → units_of p brackets (comment_onto cs more) ≡ units_of (behind piece.Space p (length (take n cs)) (length (encode_utf8_all (take n cs)))) brackets (comment_onto (drop n cs) more)
line_spaces zero cs within p brackets more = ap (λ (q : Position). units_of q brackets (comment_onto cs more)) (no_space p)
line_spaces (suc n) [] within p brackets more = absurd (omega arith)
line_spaces (suc n) (c ∷ cs) within p brackets more =
    elim (cases_Bool (stays_in_line c)) [
      | inl stays ↦
          let one_more : prefix_len stays_in_line (c ∷ cs) ≡ 1 + prefix_len stays_in_line cs = cond-true (stays_in_line c) _ _ stays in
          ap (units_of p brackets) (space_onto c cs more stays)
          ∙ line_spaces n cs (omega (arith, one_more)) (behind piece.Space p 1 (length (encode_utf8_all (c ∷ [])))) brackets more
          ∙ ap (λ (q : Position). units_of q brackets (comment_onto (drop n cs) more)) (one_space_more p c (take n cs))
      | inr ends ↦ absurd (let none : prefix_len stays_in_line (c ∷ cs) ≡ 0 = cond-false (stays_in_line c) _ _ ends in omega (arith, none))
    ]

-- what is taken from the front of a comment, and the comment behind it
pub comment_read : (text : List ℕ) (q : Piece) (front after : List ℕ) → comment_piece_at text ≡ Some q → front ≡ take q.1 text → after ≡ drop q.1 text
    → (p : Position) (brackets : List Bracket) (more : Cut) → units_of p brackets (comment_onto text more) ≡ units_of p brackets (Begins q.0 front (comment_onto after more))
comment_read [] q front after is ef ea p brackets more = cc
comment_read (c ∷ cs) q front after is ef ea p brackets more =
    let n = prefix_len (is_of_class InLine) (c ∷ cs) in
    elim (cases_Bool (n == 0)) [
      | inl ends ↦
          let same : comment_piece c cs ≡ q = (let both : Some (comment_piece c cs) ≡ Some q = sym (cond-true (n == 0) _ _ ends) ∙ is in cc) in
          ap (units_of p brackets) (comment_split (c ∷ cs) c cs front after q more refl (sym same) ef ea)
      | inr spaces ↦
          let same : (piece.Space, n) ≡ q = (let both : ◌≡◌ {A = Option Piece} (Some (piece.Space, n)) (Some q) = sym (cond-false (n == 0) _ _ spaces) ∙ is in cc) in
          let P : Piece → Units = λ r. units_of p brackets (Begins r.0 (take r.1 (c ∷ cs)) (comment_onto (drop r.1 (c ∷ cs)) more)) in
          line_spaces n (c ∷ cs) (omega arith) p brackets more
          ∙ ap P same
          ∙ ap (λ (f : List ℕ). units_of p brackets (Begins q.0 f (comment_onto (drop q.1 (c ∷ cs)) more))) (sym ef)
          ∙ ap (λ (a : List ℕ). units_of p brackets (Begins q.0 front (comment_onto a more))) (sym ea)
    ]

-- nothing is left where nothing is taken
pub nothing_left : (text : List ℕ) → comment_piece_at text ≡ None → text ≡ []
nothing_left [] none = refl
nothing_left (c ∷ cs) none = absurd (some_either (prefix_len (is_of_class InLine) (c ∷ cs) == 0) _ _ none)
  where
    some_either : (b : Bool) (q r : Piece) → ◌≡◌ {A = Option Piece} (cond b (Some q) (Some r)) None → ⊥
    some_either true q r e = cc
    some_either false q r e = cc
