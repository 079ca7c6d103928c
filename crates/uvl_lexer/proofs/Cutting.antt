-- The cut of a text, one piece after another.
use Rattle.std.proofs.Common.{◌≡◌, ℕ, zero, suc, ◌-◌, ◌≤◌, List, [], ◌∷◌, take, drop, Option, Some, None, refl, ap, ◌∙◌, arith}
use Rattle.uvl_lexer.specs.Pieces.{Piece, piece_at}
use Rattle.uvl_lexer.specs.Cut.{Whole, Unread, cut_behind, cut, piece_onto, first_onto, others_of}

-- characters of a piece that has been read already are passed over
skipped : (n : ℕ) (cs : List ℕ) → cut_behind n cs ≡ cut (drop n cs)
unfolding cut_behind
skipped zero cs = refl
skipped (suc n) [] = refl
skipped (suc n) (c ∷ cs) = skipped n cs

less_one : (n : ℕ) (c : ℕ) (cs : List ℕ) → 1 ≤ n → drop (n - 1) cs ≡ drop n (c ∷ cs)
less_one zero c cs h = absurd (omega arith)
less_one (suc n) c cs h = ap (λ (k : ℕ). drop k cs) (let e : suc n - 1 ≡ n = omega arith in e)

-- a text that begins with a piece is cut behind it
pub cut_piece : (cs : List ℕ) (p : Piece) → piece_at cs ≡ Some p → 1 ≤ p.1 → cut cs ≡ piece_onto p.0 (take p.1 cs) (cut (drop p.1 cs))
unfolding cut_behind
cut_piece [] p e h = cc
cut_piece (c ∷ cs) p e h =
    ap (λ (o : Option Piece). first_onto o (c ∷ cs) (cut_behind (others_of o) cs)) e
    ∙ ap (piece_onto p.0 (take p.1 (c ∷ cs))) (skipped (p.1 - 1) cs ∙ ap cut (less_one p.1 c cs h))

-- the cut breaks off where no piece begins
pub cut_unread : (c : ℕ) (cs : List ℕ) → piece_at (c ∷ cs) ≡ None → cut (c ∷ cs) ≡ Unread (c ∷ cs)
unfolding cut_behind
cut_unread c cs e = ap (λ (o : Option Piece). first_onto o (c ∷ cs) (cut_behind (others_of o) cs)) e

pub cut_end : cut [] ≡ Whole
unfolding cut_behind
cut_end = refl
