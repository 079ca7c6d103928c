-- A text has one cut into pieces that are each the longest at their place, and it is read by that cut.
use Rattle.std.proofs.Common.{◌≡◌, ℕ, zero, suc, ◌≤◌, List, [], ◌∷◌, ◌++◌, length, take, drop, Option, Some, None, refl, sym, ap, ◌∙◌, subst, arith, length-append}
use Rattle.std.specs.Prelude.{MatchOption}
use Rattle.std.proofs.lemmas.List.{append_cancel_left}
use Rattle.std.proofs.Math.Seq.{take-append_seam, drop-append_seam}
use Rattle.uvl_lexer.specs.declared.piece.PieceKind.{PieceKind}
use Rattle.uvl_lexer.specs.Cut.{cut, piece_onto}
use Rattle.uvl_lexer.specs.Forms.{BeginsText, NoneBegins, IsLongest}
use Rattle.uvl_lexer.specs.PieceByPiece.{SpelledPiece, IsCut, read_as, IsCutOnce, EachPieceIsTheLongest}
use Rattle.uvl_lexer.specs.Pieces.{Piece, piece_at}
use Rattle.uvl_lexer.proofs.Cutting.{cut_piece, cut_unread, cut_end}
use Rattle.uvl_lexer.proofs.Found.{Found, found, taken}
use Rattle.uvl_lexer.proofs.Reached.{Reached, reached}

-- ---- the longest piece

-- a piece that begins a text is read there, or a longer one
begins_reached : (kind : PieceKind) (spelling text : List ℕ) → BeginsText kind spelling text → Reached kind (length spelling) text
begins_reached kind spelling text h = subst (λ (t : List ℕ). Reached kind (length spelling) t) (sym h.joined) (reached kind spelling h.rest h.form h.stands)

-- the piece that is read is no shorter than any that begins there
longest_read : (text : List ℕ) (p : Piece) → piece_at text ≡ Some p → (kind : PieceKind) (spelling : List ℕ) → BeginsText kind spelling text → length spelling ≤ p.1
longest_read text p is kind spelling h =
    let r = begins_reached kind spelling text h in
    let same : r.found ≡ p = (let both : Some r.found ≡ Some p = sym r.read ∙ is in cc) in
    omega (arith, r.within, ap (λ (q : Piece). q.1) same)

-- and where it is as long, it is of the same kind
kind_read : (text : List ℕ) (p : Piece) → piece_at text ≡ Some p → (kind : PieceKind) (spelling : List ℕ) → BeginsText kind spelling text → length spelling ≡ p.1 → kind ≡ p.0
kind_read text p is kind spelling h size =
    let r = begins_reached kind spelling text h in
    let same : r.found ≡ p = (let both : Some r.found ≡ Some p = sym r.read ∙ is in cc) in
    r.same (size ∙ ap (λ (q : Piece). q.1) (sym same)) ∙ ap (λ (q : Piece). q.0) same

-- a piece that is read is the longest at its place
pub longest : (text : List ℕ) (p : Piece) → piece_at text ≡ Some p → (h : Found text p) → IsLongest p.0 h.spelling text
longest text p is h = record {
  begins = record { form = h.form; rest = h.rest; joined = h.joined; stands = h.stands };
  longest = λ kind spelling other. omega (arith, longest_read text p is kind spelling other, h.size);
}

left : (text : List ℕ) (p : Piece) (h : Found text p) → drop p.1 text ≡ h.rest
left text p h = ap (λ (n : ℕ). drop n text) (sym h.size) ∙ ap (drop (length h.spelling)) h.joined ∙ drop-append_seam h.spelling h.rest

-- no piece begins where none is read
none_begins : (text : List ℕ) → piece_at text ≡ None → NoneBegins text
none_begins text none kind spelling h =
    let r = begins_reached kind spelling text h in
    let clash : ◌≡◌ {A = Option Piece} None (Some r.found) = sym none ∙ r.read in
    cc

pub each_longest : EachPieceIsTheLongest
each_longest text = go (piece_at text) refl
  where
    go : (o : Option Piece) → piece_at text ≡ o → MatchOption o (NoneBegins text) (λ p. IsLongest p.0 (take p.1 text) text)
    go None is = none_begins text is
    go (Some p) is =
        let h = found text p is in
        subst (λ (t : List ℕ). IsLongest p.0 t text) (sym (taken text p h)) (longest text p is h)

-- ---- one cut

-- the kind of a piece that is the longest at its place is the one that is read there
pub record KindRead (kind : PieceKind) (text : List ℕ) : Type 0 where
  pub piece : Piece
  pub read : piece_at text ≡ Some piece
  pub kind_is : kind ≡ piece.0

kind_of : (kind : PieceKind) (spelling text : List ℕ) → IsLongest kind spelling text → KindRead kind text
kind_of kind spelling text is =
    let r = begins_reached kind spelling text is.begins in
    let h = found text r.found r.read in
    let no_longer : length h.spelling ≤ length spelling = is.longest r.found.0 h.spelling (record { form = h.form; rest = h.rest; joined = h.joined; stands = h.stands }) in
    record { piece = r.found; read = r.read; kind_is = r.same (omega (arith, no_longer, r.within, h.size)) }

-- two pieces that are the longest at one place are of one kind
same_kind : (kind other : PieceKind) (text : List ℕ) → KindRead kind text → KindRead other text → kind ≡ other
same_kind kind other text a b =
    let same : a.piece ≡ b.piece = (let both : Some a.piece ≡ Some b.piece = sym a.read ∙ b.read in cc) in
    a.kind_is ∙ ap (λ (p : Piece). p.0) same ∙ sym b.kind_is

front_same : (xs ys vs ws : List ℕ) → xs ++ vs ≡ ys ++ ws → length xs ≡ length ys → xs ≡ ys
front_same xs ys vs ws e size = sym (take-append_seam xs vs) ∙ ap (λ (n : ℕ). take n (xs ++ vs)) size ∙ ap (take (length ys)) e ∙ take-append_seam ys ws

-- two cuts that go as far as pieces go are one
same_cut : (ps qs : List SpelledPiece) (left rest text : List ℕ) → IsCut ps left text → NoneBegins left → IsCut qs rest text → NoneBegins rest → (qs ≡ ps) × (rest ≡ left)
same_cut [] [] left rest text h ends k stops = (refl, sym k ∙ h)
same_cut [] (q ∷ qs) left rest text h ends (after, joined, is, k) stops = absurd (ends q.0 q.1 (subst (λ (t : List ℕ). BeginsText q.0 q.1 t) h is.begins))
same_cut (p ∷ ps) [] left rest text (after, joined, is, h) ends k stops = absurd (stops p.0 p.1 (subst (λ (t : List ℕ). BeginsText p.0 p.1 t) k is.begins))
same_cut (p ∷ ps) (q ∷ qs) left rest text (after, joined, is, h) ends (behind, parted, also, k) stops =
    let size : length p.1 ≡ length q.1 = omega (arith, is.longest q.0 q.1 also.begins, also.longest p.0 p.1 is.begins) in
    let spelling : p.1 ≡ q.1 = front_same p.1 q.1 after behind (sym joined ∙ parted) size in
    let others : after ≡ behind = append_cancel_left p.1 after behind (sym joined ∙ parted ∙ ap (λ (t : List ℕ). t ++ behind) (sym spelling)) in
    let kind : p.0 ≡ q.0 = same_kind p.0 q.0 text (kind_of p.0 p.1 text is) (kind_of q.0 q.1 text also) in
    let more : (qs ≡ ps) × (rest ≡ left) = same_cut ps qs left rest after h ends (subst (λ (t : List ℕ). IsCut qs rest t) (sym others) k) stops in
    let first : q ≡ p = ap (λ (x : PieceKind). let r : SpelledPiece = (x, q.1) in r) (sym kind) ∙ ap (λ (x : List ℕ). let r : SpelledPiece = (p.0, x) in r) (sym spelling) in
    (ap (λ (x : SpelledPiece). x ∷ qs) first ∙ ap (λ (xs : List SpelledPiece). p ∷ xs) more.0, more.1)

-- ---- a cut of each text

-- pieces up to a place at which none begins, by which the text is read
pub record CutOf (text : List ℕ) : Type 0 where
  pub pieces : List SpelledPiece
  pub left : List ℕ
  pub is_cut : IsCut pieces left text
  pub ends : NoneBegins left
  pub read : cut text ≡ read_as pieces left

no_pieces : (text : List ℕ) → piece_at text ≡ None → cut text ≡ read_as [] text
no_pieces [] none = cut_end
no_pieces (c ∷ cs) none = cut_unread c cs none

-- a cut behind the first piece, with that piece
one_more : (text : List ℕ) (p : Piece) → piece_at text ≡ Some p → (h : Found text p) → CutOf h.rest → CutOf text
one_more text p is h others = record {
  pieces = (p.0, h.spelling) ∷ others.pieces;
  left = others.left;
  is_cut = (h.rest, h.joined, longest text p is h, others.is_cut);
  ends = others.ends;
  read =
      cut_piece text p is h.some
      ∙ ap (λ (t : List ℕ). piece_onto p.0 t (cut (drop p.1 text))) (taken text p h)
      ∙ ap (λ (t : List ℕ). piece_onto p.0 h.spelling (cut t)) (left text p h)
      ∙ ap (piece_onto p.0 h.spelling) others.read;
}

cut_within : (n : ℕ) (text : List ℕ) → length text ≤ n → CutOf text
cut_within zero [] h = record { pieces = []; left = []; is_cut = refl; ends = none_begins [] refl; read = no_pieces [] refl }
cut_within zero (c ∷ cs) h = absurd (omega arith)
cut_within (suc n) text h = go (piece_at text) refl (cut_within n)
  where
    go : (o : Option Piece) → piece_at text ≡ o → ((rest : List ℕ) → length rest ≤ n → CutOf rest) → CutOf text
    go None is others = record { pieces = []; left = text; is_cut = refl; ends = none_begins text is; read = no_pieces text is }
    go (Some p) is others =
        let first = found text p is in
        one_more text p is first (others first.rest (omega (arith, ap length first.joined, length-append first.spelling first.rest, first.size, first.some)))

pub cut_of : (text : List ℕ) → CutOf text
cut_of text = cut_within (length text) text (omega arith)

pub cut_once : (text : List ℕ) → IsCutOnce text
cut_once text =
    let is = cut_of text in
    record {
      pieces = is.pieces;
      left = is.left;
      is_cut = is.is_cut;
      ends = is.ends;
      read = is.read;
      one = λ others rest k stops. same_cut is.pieces others is.left rest text is.is_cut is.ends k stops;
    }

-- no piece begins at the end of a text
pub none_at_end : NoneBegins []
none_at_end = none_begins [] refl

-- a text is read by each cut of it that goes as far as pieces go
pub read_by : (text : List ℕ) (pieces : List SpelledPiece) (left : List ℕ) → IsCut pieces left text → NoneBegins left → cut text ≡ read_as pieces left
read_by text pieces left k stops =
    let is = cut_of text in
    let same = same_cut is.pieces pieces is.left left text is.is_cut is.ends k stops in
    is.read ∙ ap (λ (ps : List SpelledPiece). read_as ps is.left) (sym same.0) ∙ ap (read_as pieces) (sym same.1)
