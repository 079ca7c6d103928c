-- A text cut behind some of its characters.
use Rattle.std.proofs.Common.{◌≡◌, ℕ, zero, suc, ◌+◌, ◌-◌, ◌<◌, List, [], ◌∷◌, ◌++◌, length, take, drop, sym, ap, ◌∙◌, subst, add-one, append_assoc, arith, length-append, length-drop}
use Rattle.std.specs.Prelude.{IsUtf8, chars, encode_utf8}
use Rattle.std.specs.Str.{IsCharBoundary}
use Rattle.std.proofs.Math.Seq.{take-append_seam}
use Rattle.std.proofs.lemmas.List.{take-append-drop, append_cancel_right}
use Rattle.std.proofs.lemmas.Str.{IsUtf8-past_char, IsUtf8-take, IsCharBoundary-at_seam, chars-append}

-- the text ends with this rest
abbrev pub EndsWith : List ℕ → List ℕ → Type 0
EndsWith text rest = (front : List ℕ) × (text ≡ front ++ rest)

drop_more : (k c : ℕ) (xs ys : List ℕ) → drop k xs ≡ c ∷ ys → drop (suc k) xs ≡ ys
drop_more zero c [] ys e = cc
drop_more zero c (x ∷ xs) ys e = cc
drop_more (suc k) c [] ys e = cc
drop_more (suc k) c (x ∷ xs) ys e = drop_more k c xs ys e

-- one more character is taken
pub record Taken (text rest : List ℕ) (k : ℕ) : Type 0 where
  pub utf8 : IsUtf8 rest
  pub characters : chars rest ≡ drop k (chars text)
  pub ends : EndsWith text rest

pub taken_more : (text rest after : List ℕ) (c k : ℕ) → Taken text rest k → chars rest ≡ c ∷ chars after → rest ≡ encode_utf8 c ++ after → Taken text after (k + 1)
taken_more text rest after c k so_far first spelled = record {
  utf8 = IsUtf8-past_char rest after c so_far.utf8 spelled;
  characters = sym (rw (add-one) (drop_more k c (chars text) (chars after) (sym so_far.characters ∙ first)));
  ends =
      let front = so_far.ends.0 in
      (front ++ encode_utf8 c, so_far.ends.1 ∙ ap (λ (r : List ℕ). front ++ r) spelled ∙ sym (append_assoc front (encode_utf8 c) after));
}

-- there is another character to take
pub something_left : (text rest : List ℕ) (k : ℕ) → Taken text rest k → chars rest ≡ [] → k < length (chars text) → ⊥
something_left text rest k so_far none more =
    let gone : drop k (chars text) ≡ [] = sym so_far.characters ∙ none in
    let size : length (drop k (chars text)) ≡ 0 = ap length gone in
    omega (arith, size, length-drop k (chars text))

middle : (text rest : List ℕ) (k : ℕ) (so_far : Taken text rest k) → length text - length rest ≡ length so_far.ends.0
middle text rest k so_far = omega (arith, ap length so_far.ends.1, length-append so_far.ends.0 rest)

pub may_be_cut : (text rest : List ℕ) (k : ℕ) → Taken text rest k → IsCharBoundary text (length text - length rest)
may_be_cut text rest k so_far =
    subst (λ (m : ℕ). IsCharBoundary text m) (sym (middle text rest k so_far)) (IsCharBoundary-at_seam text so_far.ends.0 rest so_far.ends.1 so_far.utf8)

front_is : (text rest : List ℕ) (k : ℕ) (so_far : Taken text rest k) → take (length text - length rest) text ≡ so_far.ends.0
front_is text rest k so_far =
    ap (λ (m : ℕ). take m text) (middle text rest k so_far)
    ∙ ap (λ (t : List ℕ). take (length so_far.ends.0) t) so_far.ends.1
    ∙ take-append_seam so_far.ends.0 rest

pub rest_is : (text rest : List ℕ) (k : ℕ) (so_far : Taken text rest k) → drop (length text - length rest) text ≡ rest
rest_is text rest k so_far =
    let halves : take (length text - length rest) text ++ drop (length text - length rest) text ≡ text = take-append-drop _ text in
    append_cancel_left' so_far.ends.0 _ rest
    (sym (ap (λ (f : List ℕ). f ++ drop (length text - length rest) text) (front_is text rest k so_far)) ∙ halves ∙ so_far.ends.1)
  where
    append_cancel_left' : (s t u : List ℕ) → s ++ t ≡ s ++ u → t ≡ u
    append_cancel_left' [] t u e = e
    append_cancel_left' (x ∷ s) t u e = append_cancel_left' s t u (cc)

cut_characters : (text front rest : List ℕ) (k : ℕ) → IsUtf8 front → text ≡ front ++ rest → chars rest ≡ drop k (chars text) → chars front ≡ take k (chars text)
cut_characters text front rest k front_utf8 joined left =
    let halves : chars text ≡ chars front ++ chars rest = ap chars joined ∙ chars-append front rest front_utf8 in
    let others : chars front ++ chars rest ≡ chars front ++ drop k (chars text) = ap (λ (r : List ℕ). chars front ++ r) left in
    append_cancel_right (chars front) (take k (chars text)) (drop k (chars text)) (sym others ∙ sym halves ∙ sym (take-append-drop k (chars text)))

-- the characters in front of the cut are those taken
pub front_characters : (text rest : List ℕ) (k : ℕ) → IsUtf8 text → Taken text rest k → chars (take (length text - length rest) text) ≡ take k (chars text)
front_characters text rest k utf8 so_far =
    cut_characters text (take (length text - length rest) text) rest k
    (IsUtf8-take text (length text - length rest) utf8 (may_be_cut text rest k so_far))
    (so_far.ends.1 ∙ sym (ap (λ (f : List ℕ). f ++ rest) (front_is text rest k so_far))) so_far.characters

-- and those behind it are the others
pub rest_characters : (text rest : List ℕ) (k : ℕ) → Taken text rest k → chars (drop (length text - length rest) text) ≡ drop k (chars text)
rest_characters text rest k so_far = ap chars (rest_is text rest k so_far) ∙ so_far.characters
