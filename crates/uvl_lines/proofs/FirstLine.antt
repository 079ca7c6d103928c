-- What the place of the first LF says of the bytes in front of it and behind it.
use Rattle.std.proofs.Common.{◌≡◌, ℕ, suc, ◌+◌, ◌-◌, ◌<◌, ◌≤◌, ◌==◌, false, None, Some, List, ◌∷◌, ◌++◌, length, take, drop, get_or, sym, ap, ◌∙◌, arith, add-one, drop-cons, length-take, length-drop}
use Rattle.std.proofs.lemmas.Bool.{eqb-true, false_from_ne_true}
use Rattle.std.proofs.lemmas.List.{take-append-drop, get_or-take, take_all}
use Rattle.std.proofs.lemmas.List.Elements.{All-from_get_or}
use Rattle.std.proofs.lemmas.List.Folds.{list_any_none}
use Rattle.memchr.specs.Find.{IsFirstByte, Passes, is_byte, NoneBefore}
use Rattle.uvl_lines.specs.Lines.{has_lf}
use Rattle.uvl_lines.specs.steps.FirstLine.{BeginsWithLine}

-- there is none in front of a place where each byte is another
has_lf-take : (bytes : List ℕ) (n : ℕ) → n ≤ length bytes → ((k : ℕ) → k < n → Passes (is_byte 10) bytes k → ⊥) → has_lf (take n bytes) ≡ false
has_lf-take bytes n within others =
    list_any_none (λ b. b == 10) (take n bytes) (All-from_get_or (λ b. (b == 10) ≡ false) (take n bytes) 0 (λ k h.
    let below : k < n = omega (arith, length-take n bytes) in
    ap (λ b. b == 10) (get_or-take n bytes k 0 below) ∙ false_from_ne_true (get_or bytes k 0 == 10) (others k below)
    ))

-- where the search finds none there is none
pub has_lf-none : (bytes : List ℕ) → IsFirstByte (is_byte 10) bytes None → has_lf bytes ≡ false
has_lf-none bytes nowhere =
    sym (ap has_lf (take_all (length bytes) bytes (omega arith))) ∙ has_lf-take bytes (length bytes) (omega arith) (λ k. nowhere k (omega arith))

-- where the search finds one the bytes in front of it are the first line
pub BeginsWithLine-place : (bytes : List ℕ) (k : ℕ) → IsFirstByte (is_byte 10) bytes (Some k) → BeginsWithLine bytes (take k bytes) (take (length bytes - (k + 1)) (drop (k + 1) bytes))
BeginsWithLine-place bytes k first =
    let place : NoneBefore (Passes (is_byte 10) bytes) 0 (length bytes) k = first.0 in
    let is_lf : get_or bytes k 0 ≡ 10 = eqb-true (get_or bytes k 0) 10 first.1 in
    let rest : take (length bytes - (k + 1)) (drop (k + 1) bytes) ≡ drop (suc k) bytes = take_all _ _ (omega (arith, length-drop (k + 1) bytes)) ∙ ap (λ n. drop n bytes) (add-one k) in
    record {
      spelled =
          sym (take-append-drop k bytes)
          ∙ ap (λ part. take k bytes ++ part) (drop-cons bytes k 0 place.high ∙ ap (λ b. b ∷ drop (suc k) bytes) is_lf ∙ ap (λ part. 10 ∷ part) (sym rest));
      one_line = has_lf-take bytes k (omega arith) (λ i below. place.before i (omega arith) below);
    }
