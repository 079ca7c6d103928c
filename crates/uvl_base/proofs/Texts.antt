-- What the bytes of a text say of its characters.
use Rattle.std.proofs.Common.{◌≡◌, ◌==◌, List, ℕ, false, arith, [], ◌∷◌, length, sym, ap, ◌∙◌}
use Rattle.std.specs.Prelude.{IsUtf8, chars, encode_utf8_all}
use Rattle.std.proofs.lemmas.Bool.Decides.{nat_tests}
use Rattle.std.proofs.lemmas.Str.{encodes-chars, chars-nil}

some_or_none : (x : ℕ) (xs : List ℕ) → (length (x ∷ xs) == 0) ≡ false
some_or_none x xs = grind (arith, nat_tests)

-- a text without bytes is one without characters
pub is_empty-chars : (bs : List ℕ) → IsUtf8 bs → (length bs == 0) ≡ (length (chars bs) == 0)
is_empty-chars [] text = sym (ap (λ cs. length cs == 0) chars-nil)
is_empty-chars (b ∷ bs) text = nonempty (chars (b ∷ bs)) (encodes-chars (b ∷ bs) text)
  where
    nonempty : (cs : List ℕ) → encode_utf8_all cs ≡ b ∷ bs → (length (b ∷ bs) == 0) ≡ (length cs == 0)
    nonempty [] e = cc
    nonempty (c ∷ cs) e = some_or_none b bs ∙ sym (some_or_none c cs)
