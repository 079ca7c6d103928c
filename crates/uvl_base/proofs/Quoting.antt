-- A text between double quotes, by its bytes.
use Rattle.std.proofs.Common.{◌≡◌, ℕ, zero, suc, List, [], ◌∷◌, ◌++◌, sym, ap, ◌∙◌, append_assoc, lit<}
use Rattle.std.specs.Prelude.{IsUtf8, chars, encode_utf8_all}
use Rattle.std.specs.Str.{IsAscii}
use Rattle.std.proofs.lemmas.Str.{encodes-chars, encodes-append, encodes-IsAscii}
use Rattle.uvl_base.specs.Name.{quoted}

quote_ascii : IsAscii (34 ∷ [])
quote_ascii zero = lit< tt
quote_ascii (suc i) = lit< tt

quote : encode_utf8_all (34 ∷ []) ≡ 34 ∷ []
quote = encodes-IsAscii (34 ∷ []) quote_ascii

-- the bytes of a text between double quotes are its own between two more
bytes_of_quoted : (bytes : List ℕ) → IsUtf8 bytes → encode_utf8_all (quoted (chars bytes)) ≡ (34 ∷ []) ++ (bytes ++ (34 ∷ []))
bytes_of_quoted bytes text =
    encodes-append (34 ∷ []) (chars bytes ++ (34 ∷ []))
    ∙ ap (λ (front : List ℕ). front ++ encode_utf8_all (chars bytes ++ (34 ∷ []))) quote
    ∙ ap (λ (behind : List ℕ). (34 ∷ []) ++ behind)
    (encodes-append (chars bytes) (34 ∷ [])
    ∙ ap (λ (last : List ℕ). encode_utf8_all (chars bytes) ++ last) quote
    ∙ ap (λ (front : List ℕ). front ++ (34 ∷ [])) (encodes-chars bytes text))

-- a quote, the text and a quote behind some bytes are these bytes and the text between double quotes
pub quoted_behind : (old room front most all lent bytes : List ℕ) → IsUtf8 bytes
    → room ≡ old → front ≡ room ++ (34 ∷ []) → most ≡ front ++ lent → lent ≡ bytes → all ≡ most ++ (34 ∷ [])
    → all ≡ old ++ encode_utf8_all (quoted (chars bytes))
quoted_behind old room front most all lent bytes text e1 e2 e3 e4 e5 =
    e5
    ∙ ap (λ (xs : List ℕ). xs ++ (34 ∷ []))
    (e3 ∙ ap (λ (xs : List ℕ). xs ++ lent) (e2 ∙ ap (λ (xs : List ℕ). xs ++ (34 ∷ [])) e1) ∙ ap (λ (xs : List ℕ). (old ++ (34 ∷ [])) ++ xs) e4)
    ∙ append_assoc (old ++ (34 ∷ [])) bytes (34 ∷ [])
    ∙ append_assoc old (34 ∷ []) (bytes ++ (34 ∷ []))
    ∙ ap (λ (xs : List ℕ). old ++ xs) (sym (bytes_of_quoted bytes text))
