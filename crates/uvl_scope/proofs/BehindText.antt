-- What stands behind a qualifier and a dot.
use Rattle.std.proofs.Common.{◌≡◌, ◌≢◌, ℕ, zero, suc, List, [], ◌∷◌, ◌++◌, Option, Some, None, sym, ap, ◌∙◌, MatchOption, lit<}
use Rattle.std.specs.Prelude.{chars, encode_utf8_all, IsUtf8, IfSome, IfNone}
use Rattle.std.specs.Str.{IsAscii}
use Rattle.std.proofs.lemmas.List.{append_cancel_left}
use Rattle.std.proofs.lemmas.Str.{chars-append, chars-IsAscii, encodes-chars, encodes-append, encodes-IsAscii, IsUtf8-from_ascii}
use denote.Ref.{Bor}
use Rattle.uvl_semantics.specs.Prefix.{prefixed_name}

dot_ascii : IsAscii (46 ∷ [])
dot_ascii zero = lit< tt
dot_ascii (suc i) = lit< tt

module _ (qualifier whole : List ℕ) (utf8 : IsUtf8 qualifier) (utf8_whole : IsUtf8 whole) where
  -- a name under the qualifier, by its bytes
  bytes_are : (rest : List ℕ) → chars whole ≡ prefixed_name (chars qualifier) rest → whole ≡ qualifier ++ 46 ∷ encode_utf8_all rest
  bytes_are rest is =
      sym (encodes-chars whole utf8_whole) ∙ ap encode_utf8_all is ∙ encodes-append (chars qualifier) (46 ∷ rest)
      ∙ ap (λ (t : List ℕ). t ++ encode_utf8_all (46 ∷ rest)) (encodes-chars qualifier utf8)
      ∙ ap (λ (t : List ℕ). qualifier ++ t)
      (encodes-append (46 ∷ []) rest ∙ ap (λ (t : List ℕ). t ++ encode_utf8_all rest) (encodes-IsAscii (46 ∷ []) dot_ascii))

  -- a text that doesn't begin with the qualifier is no name under it
  pub not_behind : ((rest : List ℕ) → whole ≢ qualifier ++ rest) → (rest : List ℕ) → chars whole ≡ prefixed_name (chars qualifier) rest → ⊥
  not_behind none rest is = none (46 ∷ encode_utf8_all rest) (bytes_are rest is)

  module _ (behind : List ℕ) (is : whole ≡ qualifier ++ behind) where
    -- behind the qualifier a dot and the rest
    pub is_behind : (rest : List ℕ) → behind ≡ 46 ∷ rest → chars whole ≡ prefixed_name (chars qualifier) (chars rest)
    is_behind rest dotted =
        ap chars (is ∙ ap (λ (t : List ℕ). qualifier ++ t) dotted) ∙ chars-append qualifier (46 ∷ rest) utf8
        ∙ ap (λ (t : List ℕ). chars qualifier ++ t)
        (chars-append (46 ∷ []) rest (IsUtf8-from_ascii (46 ∷ []) dot_ascii) ∙ ap (λ (t : List ℕ). t ++ chars rest) (chars-IsAscii (46 ∷ []) dot_ascii))

    no_dot : ((rest : List ℕ) → behind ≢ 46 ∷ rest) → (rest : List ℕ) → chars whole ≡ prefixed_name (chars qualifier) rest → ⊥
    no_dot none rest h = none (encode_utf8_all rest) (append_cancel_left qualifier behind (46 ∷ encode_utf8_all rest) (sym is ∙ bytes_are rest h))

    -- both, by what is found
    pub behind_some : (found : Option (Bor (List ℕ))) → MatchOption found ((rest : List ℕ) → behind ≢ 46 ∷ rest) (λ x. behind ≡ 46 ∷ x.now)
        → IfSome found (λ rest. chars whole ≡ prefixed_name (chars qualifier) (chars rest.now))
    behind_some None h = tt
    behind_some (Some x) h = is_behind x.now h

    pub behind_none : (found : Option (Bor (List ℕ))) → MatchOption found ((rest : List ℕ) → behind ≢ 46 ∷ rest) (λ x. behind ≡ 46 ∷ x.now)
        → IfNone found ((rest : List ℕ) → chars whole ≡ prefixed_name (chars qualifier) rest → ⊥)
    behind_none None h = no_dot h
    behind_none (Some x) h = tt
