-- The tokens in front of a place, the nearest first.
use Rattle.std.specs.Prelude.{◌≡◌, ℕ, ◌+◌, ◌<◌, List, [], ◌∷◌, ◌++◌, length, reverse, take, slice_get, Some, None}
use Rattle.std.proofs.Common.{sym, ap, ◌∙◌, get_or}
use Rattle.std.proofs.lemmas.List.{reverse-append, take_more}
use Rattle.uvl_lexer.specs.declared.token.Token.{Token}
use Rattle.uvl_profile.specs.First.{in_front, NothingMet}
use Rattle.uvl_profile.specs.declared.candidate.Met.{Met}
use Rattle.uvl_profile.specs.Met.{met_of}

-- the last of a list is the first of it turned round
pub reverse_last : {A : Type 0} (xs rest : List A) (x : A) → xs ≡ rest ++ x ∷ [] → reverse xs ≡ x ∷ reverse rest
reverse_last xs rest x e = ap reverse e ∙ reverse-append rest (x ∷ [])

-- a token more
pub in_front_more : (tokens : List Token) (k : ℕ) (t : Token) → k < length tokens → t ≡ get_or tokens k t
    → in_front (k + 1) tokens ≡ t ∷ in_front k tokens
in_front_more tokens k t within is =
    reverse_last (take (k + 1) tokens) (take k tokens) t
    (take_more tokens k t within ∙ ap (λ u. take k tokens ++ u ∷ []) (sym is))

module _ (tokens : List Token) (k : ℕ) (t : Token) (here : slice_get tokens k ≡ Some t) where
  same_token : (u : Token) → slice_get tokens k ≡ Some u → u ≡ t
  same_token u is = cc

  -- what is met at the token there
  pub met_at_one : (m : Met) → met_of (in_front k tokens) t ≡ Some m → (u : Token) → slice_get tokens k ≡ Some u
      → met_of (in_front k tokens) u ≡ Some m
  met_at_one m met u is = ap (met_of (in_front k tokens)) (same_token u is) ∙ met

  -- nothing is met there
  pub none_at_one : met_of (in_front k tokens) t ≡ None → NothingMet tokens k
  none_at_one none u is = ap (met_of (in_front k tokens)) (same_token u is) ∙ none
