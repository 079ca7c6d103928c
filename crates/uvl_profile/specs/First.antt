-- The first token at which a named fault is met.
use Rattle.std.specs.Prelude.{◌≡◌, ℕ, ◌<◌, List, length, reverse, take, slice_get, Some, None}
use Rattle.uvl_lexer.specs.declared.token.Token.{Token}
use Rattle.uvl_profile.specs.declared.candidate.Candidate.{Candidate}
use Rattle.uvl_profile.specs.Met.{met_of}

-- the tokens in front of the k-th, the nearest first
abbrev pub in_front : ℕ → List Token → List Token
in_front k tokens = reverse (take k tokens)

-- nothing is met at the k-th token
abbrev pub NothingMet : List Token → ℕ → Type 0
NothingMet tokens k = (t : Token) → slice_get tokens k ≡ Some t → met_of (in_front k tokens) t ≡ None

-- the first token at which something is met, and what
pub record IsFirstMet (tokens : List Token) (c : Candidate) : Type 0 where
  pub within : c.index < length tokens
  pub none_before : (k : ℕ) → k < c.index → NothingMet tokens k
  pub met : (t : Token) → slice_get tokens c.index ≡ Some t
      → met_of (in_front c.index tokens) t ≡ Some c.met
