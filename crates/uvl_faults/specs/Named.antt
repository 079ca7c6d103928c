-- The faults with a name of their own that tokens may have, beside those of the grammar, and the token at
-- which each is met.
use Rattle.std.specs.Prelude.{◌≡◌, ℕ, ◌≤◌, ◌<◌, true, List, length, slice_get, Some, MatchOption}
use Rattle.uvl_base.specs.declared.fault.FaultKind.{FaultKind}
use Rattle.uvl_base.specs.declared.fault.FaultKind.TheVariants.{TypedFeature, FeatureCardinality, Average, UnsupportedOperation, ExpressionTooLarge, TooDeep}
use Rattle.uvl_base.specs.Fault.{number_of}
use Rattle.uvl_lexer.specs.declared.token.Token.{Token}
use Rattle.uvl_profile.specs.declared.candidate.Candidate.{Candidate}
use Rattle.uvl_grammar.specs.Dead.{Dead}
pub use Rattle.uvl_profile.specs.First.{in_front}
use Rattle.uvl_profile.specs.Met.{is_typed_feature, is_feature_cardinality, is_average, is_unsupported, is_nested_too_deep, is_feature_too_deep, is_node_too_many}

-- what is met at a token by the tokens alone: those in front of it, the nearest first, and itself
pub data IsMet (before : List Token) (t : Token) : FaultKind → Type 0 where
  Typed : is_typed_feature before t.kind ≡ true → IsMet before t TypedFeature
  Cardinal : is_feature_cardinality before t.kind ≡ true → IsMet before t FeatureCardinality
  Averaged : is_average before t.kind ≡ true → IsMet before t Average
  Unsupported : is_unsupported before t.kind ≡ true → IsMet before t UnsupportedOperation
  Nested : is_nested_too_deep before t ≡ true → IsMet before t TooDeep

-- what is met at a token that may stand there
pub data IsMetAlive (before : List Token) (t : Token) : FaultKind → Type 0 where
  Large : is_node_too_many before t.kind ≡ true → IsMetAlive before t ExpressionTooLarge
  Deep : is_feature_too_deep before t.kind ≡ true → IsMetAlive before t TooDeep

-- a named fault is met at the k-th token
pub data Named (tokens : List Token) (k : ℕ) (kind : FaultKind) : Type 0 where
  By_tokens : (t : Token) → slice_get tokens k ≡ Some t → IsMet (in_front k tokens) t kind → Named tokens k kind
  Where_alive : (t : Token) → slice_get tokens k ≡ Some t → IsMetAlive (in_front k tokens) t kind → (Dead tokens k → ⊥)
      → Named tokens k kind

-- no named fault is met at the k-th token
abbrev pub NoneNamed : List Token → ℕ → Type 0
NoneNamed tokens k = (kind : FaultKind) → Named tokens k kind → ⊥

-- of the named faults that are met at the k-th token, the one with the lowest number
pub record LowestNamed (tokens : List Token) (k : ℕ) (kind : FaultKind) : Type 0 where
  pub named : Named tokens k kind
  pub lowest : (other : FaultKind) → Named tokens k other → number_of kind ≤ number_of other

-- The first token at which a named fault is met, or would be if it could stand there: what is met there
-- where it can, and what where it can't. If nothing is met there, the token is the first dead one or one
-- behind it.
pub record IsFirstNamed (tokens : List Token) (c : Candidate) : Type 0 where
  pub within : c.index < length tokens
  pub none_before : (k : ℕ) → k < c.index → NoneNamed tokens k
  pub alive : (Dead tokens c.index → ⊥) → LowestNamed tokens c.index c.met.alive
  pub dead : Dead tokens c.index → MatchOption c.met.dead (NoneNamed tokens c.index) (LowestNamed tokens c.index)
