-- The law of tokens and stops.
use Rattle.std.specs.Prelude.{◌≡◌, ℕ, ◌⊎◌, List}
use Rattle.uvl_base.specs.declared.place.Place.{Place}
use Rattle.uvl_base.specs.declared.fault.FaultKind.{FaultKind}
use Rattle.uvl_lexer.specs.declared.token.Token.{Token}
use Rattle.uvl_lexer.specs.Layout.{Tokens, Stops}

-- the text has tokens, one list of them, and stops nowhere
pub record HasTokens (text : List ℕ) : Type 0 where
  pub tokens : List Token
  pub has : Tokens text tokens
  pub one : (others : List Token) → Tokens text others → others ≡ tokens
  pub never_stops : (place : Place) (kind : FaultKind) → Stops text place kind → ⊥

-- the text stops at one place, for one kind of fault, and has no tokens
pub record HasStop (text : List ℕ) : Type 0 where
  pub place : Place
  pub kind : FaultKind
  pub stops : Stops text place kind
  pub one_place : (other : Place) (why : FaultKind) → Stops text other why → other ≡ place
  pub one_kind : (other : Place) (why : FaultKind) → Stops text other why → why ≡ kind
  pub no_tokens : (tokens : List Token) → Tokens text tokens → ⊥

-- exactly one of the two holds
abbrev pub IsReadOnce : List ℕ → Type 0
IsReadOnce text = HasTokens text ⊎ HasStop text

-- every text is read as one thing
abbrev pub EachTextIsReadOnce : Type 0
EachTextIsReadOnce = (text : List ℕ) → IsReadOnce text
