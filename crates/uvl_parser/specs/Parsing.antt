-- What a list of tokens is parsed as: the file that it spells, or its first fault.
use Rattle.std.specs.Prelude.{◌≡◌, ⊤, ◌⊎◌, ℕ, ◌<◌, List, length, slice_get, Some}
use Rattle.uvl_base.specs.declared.place.Place.{Place}
use Rattle.uvl_base.specs.declared.fault.FaultKind.{FaultKind}
use Rattle.uvl_base.specs.declared.fault.FaultKind.TheVariants.{Syntax}
use Rattle.uvl_lexer.specs.declared.token.Token.{Token}
use Rattle.uvl_lexer.specs.TokenList.{IsTokenList}
use Rattle.uvl_ast.specs.declared.file.File.{File}
use Rattle.uvl_parser.specs.declared.fault.ParseFault.{ParseFault}
use Rattle.uvl_parser.specs.declared.fault.ParseFault.TheVariants.{At, OutOfMemory}
use Rattle.uvl_grammar.specs.File.{Spells}
use Rattle.uvl_grammar.specs.Dead.{Dead}
use Rattle.uvl_faults.specs.Named.{NoneNamed, LowestNamed}

-- the tokens spell the file, and no named fault is met at any of them
pub record IsParsedAs (tokens : List Token) (file : File) : Type 0 where
  pub spelled : Spells tokens file
  pub unnamed : (k : ℕ) → NoneNamed tokens k

-- a token is dead, and no named fault is met there: that is a fault of syntax
pub record IsSyntax (tokens : List Token) (k : ℕ) (kind : FaultKind) : Type 0 where
  pub dead : Dead tokens k
  pub unnamed : NoneNamed tokens k
  pub syntax : kind ≡ Syntax

-- the k-th token is the first at which a named fault is met or which is dead, and this is what is wrong there
pub record IsFaultAt (tokens : List Token) (k : ℕ) (kind : FaultKind) : Type 0 where
  pub within : k < length tokens
  pub unnamed_before : (j : ℕ) → j < k → NoneNamed tokens j
  pub alive_before : (j : ℕ) → j < k → Dead tokens j → ⊥
  pub cause : LowestNamed tokens k kind ⊎ IsSyntax tokens k kind

-- The tokens are refused at the first of them at which a named fault is met or which is dead: for the named
-- fault with the lowest number that is met there, and for Syntax where none is.
pub record IsRefusedAt (tokens : List Token) (place : Place) (kind : FaultKind) : Type 0 where
  pub k : ℕ
  pub token : Token
  pub at : slice_get tokens k ≡ Some token
  pub stands : place ≡ token.place
  pub fault : IsFaultAt tokens k kind

-- what holds of the place and the kind of a fault; want of memory has neither
abbrev pub OnFault : ParseFault → (Place → FaultKind → Type 0) → Type 0
OnFault (At place kind) P = P place kind
OnFault OutOfMemory P = ⊤

-- the tokens are parsed as a file, as that file alone, and are refused nowhere
pub record HasFile (tokens : List Token) : Type 0 where
  pub file : File
  pub parsed : IsParsedAs tokens file
  pub one : (other : File) → IsParsedAs tokens other → other ≡ file
  pub never_refused : (place : Place) (kind : FaultKind) → IsRefusedAt tokens place kind → ⊥

-- the tokens are refused at one place, for one kind of fault, and are parsed as no file
pub record HasRefusal (tokens : List Token) : Type 0 where
  pub place : Place
  pub kind : FaultKind
  pub refused : IsRefusedAt tokens place kind
  pub one_place : (other : Place) (why : FaultKind) → IsRefusedAt tokens other why → other ≡ place
  pub one_kind : (other : Place) (why : FaultKind) → IsRefusedAt tokens other why → why ≡ kind
  pub no_file : (file : File) → IsParsedAs tokens file → ⊥

-- exactly one of the two holds
abbrev pub IsParsedOnce : List Token → Type 0
IsParsedOnce tokens = HasFile tokens ⊎ HasRefusal tokens

-- every list of tokens is parsed as one thing
abbrev pub EachTokenListIsParsedOnce : Type 0
EachTokenListIsParsedOnce = (tokens : List Token) → IsTokenList tokens → IsParsedOnce tokens
