-- What the bytes of a file say, or what is wrong with them.
use Rattle.std.specs.Prelude.{◌≡◌, ℕ, List, chars}
use Rattle.std.specs.Str.{IsUtf8}
use Rattle.uvl_base.specs.declared.fault.FaultKind.{FaultKind}
use Rattle.uvl_base.specs.declared.fault.FaultKind.TheVariants.{NotUtf8}
use Rattle.uvl_base.specs.declared.fault.ModelFault.{ModelFault}
use Rattle.uvl_base.specs.declared.place.Place.{Place}
use Rattle.uvl_lexer.specs.declared.token.Token.{Token}
use Rattle.uvl_lexer.specs.Layout.{Tokens, Stops}
use Rattle.uvl_ast.specs.declared.file.File.{File}
use Rattle.uvl_parser.specs.Parsing.{IsParsedAs, IsRefusedAt}

-- the bytes are the UTF-8 of a text that has these tokens
pub record AreTokensOf (bytes : List ℕ) (tokens : List Token) : Type 0 where
  pub utf8 : IsUtf8 bytes
  pub read : Tokens (chars bytes) tokens

-- the bytes are the text of a file of this syntax
pub record IsFileOf (bytes : List ℕ) (file : File) : Type 0 where
  pub tokens : List Token
  pub read : AreTokensOf bytes tokens
  pub parsed : IsParsedAs tokens file

-- the first place of a file
abbrev pub first_place : Place
first_place = record { line = 1; column = 1 }

-- What is wrong with the bytes of a file: they are no UTF-8, which is a fault of the file as a whole; or else their
-- text stops; or else its tokens are refused.
pub data HasFaultIn (bytes : List ℕ) (place : Place) (kind : FaultKind) : Type 0 where
  no_text : (IsUtf8 bytes → ⊥) → place ≡ first_place → kind ≡ NotUtf8 → HasFaultIn bytes place kind
  no_tokens : IsUtf8 bytes → Stops (chars bytes) place kind → HasFaultIn bytes place kind
  no_file : (tokens : List Token) → AreTokensOf bytes tokens → IsRefusedAt tokens place kind
      → HasFaultIn bytes place kind

-- bytes are read as a file, or are found to be wrong
pub data Reading : Type 0 where
  says : File → Reading
  wrong : Place → FaultKind → Reading

-- the bytes are read so
abbrev pub Reads : List ℕ → Reading → Type 0
Reads bytes (says file) = IsFileOf bytes file
Reads bytes (wrong place kind) = HasFaultIn bytes place kind

-- a way of reading that is right for all bytes
abbrev pub ReadsEach : (List ℕ → Reading) → Type 0
ReadsEach read = (bytes : List ℕ) → Reads bytes (read bytes)

-- a fault of the file at a path
abbrev pub fault_in : List ℕ → Place → FaultKind → ModelFault
fault_in path place kind = record { file = chars path; place = place; kind = kind }
