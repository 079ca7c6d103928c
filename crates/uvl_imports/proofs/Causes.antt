-- What the answers of the layers say of the bytes of a file.
use Rattle.std.proofs.Common.{◌≡◌, ℕ, List, subst}
use Rattle.std.specs.Prelude.{chars}
use Rattle.std.specs.Str.{IsUtf8}
use Rattle.uvl_lexer.specs.declared.fault.LexFault.{LexFault}
use Rattle.uvl_lexer.specs.declared.fault.LexFault.TheVariants as lexing
use Rattle.uvl_lexer.specs.declared.token.Token.{Token}
use Rattle.uvl_lexer.specs.Layout.{Tokens, Stops}
use Rattle.uvl_lexer.specs.Reading as lexer
use Rattle.uvl_parser.specs.declared.fault.ParseFault.{ParseFault}
use Rattle.uvl_parser.specs.declared.fault.ParseFault.TheVariants as parsing
use Rattle.uvl_parser.specs.Parsing.{IsParsedAs, IsRefusedAt}
use Rattle.uvl_parser.specs.Parsing as parser
use Rattle.uvl_imports.specs.Reading.{AreTokensOf, no_tokens, no_file}
use Rattle.uvl_imports.specs.steps.Answers.{IsFaultIn, of_lexer, of_parser}

-- the tokens of a text are those of its bytes
pub tokens_of : (bytes text : List ℕ) (tokens : List Token) → text ≡ bytes → IsUtf8 bytes → Tokens (chars text) tokens → AreTokensOf bytes tokens
tokens_of bytes text tokens same utf8 read = let P : List ℕ → Type 0 = λ t. Tokens (chars t) tokens in record { utf8 = utf8; read = subst P same read }

-- where the lexer finds a fault, the text stops
pub cause_of_lexer : (bytes text : List ℕ) → text ≡ bytes → IsUtf8 bytes → (fault : LexFault) → lexer.OnFault fault (λ place kind. Stops (chars text) place kind) → IsFaultIn bytes (of_lexer fault)
cause_of_lexer bytes text same utf8 (lexing.At place kind) stops = let P : List ℕ → Type 0 = λ t. Stops (chars t) place kind in no_tokens utf8 (subst P same stops)
cause_of_lexer bytes text same utf8 lexing.OutOfMemory stops = tt

-- where the parser finds one, the tokens are refused
pub cause_of_parser : (bytes : List ℕ) (tokens : List Token) → AreTokensOf bytes tokens → (fault : ParseFault) → parser.OnFault fault (λ place kind. IsRefusedAt tokens place kind) → IsFaultIn bytes (of_parser fault)
cause_of_parser bytes tokens read (parsing.At place kind) refused = no_file tokens read refused
cause_of_parser bytes tokens read parsing.OutOfMemory refused = tt
