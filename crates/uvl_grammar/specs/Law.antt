-- The laws of the grammar.
use Rattle.std.specs.Prelude.{◌≡◌, List, IfSome}
use Rattle.uvl_lexer.specs.declared.token.Token.{Token}
use Rattle.uvl_lexer.specs.TokenList.{IsTokenList}
use Rattle.uvl_ast.specs.declared.file.File.{File}
use Rattle.uvl_ast.specs.Texts.{EachTextIsQuotable}
use Rattle.uvl_grammar.specs.File.{Spells}

-- a list of tokens spells at most one file
abbrev pub EachListSpellsOneFile : Type 0
EachListSpellsOneFile =
    (tokens : List Token) (file other : File) → Spells tokens file → Spells tokens other → other ≡ file

-- each text of a spelled file can stand in single quotes
abbrev pub SpelledTextsAreQuotable : Type 0
SpelledTextsAreQuotable =
    (tokens : List Token) (file : File) → IsTokenList tokens → Spells tokens file → IfSome file.root EachTextIsQuotable
