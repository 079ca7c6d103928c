-- Where tokens can't be part of a file any more.
use Rattle.std.specs.Prelude.{ℕ, ◌+◌, List, ◌++◌, take}
use Rattle.uvl_lexer.specs.declared.token.Token.{Token}
use Rattle.uvl_ast.specs.declared.file.File.{File}
use Rattle.uvl_grammar.specs.File.{Spells}

-- no list that begins with the tokens up to and with the k-th spells a file
abbrev pub Dead : List Token → ℕ → Type 0
Dead tokens k = (others : List Token) (file : File) → Spells (take (k + 1) tokens ++ others) file → ⊥
