-- What holds of every set of files that is loaded, also where nothing is told of the files' contents.
use Rattle.std.specs.Prelude.{◌≡◌, ℕ, ◌<◌, ◌≤◌, List, All, length, map, slice_get, Some}
use Rattle.uvl_lexer.specs.declared.token.Token.{Token}
use Rattle.uvl_lexer.specs.TokenList.{IsTokenList}
use Rattle.uvl_ast.specs.declared.file.File.{File}
use Rattle.uvl_parser.specs.Parsing.{IsParsedAs}
use Rattle.uvl_imports.specs.declared.file_set.Loaded.{Loaded}
use Rattle.uvl_imports.specs.Limits.{most_files}
use Rattle.uvl_imports.specs.Paths.{qualifier_of}
use Rattle.uvl_imports.specs.Texts.{AreDistinct}
use Rattle.uvl_imports.specs.Walking.{paths_of}

-- the file is spelled by tokens in which no named fault is met
pub record IsWritten (file : File) : Type 0 where
  pub tokens : List Token
  pub list : IsTokenList tokens
  pub parsed : IsParsedAs tokens file

-- A file of a set, at its position: it is written, each of its import lines has a target, each target stands in front
-- of the file, and the qualifiers of its lines differ.
pub record IsWholeFile (position : ℕ) (loaded : Loaded) : Type 0 where
  pub written : IsWritten loaded.file
  pub targets : length loaded.targets ≡ length loaded.file.imports
  pub in_front : All (λ target. target < position) loaded.targets
  pub qualifiers : AreDistinct (map qualifier_of loaded.file.imports)

-- each file of a list is such a file
abbrev pub AreWholeFiles : List Loaded → Type 0
AreWholeFiles files =
    (position : ℕ) (loaded : Loaded) → slice_get files position ≡ Some loaded → IsWholeFile position loaded

-- a set of files: at least one, no more than the limit, at different paths, and each of them whole
pub record IsWhole (files : List Loaded) : Type 0 where
  pub some : 1 ≤ length files
  pub few : length files ≤ most_files
  pub distinct : AreDistinct (paths_of files)
  pub each : AreWholeFiles files
