-- The limits of a file's tree, and that parsing asks for them and for no others.
use Rattle.std.specs.Prelude.{◌≡◌, ℕ, ◌≤◌, List, slice_get, Some, IfSome}
use Rattle.uvl_base.specs.Limits.{most_depth, most_rule_nodes}
use Rattle.uvl_base.specs.declared.fault.FaultKind.{FaultKind}
use Rattle.uvl_lexer.specs.declared.token.Token.{Token}
use Rattle.uvl_ast.specs.declared.file.File.{File}
use Rattle.uvl_ast.specs.Depth.{depth_of}
use Rattle.uvl_ast.specs.Nodes.{nodes_of}
use Rattle.uvl_ast.specs.Rules.{EachRule}
use Rattle.uvl_grammar.specs.File.{Spells}
use Rattle.uvl_faults.specs.Named.{IsMet, in_front}
use Rattle.uvl_parser.specs.Parsing.{IsParsedAs}

-- features nest no deeper, and no rule has more nodes
pub record KeepsLimits (file : File) : Type 0 where
  pub shallow : IfSome file.root (λ root. depth_of root ≤ most_depth)
  pub few_nodes : EachRule (λ rule. nodes_of rule ≤ most_rule_nodes) file

-- no fault is met by the tokens alone: nothing that isn't taken, and no bracket or `!` that nests too deep
abbrev pub NoneMet : List Token → Type 0
NoneMet tokens =
    (k : ℕ) (t : Token) (kind : FaultKind) → slice_get tokens k ≡ Some t → IsMet (in_front k tokens) t kind → ⊥

-- a file that keeps the limits, and in whose tokens no fault is met, is what they are parsed as
abbrev pub FilesWithinLimitsAreParsed : Type 0
FilesWithinLimitsAreParsed =
    (tokens : List Token) (file : File) → Spells tokens file → KeepsLimits file → NoneMet tokens
    → IsParsedAs tokens file

-- and every file that tokens are parsed as keeps them
abbrev pub ParsedFilesKeepLimits : Type 0
ParsedFilesKeepLimits = (tokens : List Token) (file : File) → IsParsedAs tokens file → KeepsLimits file
