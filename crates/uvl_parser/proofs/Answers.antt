-- The clauses of a parser's callers, from what its answer says.
use Rattle.std.specs.Prelude.{◌≡◌, ◌≤◌, Result, Ok, Err, IfOk, IfErr, IfSome, IsErr, List, Option, Some, None}
use Rattle.std.proofs.Common.{refl, rules}
use Rattle.uvl_base.specs.declared.place.Place.{Place}
use Rattle.uvl_base.specs.declared.fault.FaultKind.{FaultKind}
use Rattle.uvl_lexer.specs.declared.token.Token.{Token}
use Rattle.uvl_lexer.specs.TokenList.{IsTokenList}
use Rattle.uvl_ast.specs.declared.file.File.{File}
use Rattle.uvl_ast.specs.declared.feature.Feature.{Feature}
use Rattle.uvl_ast.specs.Depth.{depth_of}
use Rattle.uvl_ast.specs.Members.{EachGroupHasMembers}
use Rattle.uvl_ast.specs.Nesting.{EachValueNests}
use Rattle.uvl_ast.specs.Rules.{EachRule}
use Rattle.uvl_ast.specs.Nodes.{nodes_of}
use Rattle.uvl_ast.specs.Texts.{EachTextIsQuotable}
use Rattle.uvl_ast.specs.Operands.{right_operands}
use Rattle.uvl_parser.specs.declared.fault.ParseFault.{ParseFault}
use Rattle.uvl_parser.specs.declared.fault.ParseFault.TheVariants.{At, OutOfMemory}
use Rattle.uvl_parser.specs.Parsing.{IsParsedAs, IsRefusedAt, OnFault}
use Rattle.uvl_grammar.proofs.Quoted.{file_quoted}
use Rattle.uvl_faults.proofs.Shallow.{IsShallow, file_shallow}
use Rattle.uvl_parser.proofs.Once.{never_both}
use Rattle.uvl_faults.proofs.Nodes.Trees.{file_few}
use Rattle.uvl_faults.proofs.Members.{within_depth, within_members}
use Rattle.uvl_faults.proofs.Nesting.Files.{file_nested, file_grouped}

module _ (tokens : List Token) where
  abbrev Refuses : ParseFault → Type 0
  Refuses fault = OnFault fault (λ place kind. IsRefusedAt tokens place kind)

  fault_of : (f : File) → IsParsedAs tokens f → (fault : ParseFault) → Refuses fault → fault ≡ OutOfMemory
  fault_of f parsed (At place kind) refused = absurd (never_both tokens f parsed place kind refused)
  fault_of f parsed OutOfMemory refused = refl

  pub never_refused : (f : File) → IsParsedAs tokens f → (r : Result File ParseFault) → IfErr r Refuses → IfErr r (λ fault. fault ≡ OutOfMemory)
  never_refused f parsed (Ok g) told = tt
  never_refused f parsed (Err fault) told = fault_of f parsed fault told

  pub never_read : (place : Place) (kind : FaultKind) → IsRefusedAt tokens place kind → (r : Result File ParseFault)
      → IfOk r (λ f. IsParsedAs tokens f) → IsErr r
  never_read place kind refused (Ok f) told = absurd (never_both tokens f told place kind refused)
  never_read place kind refused (Err fault) told = search rules

  pub root_depth : (root : Option Feature) → IsShallow root → IfSome root (λ root. depth_of root ≤ 64)
  root_depth None shallow = tt
  root_depth (Some root) shallow = within_depth 64 shallow.0 root shallow.1

  root_members : (root : Option Feature) → IsShallow root → IfSome root EachGroupHasMembers
  root_members None shallow = tt
  root_members (Some root) shallow = within_members 64 shallow.0 root shallow.1

  pub shallow : (r : Result File ParseFault) → IfOk r (λ f. IsParsedAs tokens f) → IfOk r (λ f. IfSome f.root (λ root. depth_of root ≤ 64))
  shallow (Ok f) told = root_depth f.root (file_shallow tokens f told.spelled told.unnamed)
  shallow (Err fault) told = tt

  pub members : (r : Result File ParseFault) → IfOk r (λ f. IsParsedAs tokens f) → IfOk r (λ f. IfSome f.root EachGroupHasMembers)
  members (Ok f) told = root_members f.root (file_shallow tokens f told.spelled told.unnamed)
  members (Err fault) told = tt

  pub nested : (r : Result File ParseFault) → IfOk r (λ f. IsParsedAs tokens f) → IfOk r (λ f. IfSome f.root (EachValueNests 127))
  nested (Ok f) told = file_nested tokens f told.spelled told.unnamed
  nested (Err fault) told = tt

  pub grouped : (r : Result File ParseFault) → IfOk r (λ f. IsParsedAs tokens f) → IfOk r (EachRule (λ rule. right_operands rule ≤ 516))
  grouped (Ok f) told = file_grouped tokens f told.spelled told.unnamed
  grouped (Err fault) told = tt

  pub nodes : (r : Result File ParseFault) → IfOk r (λ f. IsParsedAs tokens f) → IfOk r (EachRule (λ rule. nodes_of rule ≤ 8192))
  nodes (Ok f) told = file_few tokens f told.spelled told.unnamed
  nodes (Err fault) told = tt

  pub texts : IsTokenList tokens → (r : Result File ParseFault) → IfOk r (λ f. IsParsedAs tokens f) → IfOk r (λ f. IfSome f.root EachTextIsQuotable)
  texts list (Ok f) told = file_quoted tokens f list told.spelled
  texts list (Err fault) told = tt
