-- The walk over the lines of a file, line by line.
use Rattle.std.specs.Prelude.{◌≡◌, ⊤, ℕ, ◌+◌, ◌≤◌, List, [], ◌∷◌, length, Option, Some, None, Result, Ok, Err}
use Rattle.std.specs.Option.{option_or}
use Rattle.uvl_base.specs.Limits.{most_features}
use Rattle.uvl_ast.specs.declared.expression.Expr.{Expr}
use Rattle.uvl_ast.specs.declared.feature.Attribute.{Attribute}
use Rattle.uvl_ast.specs.Nodes.{nodes_of}
use Rattle.uvl_scope.specs.declared.fault.FileFault.{FileFault}
use Rattle.uvl_scope.specs.declared.fault.FileFault.TheVariants as fault
use Rattle.uvl_scope.specs.declared.tally.Tally.{Tally}
use Rattle.uvl_scope.specs.Brought.{Brought, Placing, brought_by, together}
use Rattle.uvl_scope.specs.Limits.{most_rules, most_nodes}
use Rattle.uvl_scope.specs.LineFaults.{Finding, finding, fault_behind}
use Rattle.uvl_scope.specs.Lines.{Line}
use Rattle.uvl_scope.specs.RuleFaults.{fault_behind_rules}
use Rattle.uvl_scope.specs.Rules.{nodes_in}

-- what the lines so far brought
abbrev pub brought_of : Tally → Brought
brought_of tally = record {
  names = tally.names;
  attributes = tally.attributes;
  placed = tally.placed;
  depth = tally.depth;
  rules = tally.rules;
  nodes = tally.nodes;
}

-- what was brought is within the limits
pub record IsWithin (tally : Tally) : Type 0 where
  pub few : length tally.names ≤ most_features
  pub few_rules : tally.rules ≤ most_rules
  pub few_nodes : tally.nodes ≤ most_nodes

-- what is answered where this is found first: nothing where the call succeeds, else the finding
abbrev pub IsFound : {A : Type 0} → Option Finding → Result A FileFault → Type 0
IsFound found (Ok value) = found ≡ None
IsFound found (Err (fault.At place kind)) = found ≡ Some (finding kind place)
IsFound found (Err fault.OutOfMemory) = ⊤

-- the first fault of lines, behind what was brought
abbrev pub fault_from : Placing → Brought → List Line → Option Finding
fault_from placing before [] = None
fault_from placing before (line ∷ lines) =
    option_or (fault_behind placing before line) (fault_from placing (together before (brought_by placing line)) lines)

-- the first fault of rules, behind so many rules with so many nodes
abbrev pub fault_from_rules :
    List (List ℕ) → List (List Attribute) → (rules nodes : ℕ) → List Expr → Option Finding
fault_from_rules names attributes rules nodes [] = None
fault_from_rules names attributes rules nodes (rule ∷ others) =
    option_or (fault_behind_rules names attributes rules nodes rule)
    (fault_from_rules names attributes (rules + 1) (nodes + nodes_of rule) others)

-- what was brought before, with what lines bring
abbrev pub brought_from : Placing → Brought → List Line → Brought
brought_from placing before [] = before
brought_from placing before (line ∷ lines) = brought_from placing (together before (brought_by placing line)) lines

-- rules are counted behind the others, and nothing else changes
pub record AddsRules (old new : Tally) (added : List Expr) : Type 0 where
  pub names : new.names ≡ old.names
  pub attributes : new.attributes ≡ old.attributes
  pub depth : new.depth ≡ old.depth
  pub rules : new.rules ≡ old.rules + length added
  pub nodes : new.nodes ≡ old.nodes + nodes_in added
  pub within : IsWithin new

-- the first fault of rules, behind those that are counted
abbrev pub fault_in_rules : Tally → List Expr → Option Finding
fault_in_rules tally rules = fault_from_rules tally.names tally.attributes tally.rules tally.nodes rules
