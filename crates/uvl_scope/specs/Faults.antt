-- What is wrong first in a set of files, and what is in scope in each. This project's own.
use Rattle.std.specs.Prelude.{◌≡◌, ⊤, ◌+◌, Bool, true, false, List, [], ◌∷◌, ◌++◌, length, Option, Some, None}
use Rattle.std.specs.List.{list_any}
use Rattle.std.specs.Option.{option_map}
use Rattle.uvl_base.specs.declared.fault.FaultKind.TheVariants.{MissingFeatures}
use Rattle.uvl_base.specs.declared.fault.ModelFault.{ModelFault}
use Rattle.uvl_base.specs.declared.place.Place.{Place}
use Rattle.uvl_ast.specs.declared.expression.Expr.{Expr}
use Rattle.uvl_ast.specs.declared.feature.Feature.{Feature}
use Rattle.uvl_ast.specs.Rules.{rules_of}
use Rattle.uvl_imports.specs.declared.file_set.Loaded.{Loaded}
use Rattle.uvl_scope.specs.declared.fault.ScopeFault.{ScopeFault}
use Rattle.uvl_scope.specs.declared.fault.ScopeFault.TheVariants as cause
use Rattle.uvl_scope.specs.declared.scope.Scope.{Scope}
use Rattle.uvl_scope.specs.Brought.{Brought, placed_scope, brought_by_lines}
use Rattle.uvl_scope.specs.Firsts.{first_of, first_along}
use Rattle.uvl_scope.specs.LineFaults.{Finding, finding, fault_of_line}
use Rattle.uvl_scope.specs.Lines.{lines_of}
use Rattle.uvl_scope.specs.RuleFaults.{fault_of_rule}
use Rattle.uvl_scope.specs.Rules.{has_numbers, nodes_in}

-- a file without a features section has a fault at its end
abbrev pub missing_features : Option Feature → Place → Option Finding
missing_features None finish = Some (finding MissingFeatures finish)
missing_features (Some root) finish = None

-- what the lines of a file bring, where the scopes are those of the files in front
abbrev pub brought_in : List Scope → Loaded → Brought
brought_in scopes loaded = brought_by_lines (placed_scope scopes loaded) (lines_of loaded.file.root)

-- The first fault in a file: that it has no features section, that of a line of it, each met with the lines in front,
-- or that of a rule, each met with the rules in front.
abbrev pub fault_in_file : List Scope → Loaded → Option Finding
fault_in_file scopes loaded = first_of (
    missing_features loaded.file.root loaded.file.finish
    ∷ first_along (fault_of_line (placed_scope scopes loaded)) [] (lines_of loaded.file.root)
    ∷ first_along (fault_of_rule (brought_in scopes loaded)) [] (rules_of loaded.file)
    ∷ []
    )

-- a file's scope, by what its lines bring and by its own rules
abbrev pub scope_with : Brought → List Expr → Scope
scope_with brought rules = record {
  names = brought.names;
  attributes = brought.attributes;
  depth = brought.depth;
  rules = brought.rules + length rules;
  nodes = brought.nodes + nodes_in rules;
}

-- What is in scope in a file: the names of its placed tree in document order with the attributes beside them, the depth
-- of that tree, and how many rules and nodes of rules there are, those of placed files with them. The scopes are those
-- of the files in front.
abbrev pub scope_of : List Scope → Loaded → Scope
scope_of scopes loaded = scope_with (brought_in scopes loaded) (rules_of loaded.file)

-- the scopes of files behind those of the files in front
abbrev pub scopes_behind : List Scope → List Loaded → List Scope
scopes_behind scopes [] = scopes
scopes_behind scopes (loaded ∷ others) = scopes_behind (scopes ++ scope_of scopes loaded ∷ []) others

-- the scopes of the files of a set, in their order
abbrev pub scopes_of : List Loaded → List Scope
scopes_of files = scopes_behind [] files

-- a fault of a file names it by its path
abbrev pub in_file : Loaded → Finding → ModelFault
in_file loaded found = record { file = loaded.path; place = found.place; kind = found.kind }

-- the fault of a file, with the files in front
abbrev pub fault_of_file : List Loaded → Loaded → Option ModelFault
fault_of_file front loaded = option_map (in_file loaded) (fault_in_file (scopes_of front) loaded)

-- the first fault of files: that of the first file that has one
abbrev pub first_fault : List Loaded → Option ModelFault
first_fault files = first_along fault_of_file [] files

-- some rule of some file has a literal, a sum, arithmetic or a comparison
abbrev pub have_numbers : List Loaded → Bool
have_numbers files = list_any (λ loaded. list_any has_numbers (rules_of loaded.file)) files

-- a set of files has this fault, and none in front of it
abbrev pub HasFirstFault : List Loaded → ModelFault → Type 0
HasFirstFault files fault = first_fault files ≡ Some fault

-- nothing is wrong with a set of files
abbrev pub HasNoFault : List Loaded → Type 0
HasNoFault files = first_fault files ≡ None

-- nothing is wrong, and no rule speaks of numbers
pub record IsAccepted (files : List Loaded) : Type 0 where
  pub no_fault : HasNoFault files
  pub no_numbers : have_numbers files ≡ false

-- nothing is wrong, and some rule speaks of numbers, of which nothing is built yet
pub record IsNotBuilt (files : List Loaded) : Type 0 where
  pub no_fault : HasNoFault files
  pub numbers : have_numbers files ≡ true

-- why a set has no scopes; want of memory may stand for any cause
abbrev pub IsCauseOf : List Loaded → ScopeFault → Type 0
IsCauseOf files (cause.Model fault) = HasFirstFault files fault
IsCauseOf files cause.OutOfMemory = ⊤
