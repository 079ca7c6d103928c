-- The faults of a file and what is in scope in it, as the walk meets them.
use Rattle.std.proofs.Common.{◌≡◌, ℕ, List, [], ◌∷◌, ◌++◌, Option, Some, None, Result, Err, refl, sym, ap, ◌∙◌, subst}
use Rattle.std.specs.Option.{option_or}
use Rattle.std.proofs.Math.Path.{fun_ext}
use Rattle.uvl_ast.specs.declared.expression.Expr.{Expr}
use Rattle.uvl_ast.specs.declared.feature.Attribute.{Attribute}
use Rattle.uvl_ast.specs.declared.feature.Feature.{Feature}
use Rattle.uvl_ast.specs.Rules.{all_rules_of_root, all_rules, rules_of}
use Rattle.uvl_imports.specs.declared.file_set.Loaded.{Loaded}
use Rattle.uvl_ast.specs.declared.file.Import.{Import}
use Rattle.uvl_placing.specs.Names.{dotted, front_of, last_of, target_called}
use Rattle.uvl_scope.specs.declared.fault.FileFault.{FileFault}
use Rattle.uvl_scope.specs.declared.fault.FileFault.TheVariants as fault
use Rattle.uvl_scope.specs.declared.imports.Imports.{Imports}
use Rattle.uvl_scope.specs.declared.scope.Scope.{Scope}
use Rattle.uvl_scope.specs.declared.tally.Tally.{Tally}
use Rattle.uvl_scope.specs.Brought.{Brought, Placing, nothing, placed_scope, scope_at, with_root, brought_by_lines}
use Rattle.uvl_scope.specs.Faults.{missing_features, brought_in, fault_in_file, scope_of, scope_with}
use Rattle.uvl_scope.specs.Firsts.{first_of, first_along}
use Rattle.uvl_scope.specs.LineFaults.{Finding, fault_of_line}
use Rattle.uvl_scope.specs.Lines.{lines_from, lines_of}
use Rattle.uvl_scope.specs.RuleFaults.{fault_of_rule}
use Rattle.uvl_scope.specs.steps.Offers.{Calls, placed_by}
use Rattle.uvl_scope.specs.steps.Walk.{AddsRules, IsFound, brought_of, brought_from, fault_from, fault_from_rules, fault_in_rules}
use Rattle.uvl_scope.proofs.Together.{brought_all, first_of_lines, first_of_rules}
use Rattle.uvl_scope.proofs.Walked.{err_first}

-- what references place by the import lines, they place by what is looked up
pub placings_same : (scopes : List Scope) (imports : Imports) (loaded : Loaded) → Calls imports loaded.file.imports loaded.targets
    → placed_by scopes imports ≡ placed_scope scopes loaded
placings_same scopes imports loaded calls = fun_ext same
  where
    same : (parts : List (List ℕ)) → placed_by scopes imports parts ≡ placed_scope scopes loaded parts
    same [] = refl
    same (part ∷ parts) =
        ap (λ (target : Option ℕ). with_root (last_of (part ∷ parts)) (scope_at scopes target)) (calls (dotted (front_of (part ∷ parts))))

or_none : {A : Type 0} (answer : Option A) → option_or answer None ≡ answer
or_none None = refl
or_none (Some x) = refl

-- the faults of a file whose features section is this
abbrev faults_with : List Scope → Loaded → Option Feature → Option Finding
faults_with scopes loaded root = first_of (
    missing_features root loaded.file.finish
    ∷ first_along (fault_of_line (placed_scope scopes loaded)) [] (lines_of root)
    ∷ first_along (fault_of_rule (brought_by_lines (placed_scope scopes loaded) (lines_of root))) [] (rules_of loaded.file)
    ∷ []
    )

-- what its lines bring
abbrev pub brought_with : List Scope → Loaded → Feature → Brought
brought_with scopes loaded root = brought_by_lines (placed_scope scopes loaded) (lines_from root 1)

-- the fault of its lines, and that of rules behind them
abbrev pub lines_fault : List Scope → Loaded → Feature → Option Finding
lines_fault scopes loaded root = fault_from (placed_scope scopes loaded) nothing (lines_from root 1)

abbrev pub rules_fault : Brought → List Expr → Option Finding
rules_fault brought rules = fault_from_rules brought.names brought.attributes brought.rules brought.nodes rules

pub fault_is : (scopes : List Scope) (loaded : Loaded) (root : Feature) → loaded.file.root ≡ Some root
    → fault_in_file scopes loaded ≡ option_or (lines_fault scopes loaded root) (rules_fault (brought_with scopes loaded root) (rules_of loaded.file))
fault_is scopes loaded root is =
    ap (faults_with scopes loaded) is
    ∙ ap (λ (f : Option Finding). option_or f (option_or (first_along (fault_of_rule (brought_with scopes loaded root)) [] (rules_of loaded.file)) None))
    (first_of_lines (placed_scope scopes loaded) (lines_from root 1))
    ∙ ap (option_or (lines_fault scopes loaded root))
    (or_none (first_along (fault_of_rule (brought_with scopes loaded root)) [] (rules_of loaded.file))
    ∙ first_of_rules (brought_with scopes loaded root) (rules_of loaded.file))

-- without a features section
pub fault_missing : (scopes : List Scope) (loaded : Loaded) → loaded.file.root ≡ None
    → fault_in_file scopes loaded ≡ missing_features None loaded.file.finish
fault_missing scopes loaded is = ap (faults_with scopes loaded) is

-- the rules of a file with a features section
pub rules_are : (loaded : Loaded) (root : Feature) → loaded.file.root ≡ Some root → rules_of loaded.file ≡ all_rules root ++ loaded.file.rules
rules_are loaded root is = ap (λ (r : Option Feature). all_rules_of_root r ++ loaded.file.rules) is

-- a fault stands for itself, whatever else is answered
found_for : (A B : Type 0) (found : Option Finding) (e : FileFault) → IsFound {A = A} found (Err e) → IsFound {A = B} found (Err e)
found_for A B found (fault.At place kind) h = h
found_for A B found fault.OutOfMemory h = tt

-- what is found first of two things
stop_with : (A B : Type 0) (found more whole : Option Finding) (e : FileFault) (r : Result B FileFault) → r ≡ Err e → whole ≡ option_or found more
    → IsFound {A = A} found (Err e) → IsFound whole r
stop_with A B found more whole e r is sum h =
    subst (λ (x : Result B FileFault). IsFound whole x) (sym is)
    (subst (λ (f : Option Finding). IsFound {A = B} f (Err e)) (sym sum) (err_first B found more e (found_for A B found e h)))

abbrev of_parts : (names : List (List ℕ)) (attributes : List (List Attribute)) (depth rules nodes : ℕ) → Scope
of_parts names attributes depth rules nodes = record { names = names; attributes = attributes; depth = depth; rules = rules; nodes = nodes }

same_scope : (a b : Scope) → a.names ≡ b.names → a.attributes ≡ b.attributes → a.depth ≡ b.depth → a.rules ≡ b.rules → a.nodes ≡ b.nodes → a ≡ b
same_scope a b names attributes depth rules nodes =
    ap (λ (x : List (List ℕ)). of_parts x a.attributes a.depth a.rules a.nodes) names
    ∙ ap (λ (x : List (List Attribute)). of_parts b.names x a.depth a.rules a.nodes) attributes
    ∙ ap (λ (x : ℕ). of_parts b.names b.attributes x a.rules a.nodes) depth
    ∙ ap (λ (x : ℕ). of_parts b.names b.attributes b.depth x a.nodes) rules
    ∙ ap (λ (x : ℕ). of_parts b.names b.attributes b.depth b.rules x) nodes

-- the walk over the lines of a file begins
pub record Begun (scopes : List Scope) (loaded : Loaded) (root : Feature) (imports : Imports) (start : Brought) : Type 0 where
  pub root_is : loaded.file.root ≡ Some root
  pub placing : placed_by scopes imports ≡ placed_scope scopes loaded
  pub start_is : start ≡ nothing

pub begin : (scopes : List Scope) (loaded : Loaded) (root : Feature) (imports : Imports) (start : Brought) (lines : List Import) (targets : List ℕ)
    → loaded.file.root ≡ Some root → Calls imports lines targets → lines ≡ loaded.file.imports → targets ≡ loaded.targets → start ≡ nothing
    → Begun scopes loaded root imports start
begin scopes loaded root imports start lines targets root_is calls lines_are targets_are start_is = record {
  root_is = root_is;
  placing = placings_same scopes imports loaded (λ qualifier. calls qualifier
      ∙ ap (λ (ls : List Import). target_called qualifier ls targets) lines_are
      ∙ ap (target_called qualifier loaded.file.imports) targets_are);
  start_is = start_is;
}

module _ (scopes : List Scope) (loaded : Loaded) (root : Feature) (imports : Imports) (start : Brought) (begun : Begun scopes loaded root imports start) where
  -- what is found in the lines
  lines_met : fault_from (placed_by scopes imports) start (lines_from root 1) ≡ lines_fault scopes loaded root
  lines_met =
      ap (λ (p : Placing). fault_from p start (lines_from root 1)) begun.placing
      ∙ ap (λ (b : Brought). fault_from (placed_scope scopes loaded) b (lines_from root 1)) begun.start_is

  -- what they bring
  pub brought_met : (new : Brought) → new ≡ brought_from (placed_by scopes imports) start (lines_from root 1) → new ≡ brought_with scopes loaded root
  brought_met new is =
      is ∙ ap (λ (p : Placing). brought_from p start (lines_from root 1)) begun.placing
      ∙ ap (λ (b : Brought). brought_from (placed_scope scopes loaded) b (lines_from root 1)) begun.start_is
      ∙ brought_all (placed_scope scopes loaded) (lines_from root 1)

  -- what is found in the rules behind them
  rules_met : (tally : Tally) (lines : List Expr) → brought_of tally ≡ brought_with scopes loaded root → lines ≡ loaded.file.rules
      → fault_in_rules tally (all_rules root ++ lines) ≡ rules_fault (brought_with scopes loaded root) (rules_of loaded.file)
  rules_met tally lines is lines_are =
      ap (λ (b : Brought). rules_fault b (all_rules root ++ lines)) is
      ∙ ap (rules_fault (brought_with scopes loaded root)) (ap (λ (ls : List Expr). all_rules root ++ ls) lines_are ∙ sym (rules_are loaded root begun.root_is))

  -- a fault that is found in the lines is that of the file
  pub stop_in_lines : (A B : Type 0) (e : FileFault) (r : Result B FileFault) → r ≡ Err e
      → IsFound {A = A} (fault_from (placed_by scopes imports) start (lines_from root 1)) (Err e) → IsFound (fault_in_file scopes loaded) r
  stop_in_lines A B e r is h =
      stop_with A B (lines_fault scopes loaded root) (rules_fault (brought_with scopes loaded root) (rules_of loaded.file)) (fault_in_file scopes loaded) e r is
      (fault_is scopes loaded root begun.root_is) (subst (λ (f : Option Finding). IsFound {A = A} f (Err e)) lines_met h)

  -- behind lines without fault, one that is found in the rules is
  behind_lines : (tally : Tally) (lines : List Expr) → brought_of tally ≡ brought_with scopes loaded root → lines ≡ loaded.file.rules
      → fault_from (placed_by scopes imports) start (lines_from root 1) ≡ None → fault_in_file scopes loaded ≡ fault_in_rules tally (all_rules root ++ lines)
  behind_lines tally lines is lines_are none =
      fault_is scopes loaded root begun.root_is
      ∙ ap (λ (f : Option Finding). option_or f (rules_fault (brought_with scopes loaded root) (rules_of loaded.file))) (sym lines_met ∙ none)
      ∙ sym (rules_met tally lines is lines_are)

  pub stop_in_rules : (A B : Type 0) (tally : Tally) (lines : List Expr) (e : FileFault) (r : Result B FileFault) → brought_of tally ≡ brought_with scopes loaded root
      → lines ≡ loaded.file.rules → fault_from (placed_by scopes imports) start (lines_from root 1) ≡ None → r ≡ Err e
      → IsFound {A = A} (fault_in_rules tally (all_rules root ++ lines)) (Err e) → IsFound (fault_in_file scopes loaded) r
  stop_in_rules A B tally lines e r is lines_are none fails h =
      stop_with A B (fault_in_rules tally (all_rules root ++ lines)) None (fault_in_file scopes loaded) e r fails
      (behind_lines tally lines is lines_are none ∙ sym (or_none (fault_in_rules tally (all_rules root ++ lines)))) h

  -- nothing is found
  pub no_fault : (tally : Tally) (lines : List Expr) → brought_of tally ≡ brought_with scopes loaded root → lines ≡ loaded.file.rules
      → fault_from (placed_by scopes imports) start (lines_from root 1) ≡ None → fault_in_rules tally (all_rules root ++ lines) ≡ None
      → fault_in_file scopes loaded ≡ None
  no_fault tally lines is lines_are none fine = behind_lines tally lines is lines_are none ∙ fine

  -- the scope
  pub scope_is : (tally new : Tally) (lines : List Expr) (scope : Scope) → brought_of tally ≡ brought_with scopes loaded root → lines ≡ loaded.file.rules
      → AddsRules tally new (all_rules root ++ lines) → scope.names ≡ new.names → scope.attributes ≡ new.attributes → scope.depth ≡ new.depth → scope.rules ≡ new.rules → scope.nodes ≡ new.nodes
      → scope ≡ scope_of scopes loaded
  scope_is tally new lines scope is lines_are adds names attributes depth rules nodes =
      same_scope scope (scope_with (brought_of tally) (all_rules root ++ lines)) (names ∙ adds.names) (attributes ∙ adds.attributes) (depth ∙ adds.depth) (rules ∙ adds.rules) (nodes ∙ adds.nodes)
      ∙ ap (λ (b : Brought). scope_with b (all_rules root ++ lines)) (is ∙ sym brought_as)
      ∙ ap (scope_with (brought_in scopes loaded)) (ap (λ (ls : List Expr). all_rules root ++ ls) lines_are ∙ sym (rules_are loaded root begun.root_is))
    where
      brought_as : brought_in scopes loaded ≡ brought_with scopes loaded root
      brought_as = ap (λ (r : Option Feature). brought_by_lines (placed_scope scopes loaded) (lines_of r)) begun.root_is
