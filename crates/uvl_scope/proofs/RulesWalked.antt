-- Rules one after another.
use Rattle.std.proofs.Common.{◌≡◌, ℕ, ◌+◌, List, [], ◌∷◌, ◌++◌, length, map, Option, None, Result, Err, refl, sym, ap, ◌∙◌, subst, arith}
use Rattle.std.specs.List.{flat_map}
use Rattle.std.specs.Option.{option_or}
use Rattle.std.proofs.lemmas.List.{length-append}
use Rattle.uvl_ast.specs.declared.expression.Expr.{Expr}
use Rattle.uvl_ast.specs.declared.feature.Feature.{Feature, out-Feature}
use Rattle.uvl_ast.specs.declared.feature.Feature.TheFolds.{fold_out-Feature, fold_out-Group}
use Rattle.uvl_ast.specs.declared.feature.Group.{Group, out-Group}
use Rattle.uvl_ast.specs.declared.feature.Attribute.{Attribute}
use Rattle.uvl_ast.specs.Nodes.{nodes_of}
use Rattle.uvl_ast.specs.Rules.{feature_rules, group_rules, all_rules, all_rules_of_group}
use Rattle.uvl_scope.specs.declared.fault.FileFault.{FileFault}
use Rattle.uvl_scope.specs.declared.tally.Tally.{Tally}
use Rattle.uvl_scope.specs.LineFaults.{Finding}
use Rattle.uvl_scope.specs.RuleFaults.{fault_behind_rules}
use Rattle.uvl_scope.specs.Rules.{nodes_in}
use Rattle.uvl_scope.specs.steps.Walk.{IsFound, IsWithin, AddsRules, fault_from_rules, fault_in_rules}
use Rattle.uvl_scope.proofs.InOrder.{or_assoc}
use Rattle.uvl_scope.proofs.Walked.{err_first}

-- the rules in braces from a feature on
pub rules_at : (line : Feature) → all_rules line ≡ (out-Feature line).rules ++ flat_map (λ (rules : List Expr). rules) (map all_rules_of_group (out-Feature line).groups)
rules_at line = fold_out-Feature (List Expr) (List Expr) feature_rules group_rules line

pub rules_in : (written : Group) → all_rules_of_group written ≡ flat_map (λ (rules : List Expr). rules) (map all_rules (out-Group written).members)
rules_in written = fold_out-Group (List Expr) (List Expr) feature_rules group_rules written

pub nodes-append : (front rest : List Expr) → nodes_in (front ++ rest) ≡ nodes_in front + nodes_in rest
nodes-append [] rest = omega arith
nodes-append (rule ∷ front) rest =
    let e : nodes_of rule + nodes_in (front ++ rest) ≡ (nodes_of rule + nodes_in front) + nodes_in rest = omega (arith, nodes-append front rest) in e

fault-append : (names : List (List ℕ)) (attributes : List (List Attribute)) (rules nodes : ℕ) (front rest : List Expr)
    → fault_from_rules names attributes rules nodes (front ++ rest)
    ≡ option_or (fault_from_rules names attributes rules nodes front) (fault_from_rules names attributes (rules + length front) (nodes + nodes_in front) rest)
fault-append names attributes rules nodes [] rest =
    let r : rules ≡ rules + length {A = Expr} [] = omega arith in
    let n : nodes ≡ nodes + nodes_in [] = omega arith in
    ap (λ (k : ℕ). fault_from_rules names attributes k nodes rest) r ∙ ap (λ (k : ℕ). fault_from_rules names attributes (rules + length {A = Expr} []) k rest) n
fault-append names attributes rules nodes (rule ∷ front) rest =
    let r : (rules + 1) + length front ≡ rules + length (rule ∷ front) = omega arith in
    let m : (nodes + nodes_of rule) + nodes_in front ≡ nodes + (nodes_of rule + nodes_in front) = omega arith in
    let n : (nodes + nodes_of rule) + nodes_in front ≡ nodes + nodes_in (rule ∷ front) = m in
    ap (option_or (fault_behind_rules names attributes rules nodes rule))
    (fault-append names attributes (rules + 1) (nodes + nodes_of rule) front rest
    ∙ ap (λ (k : ℕ). option_or (fault_from_rules names attributes (rules + 1) (nodes + nodes_of rule) front) (fault_from_rules names attributes k ((nodes + nodes_of rule) + nodes_in front) rest)) r
    ∙ ap (λ (k : ℕ). option_or (fault_from_rules names attributes (rules + 1) (nodes + nodes_of rule) front) (fault_from_rules names attributes (rules + length (rule ∷ front)) k rest)) n)
    ∙ sym (or_assoc (fault_behind_rules names attributes rules nodes rule) (fault_from_rules names attributes (rules + 1) (nodes + nodes_of rule) front)
    (fault_from_rules names attributes (rules + length (rule ∷ front)) (nodes + nodes_in (rule ∷ front)) rest))

-- behind rules that are counted
counted : (here new : Tally) (front rest : List Expr) → AddsRules here new front
    → fault_in_rules here (front ++ rest) ≡ option_or (fault_in_rules here front) (fault_in_rules new rest)
counted here new front rest adds =
    fault-append here.names here.attributes here.rules here.nodes front rest
    ∙ ap (λ (k : ℕ). option_or (fault_in_rules here front) (fault_from_rules here.names here.attributes k (here.nodes + nodes_in front) rest)) (sym adds.rules)
    ∙ ap (λ (k : ℕ). option_or (fault_in_rules here front) (fault_from_rules here.names here.attributes new.rules k rest)) (sym adds.nodes)
    ∙ ap (λ (ns : List (List ℕ)). option_or (fault_in_rules here front) (fault_from_rules ns here.attributes new.rules new.nodes rest)) (sym adds.names)
    ∙ ap (λ (own : List (List Attribute)). option_or (fault_in_rules here front) (fault_from_rules new.names own new.rules new.nodes rest)) (sym adds.attributes)

pub adds_append : (old mid new : Tally) (front rest : List Expr) → AddsRules old mid front → AddsRules mid new rest → AddsRules old new (front ++ rest)
adds_append old mid new front rest h k = record {
  names = k.names ∙ h.names;
  attributes = k.attributes ∙ h.attributes;
  depth = k.depth ∙ h.depth;
  rules = omega (arith, h.rules, k.rules, length-append front rest);
  nodes = omega (arith, h.nodes, k.nodes, nodes-append front rest);
  within = k.within;
}

pub adds_none : (tally : Tally) → IsWithin tally → AddsRules tally tally []
adds_none tally within = record { names = refl; attributes = refl; depth = refl; rules = omega arith; nodes = omega arith; within = within }

-- all rules are those in front, which are counted, and those that are left
pub record RulesGoOn (start here : Tally) (all rest : List Expr) : Type 0 where
  pub within : IsWithin here
  pub fault : fault_in_rules start all ≡ fault_in_rules here rest
  pub add : (end : Tally) → AddsRules here end rest → AddsRules start end all

pub rules_begin : (start : Tally) (all : List Expr) → IsWithin start → RulesGoOn start start all all
rules_begin start all within = record { within = within; fault = refl; add = λ end h. h }

pub rules_step : (start here new : Tally) (all front rest : List Expr) → RulesGoOn start here all (front ++ rest) → fault_in_rules here front ≡ None
    → AddsRules here new front → RulesGoOn start new all rest
rules_step start here new all front rest go none adds = record {
  within = adds.within;
  fault = go.fault ∙ counted here new front rest adds ∙ ap (λ (f : Option Finding). option_or f (fault_in_rules new rest)) none;
  add = λ end h. go.add end (adds_append here new end front rest adds h);
}

pub rules_end : (start here : Tally) (all : List Expr) → RulesGoOn start here all [] → AddsRules start here all
rules_end start here all go = go.add here (adds_none here go.within)

pub rules_stop : {A : Type 0} (start here : Tally) (all front rest : List Expr) (r : Result A FileFault) (e : FileFault) → RulesGoOn start here all (front ++ rest) → r ≡ Err e
    → IsFound {A = A} (fault_in_rules here front) (Err e) → IsFound (fault_in_rules start all) r
rules_stop {A} start here all front rest r e go is h =
    subst (λ (x : Result A FileFault). IsFound (fault_in_rules start all) x) (sym is)
    (subst (λ (f : Option Finding). IsFound {A = A} f (Err e)) (sym (go.fault ∙ fault-append here.names here.attributes here.rules here.nodes front rest))
    (err_first A (fault_in_rules here front) (fault_from_rules here.names here.attributes (here.rules + length front) (here.nodes + nodes_in front) rest) e h))

-- the rest behind a front without fault
pub rules_found : {A : Type 0} (here new : Tally) (front rest : List Expr) (r : Result A FileFault) → AddsRules here new front → fault_in_rules here front ≡ None
    → IsFound (fault_in_rules new rest) r → IsFound (fault_in_rules here (front ++ rest)) r
rules_found {A} here new front rest r adds none h =
    subst (λ (f : Option Finding). IsFound f r)
    (sym (counted here new front rest adds ∙ ap (λ (f : Option Finding). option_or f (fault_in_rules new rest)) none)) h
