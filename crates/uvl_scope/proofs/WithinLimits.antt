-- What lines and rules without fault bring is within the limits.
use Rattle.std.proofs.Common.{◌≡◌, ℕ, ◌+◌, ◌≤◌, Bool, true, false, List, [], ◌∷◌, ◌++◌, map, length, Option, Some, None, refl, sym, ap, ◌∙◌, subst, arith}
use Rattle.std.specs.Prelude.{◌||◌, ◌&&◌, nat_lt}
use Rattle.std.specs.List.{list_any}
use Rattle.std.specs.Str.{bytes_eq}
use Rattle.std.proofs.lemmas.Bool.{false≢true}
use Rattle.std.proofs.lemmas.List.{length-append}
use Rattle.uvl_base.specs.declared.fault.FaultKind.TheVariants.{TooManyRules}
use Rattle.uvl_base.specs.Limits.{most_features, most_depth}
use Rattle.uvl_ast.specs.declared.expression.Expr.{Expr}
use Rattle.uvl_ast.specs.declared.feature.Attribute.{Attribute}
use Rattle.uvl_ast.specs.Nodes.{nodes_of}
use Rattle.uvl_imports.specs.Texts.{AreDistinct}
use Rattle.uvl_placing.specs.Names.{dotted, front_of}
use Rattle.uvl_scope.specs.declared.scope.Scope.{Scope}
use Rattle.uvl_scope.specs.Brought.{Brought, Placing, nothing, together, placed, brought_at, brought_by, is_placing}
use Rattle.uvl_scope.specs.Firsts.{when, first_of}
use Rattle.uvl_scope.specs.LineFaults.{finding, fault_behind, fault_of_feature, are_too_many}
use Rattle.uvl_scope.specs.Limits.{most_rules, most_nodes}
use Rattle.uvl_scope.specs.Lines.{FeatureLine, Line, of_feature, of_group}
use Rattle.uvl_scope.specs.NumberFaults.{fault_inside}
use Rattle.uvl_scope.specs.RuleFaults.{fault_behind_rules}
use Rattle.uvl_scope.specs.Rules.{nodes_in, place_of}
use Rattle.uvl_scope.specs.steps.Walk.{fault_from, brought_from, fault_from_rules}
use Rattle.uvl_scope.proofs.Distinct.{eq-sym, has-append, has-under}
use Rattle.uvl_scope.proofs.NoFault.{neither, fails, fail_both, not_less, line_is_fine}
use Rattle.uvl_scope.proofs.Together.{together_none}
use Rattle.uvl_semantics.specs.Prefix.{prefixed_name}
use Rattle.uvl_semantics.specs.Product.{has}

-- what is brought is within the limits, and no name stands twice
pub record IsSmall (brought : Brought) : Type 0 where
  pub distinct : AreDistinct brought.names
  pub few : length brought.names ≤ most_features
  pub shallow : brought.depth ≤ most_depth
  pub few_rules : brought.rules ≤ most_rules
  pub few_nodes : brought.nodes ≤ most_nodes

pub nothing_small : IsSmall nothing
nothing_small = record { distinct = tt; few = omega arith; shallow = omega arith; few_rules = omega arith; few_nodes = omega arith }

-- distinct names under a qualifier are distinct
distinct-under : (qualifier : List ℕ) (names : List (List ℕ)) → AreDistinct names → AreDistinct (map (prefixed_name qualifier) names)
distinct-under qualifier [] h = tt
distinct-under qualifier (name ∷ names) h = (has-under qualifier names name ∙ h.0, distinct-under qualifier names h.1)

-- names of which none is the first of others, and none is behind it
none_first : (name : List ℕ) (names others : List (List ℕ)) → list_any (has (name ∷ names)) others ≡ false
    → (has others name ≡ false) × (list_any (has names) others ≡ false)
none_first name names [] h = (refl, refl)
none_first name names (other ∷ others) h =
    let here = fail_both (has (name ∷ names) other) (list_any (has (name ∷ names)) others) h in
    let parts = fail_both (bytes_eq other name) (has names other) here.0 in
    let rest = none_first name names others here.1 in (
      ap (λ (b : Bool). b || has others name) (eq-sym name other ∙ parts.0) ∙ rest.0,
      ap (λ (b : Bool). b || list_any (has names) others) parts.1 ∙ rest.1,
    )

-- distinct names behind distinct names
distinct-append : (names others : List (List ℕ)) → AreDistinct names → AreDistinct others → list_any (has names) others ≡ false → AreDistinct (names ++ others)
distinct-append [] others h k none = k
distinct-append (name ∷ names) others h k none =
    let rest = none_first name names others none in
    (has-append names others name h.0 rest.0, distinct-append names others h.1 k rest.1)

-- the files that references place have distinct names
abbrev pub PlacesDistinct : Placing → Type 0
PlacesDistinct placing = (parts : List (List ℕ)) (scope : Scope) → placing parts ≡ Some scope → AreDistinct scope.names

placed_distinct : (depth : ℕ) (qualifier : List ℕ) (scope : Option Scope) → ((found : Scope) → scope ≡ Some found → AreDistinct found.names)
    → AreDistinct (placed depth qualifier scope).names
placed_distinct depth qualifier None h = tt
placed_distinct depth qualifier (Some scope) h = distinct-under qualifier scope.names (h scope refl)

-- what a line brings alone
record BringsFew (parts : List (List ℕ)) (brought : Brought) : Type 0 where
  distinct : AreDistinct brought.names
  no_rules : is_placing parts ≡ false → brought.rules ≡ 0
  no_nodes : is_placing parts ≡ false → brought.nodes ≡ 0

brings_few : (placing : Placing) → PlacesDistinct placing → (depth : ℕ) (attributes : List Attribute) (parts : List (List ℕ)) → BringsFew parts (brought_at placing depth attributes parts)
brings_few placing distinct depth attributes [] = record {
  distinct = placed_distinct depth (dotted (front_of [])) (placing []) (distinct []);
  no_rules = λ is. absurd (false≢true (sym is));
  no_nodes = λ is. absurd (false≢true (sym is));
}
brings_few placing distinct depth attributes (name ∷ []) = record { distinct = (refl, tt); no_rules = λ is. refl; no_nodes = λ is. refl }
brings_few placing distinct depth attributes (part ∷ next ∷ parts) = record {
  distinct = placed_distinct depth (dotted (front_of (part ∷ next ∷ parts))) (placing (part ∷ next ∷ parts)) (distinct (part ∷ next ∷ parts));
  no_rules = λ is. absurd (false≢true (sym is));
  no_nodes = λ is. absurd (false≢true (sym is));
}

-- so many rules and nodes are not too many
few_enough : (rules nodes : ℕ) → are_too_many rules nodes ≡ false → (rules ≤ most_rules) × (nodes ≤ most_nodes)
few_enough rules nodes h =
    let parts = fail_both (nat_lt most_rules rules) (nat_lt most_nodes nodes) h in
    (not_less most_rules rules parts.0, not_less most_nodes nodes parts.1)

few_together : (before brought : Brought) (is_placed : Bool) → (is_placed && are_too_many (before.rules + brought.rules) (before.nodes + brought.nodes)) ≡ false
    → before.rules ≤ most_rules → before.nodes ≤ most_nodes → (is_placed ≡ false → brought.rules ≡ 0) → (is_placed ≡ false → brought.nodes ≡ 0)
    → (before.rules + brought.rules ≤ most_rules) × (before.nodes + brought.nodes ≤ most_nodes)
few_together before brought true h few_rules few_nodes no_rules no_nodes = few_enough (before.rules + brought.rules) (before.nodes + brought.nodes) h
few_together before brought false h few_rules few_nodes no_rules no_nodes = (omega (arith, few_rules, no_rules refl), omega (arith, few_nodes, no_nodes refl))

feature_small : (placing : Placing) (before brought : Brought) (line : FeatureLine) → BringsFew line.reference.parts brought → IsSmall before
    → fault_of_feature placing before brought line ≡ None → IsSmall (together before brought)
feature_small placing before brought line alone small h =
    let fine = line_is_fine placing before brought line h in
    let depths = fail_both (nat_lt most_depth line.depth) (nat_lt most_depth brought.depth) fine.shallow in
    let rules = few_together before brought (is_placing line.reference.parts) fine.few small.few_rules small.few_nodes alone.no_rules alone.no_nodes in
    let less : brought.depth ≤ most_depth = not_less most_depth brought.depth depths.1 in
    record {
      distinct = distinct-append before.names brought.names small.distinct alone.distinct fine.new;
      few = omega (arith, length-append before.names brought.names, not_less most_features (length before.names + length brought.names) fine.small);
      shallow = omega (arith, small.shallow, less);
      few_rules = rules.0;
      few_nodes = rules.1;
    }

line_small : (placing : Placing) → PlacesDistinct placing → (before : Brought) (line : Line) → IsSmall before → fault_behind placing before line ≡ None
    → IsSmall (together before (brought_by placing line))
line_small placing distinct before (of_group line) small h = subst IsSmall (sym (together_none before)) small
line_small placing distinct before (of_feature line) small h =
    feature_small placing before (brought_by placing (of_feature line)) line (brings_few placing distinct line.depth line.attributes line.reference.parts) small h

-- lines without fault bring what is within the limits
pub lines_small : (placing : Placing) → PlacesDistinct placing → (before : Brought) (lines : List Line) → IsSmall before → fault_from placing before lines ≡ None
    → IsSmall (brought_from placing before lines)
lines_small placing distinct before [] small h = small
lines_small placing distinct before (line ∷ lines) small h =
    let parts = neither (fault_behind placing before line) (fault_from placing (together before (brought_by placing line)) lines) h in
    lines_small placing distinct (together before (brought_by placing line)) lines (line_small placing distinct before line small parts.0) parts.1

-- so many rules without fault are within the limits
pub rules_small : (names : List (List ℕ)) (attributes : List (List Attribute)) (rules nodes : ℕ) (list : List Expr) → rules ≤ most_rules → nodes ≤ most_nodes → fault_from_rules names attributes rules nodes list ≡ None
    → (rules + length list ≤ most_rules) × (nodes + nodes_in list ≤ most_nodes)
rules_small names attributes rules nodes [] few light h = (omega (arith, few), omega (arith, light))
rules_small names attributes rules nodes (rule ∷ list) few light h =
    let parts = neither (fault_behind_rules names attributes rules nodes rule) (fault_from_rules names attributes (rules + 1) (nodes + nodes_of rule) list) h in
    let first = neither (when (are_too_many (rules + 1) (nodes + nodes_of rule)) (finding TooManyRules (place_of rule)))
    (first_of (fault_inside names attributes rule ∷ [])) parts.0 in
    let here = few_enough (rules + 1) (nodes + nodes_of rule) (fails (are_too_many (rules + 1) (nodes + nodes_of rule)) (finding TooManyRules (place_of rule)) first.0) in
    let rest = rules_small names attributes (rules + 1) (nodes + nodes_of rule) list here.0 here.1 parts.1 in
    let count : rules + length (rule ∷ list) ≤ most_rules = omega (arith, rest.0) in
    let sum : nodes + (nodes_of rule + nodes_in list) ≤ most_nodes = omega (arith, rest.1) in
    (count, sum)
