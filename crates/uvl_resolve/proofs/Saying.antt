-- Rules that say constraints, one after another.
use Rattle.std.proofs.Common.{◌≡◌, ℕ, ◌+◌, ◌-◌, ◌<◌, ◌≤◌, List, [], ◌∷◌, ◌++◌, length, map, Option, Some, None, refl, sym, ap, ◌∙◌, subst, arith, get_or}
use Rattle.std.specs.List.{All, flat_map}
use Rattle.std.specs.Option.{option_map}
use Rattle.std.proofs.lemmas.List.{append_assoc, append-nil, map-append}
use Rattle.std.proofs.lemmas.List.Elements.{All-nil, All-cons, All-append, All-from_recursion, recursion_from_All}
use Rattle.std.proofs.lemmas.Option.{slice_get-get_or, slice_get_within}
use Rattle.uvl_ast.specs.declared.expression.Expr.{Expr}
use Rattle.uvl_ast.specs.declared.feature.Feature.{Feature, out-Feature}
use Rattle.uvl_ast.specs.declared.feature.Feature.TheFolds.{fold_out-Feature, fold_out-Group}
use Rattle.uvl_ast.specs.declared.feature.Group.{Group, out-Group}
use Rattle.uvl_ast.specs.Rules.{all_rules, all_rules_of_group, feature_rules, group_rules}
use Rattle.uvl_model.specs.declared.rule.Rule.{Rule}
use Rattle.uvl_model.specs.Constraints as model
use Rattle.uvl_model.specs.Heads.{head_of_row}
use Rattle.uvl_model.specs.Rules.{IsRule}
use Rattle.uvl_placing.specs.Constraints.{constraints_of_rules}
use Rattle.uvl_placing.specs.Meaning.{constraint_of}
use Rattle.uvl_placing.specs.Options.{all_of, of_both}
use Rattle.uvl_resolve.specs.Under.{constraint_under, head_under}
use Rattle.uvl_resolve.specs.steps.Rules.{IsPlain, Says, SaysRules, StandAt, made_of, names_of_heads, root_of}
use Rattle.uvl_resolve.proofs.Parts.{front_all, rest_all}
use Rattle.uvl_resolve.proofs.Reading.{may_be_rule, rule_read}
use Rattle.uvl_resolve.proofs.Standing.{stand_within}
use Rattle.uvl_resolve.proofs.UnderTexts.{constraint_longer, longer}
use Rattle.uvl_semantics.specs.Constraint.{Constraint}
use Rattle.uvl_semantics.specs.Prefix.{prefixed_constraint}
use Rattle.uvl_semantics.specs.Tree.{Head}

-- one list behind the other
abbrev pub behind_each_other : List Constraint → List Constraint → List Constraint
behind_each_other own others = own ++ others

module _ (heads : List Head) (offset : ℕ) where
  pub nothing_said : (rules : List Rule) → Says heads offset rules rules (Some [])
  nothing_said rules = record {
    added = [];
    behind = sym (append-nil rules);
    said = [];
    are = refl;
    read = λ all text stands. refl;
    may_be = λ rows text among. All-nil (IsRule rows);
  }

  pub one_said : (e : Expr) (made : Rule) (old new : List Rule) → IsPlain heads e → made_of (names_of_heads heads) offset e ≡ Some made → new ≡ old ++ made ∷ []
      → SaysRules heads offset old new (e ∷ [])
  one_said e made old new plain is pushed =
      let reads = rule_read heads offset plain.some e plain.no_fault in
      let same : reads.made ≡ made = some_same (sym reads.is ∙ is) in
      record {
        added = made ∷ [];
        behind = pushed;
        said = reads.said ∷ [];
        are = ap (λ (c : Option Constraint). all_of (c ∷ [])) reads.says;
        read = λ all text stands.
            ap (λ (m : Rule). model.constraint_of (names_of_heads all) m ∷ []) (sym same) ∙ ap (λ (c : Constraint). c ∷ []) (reads.read all text stands);
        may_be = λ rows text among.
            All-cons (IsRule rows) made [] (subst (IsRule rows) same (may_be_rule heads offset plain.some e reads rows text among plain.few plain.shallow)) (All-nil (IsRule rows));
      }
    where
      some_same : {A : Type 0} {a b : A} → Some a ≡ Some b → a ≡ b
      some_same {A} {a} {b} h = cc

  pub both_said : (old mid new : List Rule) (first second : Option (List Constraint)) → Says heads offset old mid first → Says heads offset mid new second
      → Says heads offset old new (of_both behind_each_other first second)
  both_said old mid new first second h k = record {
    added = h.added ++ k.added;
    behind = k.behind ∙ ap (λ (rs : List Rule). rs ++ k.added) h.behind ∙ append_assoc old h.added k.added;
    said = h.said ++ k.said;
    are = ap (λ (f : Option (List Constraint)). of_both behind_each_other f second) h.are ∙ ap (of_both behind_each_other (Some h.said)) k.are;
    read = λ all text stands.
        map-append (model.constraint_of (names_of_heads all)) h.added k.added
        ∙ ap (λ (cs : List Constraint). cs ++ map (model.constraint_of (names_of_heads all)) k.added) (h.read all text stands)
        ∙ ap (λ (cs : List Constraint). map (constraint_under text) h.said ++ cs) (k.read all text stands)
        ∙ sym (map-append (constraint_under text) h.said k.said);
    may_be = λ rows text among. All-append (IsRule rows) h.added k.added (h.may_be rows text among) (k.may_be rows text among);
  }

-- the constraints of rules behind others
pub rules_append : (root : List ℕ) (front rest : List Expr)
    → constraints_of_rules root (front ++ rest) ≡ of_both behind_each_other (constraints_of_rules root front) (constraints_of_rules root rest)
rules_append root [] rest = none_in_front (constraints_of_rules root rest)
  where
    none_in_front : (c : Option (List Constraint)) → c ≡ of_both behind_each_other (Some []) c
    none_in_front None = refl
    none_in_front (Some c) = refl
rules_append root (e ∷ front) rest =
    ap (λ (c : Option (List Constraint)). of_both (λ value values. value ∷ values) (constraint_of root e) c) (rules_append root front rest)
    ∙ regroup (constraint_of root e) (constraints_of_rules root front) (constraints_of_rules root rest)
  where
    regroup : (c : Option Constraint) (a b : Option (List Constraint))
        → of_both (λ (value : Constraint) (values : List Constraint). value ∷ values) c (of_both behind_each_other a b)
        ≡ of_both behind_each_other (of_both (λ (value : Constraint) (values : List Constraint). value ∷ values) c a) b
    regroup None a b = refl
    regroup (Some c) None b = refl
    regroup (Some c) (Some a) None = refl
    regroup (Some c) (Some a) (Some b) = refl

-- all rules say what those in front say, which are there, with those that are left
pub record RulesGoOn (heads : List Head) (offset : ℕ) (start here : List Rule) (all rest : List Expr) : Type 0 where
  pub plain : All (IsPlain heads) rest
  pub add : (end : List Rule) → SaysRules heads offset here end rest → SaysRules heads offset start end all

pub rules_begin : (heads : List Head) (offset : ℕ) (start : List Rule) (all : List Expr) → All (IsPlain heads) all → RulesGoOn heads offset start start all all
rules_begin heads offset start all plain = record { plain = plain; add = λ end h. h }

pub rules_step : (heads : List Head) (offset : ℕ) (start here new : List Rule) (all front rest : List Expr) → RulesGoOn heads offset start here all (front ++ rest)
    → SaysRules heads offset here new front → RulesGoOn heads offset start new all rest
rules_step heads offset start here new all front rest go step = record {
  plain = All-from_recursion (IsPlain heads) rest (rest_all (IsPlain heads) front rest (recursion_from_All (IsPlain heads) (front ++ rest) go.plain));
  add = λ end h.
      go.add end (subst (Says heads offset here end) (sym (rules_append (root_of heads) front rest))
      (both_said heads offset here new end (constraints_of_rules (root_of heads) front) (constraints_of_rules (root_of heads) rest) step h));
}

pub rules_end : (heads : List Head) (offset : ℕ) (start here : List Rule) (all : List Expr) → RulesGoOn heads offset start here all []
    → SaysRules heads offset start here all
rules_end heads offset start here all go = go.add here (nothing_said heads offset here)

pub front_plain : (heads : List Head) (front rest : List Expr) → All (IsPlain heads) (front ++ rest) → All (IsPlain heads) front
front_plain heads front rest plain =
    All-from_recursion (IsPlain heads) front (front_all (IsPlain heads) front rest (recursion_from_All (IsPlain heads) (front ++ rest) plain))

pub rest_plain : (heads : List Head) (front rest : List Expr) → All (IsPlain heads) (front ++ rest) → All (IsPlain heads) rest
rest_plain heads front rest plain =
    All-from_recursion (IsPlain heads) rest (rest_all (IsPlain heads) front rest (recursion_from_All (IsPlain heads) (front ++ rest) plain))

-- both parts of rules
pub parts_said : (heads : List Head) (offset : ℕ) (old mid new : List Rule) (all front rest : List Expr) → all ≡ front ++ rest
    → SaysRules heads offset old mid front → SaysRules heads offset mid new rest → SaysRules heads offset old new all
parts_said heads offset old mid new all front rest split h k =
    subst (Says heads offset old new) (sym (ap (constraints_of_rules (root_of heads)) split ∙ rules_append (root_of heads) front rest))
    (both_said heads offset old mid new (constraints_of_rules (root_of heads) front) (constraints_of_rules (root_of heads) rest) h k)

-- rules of a placed file say their constraints under the qualifier
pub placed_said : (heads inner : List Head) (offset number : ℕ) (qualifier : List ℕ) (old new : List Rule) (constraints : Option (List Constraint))
    → StandAt heads number (qualifier ++ 46 ∷ []) inner → number + length inner ≤ length heads → Says inner (offset + number) old new constraints
    → Says heads offset old new (option_map (map (prefixed_constraint qualifier)) constraints)
placed_said heads inner offset number qualifier old new constraints stand room h = record {
  added = h.added;
  behind = h.behind;
  said = map (prefixed_constraint qualifier) h.said;
  are = ap (option_map (map (prefixed_constraint qualifier))) h.are;
  read = λ all text stands.
      h.read all (longer text qualifier) (stand_within all heads inner offset number text (qualifier ++ 46 ∷ []) stands stand) ∙ under text h.said;
  may_be = λ rows text among.
      h.may_be rows (longer text qualifier) (record {
        stand = stand_within (map head_of_row rows.features) heads inner offset number text (qualifier ++ 46 ∷ []) among.stand stand;
        few = among.few;
        distinct = among.distinct;
      });
}
  where
    under : (text : List ℕ) (said : List Constraint) → map (constraint_under (longer text qualifier)) said ≡ map (constraint_under text) (map (prefixed_constraint qualifier) said)
    under text [] = refl
    under text (c ∷ cs) =
        ap (λ (x : Constraint). x ∷ map (constraint_under (longer text qualifier)) cs) (sym (constraint_longer text qualifier c))
        ∙ ap (λ (xs : List Constraint). constraint_under text (prefixed_constraint qualifier c) ∷ xs) (under text cs)

-- features that stand among others from a number on are no more than are there from it on
pub stand_room : (all heads : List Head) (number : ℕ) (text : List ℕ) → StandAt all number text heads → 1 ≤ length heads → number + length heads ≤ length all
stand_room all heads number text stand some =
    let none : Head = record { name = []; attributes = [] } in
    let k : ℕ = length heads - 1 in
    let lt : k < length heads = omega (arith, some) in
    let there = stand k (get_or heads k none) (slice_get-get_or heads k none lt) in
    let within = slice_get_within all (number + k) (head_under text (get_or heads k none)) there in
    omega (arith, within, some)

-- the rules in braces from a feature on
pub rules_at : (line : Feature) → all_rules line ≡ (out-Feature line).rules ++ flat_map (λ (rules : List Expr). rules) (map all_rules_of_group (out-Feature line).groups)
rules_at line = fold_out-Feature (List Expr) (List Expr) feature_rules group_rules line

pub rules_in : (written : Group) → all_rules_of_group written ≡ flat_map (λ (rules : List Expr). rules) (map all_rules (out-Group written).members)
rules_in written = fold_out-Group (List Expr) (List Expr) feature_rules group_rules written
