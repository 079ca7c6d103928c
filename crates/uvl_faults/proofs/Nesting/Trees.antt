-- In a tree of features each value and each rule nests as deep as the brackets and `!` of its line do.
use Rattle.std.specs.Prelude.{◌≡◌, ℕ, zero, suc, ◌+◌, ◌*◌, ◌≤◌, List, [], ◌∷◌, ◌++◌, map}
use Rattle.std.specs.List.{All, flat_map}
use Rattle.std.proofs.Common.{refl, sym, ap, subst, arith}
use Rattle.std.proofs.lemmas.List.Elements.{All-nil, All-cons, All-head, All-tail, All-append, All-weaker}
use Rattle.uvl_lexer.specs.declared.token.Token.{Token}
use Rattle.uvl_base.specs.declared.word.Word.TheVariants as word
use Rattle.uvl_lexer.specs.declared.token.Symbol.TheVariants as symbol
use Rattle.uvl_ast.specs.declared.expression.Expr.{Expr}
use Rattle.uvl_ast.specs.declared.feature.Attribute.{Attribute}
use Rattle.uvl_ast.specs.declared.feature.Feature.{Feature, roll-Feature}
use Rattle.uvl_ast.specs.declared.feature.Group.{Group, roll-Group}
use Rattle.uvl_ast.specs.declared.feature.Feature.TheOpen.{Feature-F, Group-F}
use Rattle.uvl_ast.specs.declared.feature.Feature.TheFolds.{fold-roll-Feature, fold-roll-Group}
use Rattle.uvl_ast.specs.Nesting.{feature_attributes, group_attributes, all_attributes, all_attributes_of_group}
use Rattle.uvl_ast.specs.Rules.{feature_rules, group_rules, all_rules, all_rules_of_group}
use Rattle.uvl_grammar.specs.declared.entry.Entry.{Entry}
use Rattle.uvl_grammar.specs.declared.entry.Entry.TheVariants.{Plain, Rule, Rules}
use Rattle.uvl_grammar.specs.Tokens.{IsIndent, IsDedent, IsNewline}
use Rattle.uvl_grammar.specs.Shapes.{Spelling, Separated, Body, No_body, Indented}
use Rattle.uvl_grammar.specs.Expressions.{SpellsExpr}
use Rattle.uvl_grammar.specs.Braces.{attributes_of, rules_of, SpellsEntry, Attribute_entry, Constraint, Constraints, SpellsBraces, No_braces, Entries}
use Rattle.uvl_grammar.specs.Features.{SpellsBoolean, Not_said, Said, SpellsGroup, Members, SpellsFeature, Line, FeatureWithin}
use Rattle.uvl_profile.specs.Lines.{is_layout}
use Rattle.uvl_profile.specs.steps.Depth.{depth_around}
use Rattle.uvl_profile.specs.steps.Scan.{scopes_of}
use Rattle.uvl_faults.proofs.Walking.{walk, walk_append, clear_front, clear_back}
use Rattle.uvl_faults.proofs.Nesting.Tokens.{line_scopes, Inside, behind_word}
use Rattle.uvl_faults.proofs.Nesting.Limit.{over}
use Rattle.uvl_faults.proofs.Nesting.Shapes.{Leads, one_or_more_leads, separated_leads, bracketed}
use Rattle.uvl_faults.proofs.Nesting.Values.{AttributeNests, plain_leads}
use Rattle.uvl_faults.proofs.Nesting.Rules.{StandsWithin, behind_ref, expr_leads}

-- ---- entries

-- where m more make 128, an attribute has no more, and a rule four operators of truths in each and outside
abbrev EntryNests : ℕ → Entry → Type 0
EntryNests m (Plain a) = AttributeNests m a
EntryNests m (Rule e) = StandsWithin (4 * m + 4) e
EntryNests m (Rules es) = All (StandsWithin (4 * m + 4)) es

entry_leads : (m : ℕ) (bs : List ℕ) → 128 ≤ depth_around bs + m → Leads (Inside 0 bs) (Inside 0 bs) SpellsEntry (EntryNests m)
entry_leads m bs room before ts entry here clear (Attribute_entry {a} r) = plain_leads m bs room before ts a here clear r
entry_leads m bs room before ts entry here clear (Constraint t {xs} {e} is r) =
    expr_leads m bs room (t ∷ before) xs e (behind_word before t here word.Constraint is) clear.1 r
entry_leads m bs room before ts entry here clear (Constraints t left right {xs} {es} is opens r closes) =
    let inner = λ (b k : ℕ) (more : 128 ≤ depth_around (b ∷ bs) + k).
    separated_leads (b ∷ bs) SpellsExpr (StandsWithin (4 * k + 4)) (expr_leads k (b ∷ bs) more) in
    let found = bracketed (Separated SpellsExpr) (λ k items. All (StandsWithin (4 * k + 4)) items) 0 m bs (omega arith) inner
    symbol.LeftBracket symbol.RightBracket (λ b bs. refl) (λ c b bs. refl)
    (t ∷ before) xs left right es (behind_word before t here word.Constraints is) clear.1 opens r closes in
    let k = found.0.0 in
    let fewer : m ≡ suc k = found.0.1 in
    (All-weaker (StandsWithin (4 * k + 4)) (StandsWithin (4 * m + 4)) (λ e low. omega (arith, low, fewer)) es found.0.2, found.1)

attributes_nest : (m : ℕ) (entries : List Entry) → All (EntryNests m) entries → All (AttributeNests m) (attributes_of entries)
attributes_nest m [] each = All-nil (AttributeNests m)
attributes_nest m (Plain a ∷ entries) each =
    All-cons (AttributeNests m) a (attributes_of entries) (All-head (EntryNests m) (Plain a) entries each)
    (attributes_nest m entries (All-tail (EntryNests m) (Plain a) entries each))
attributes_nest m (Rule e ∷ entries) each = attributes_nest m entries (All-tail (EntryNests m) (Rule e) entries each)
attributes_nest m (Rules es ∷ entries) each = attributes_nest m entries (All-tail (EntryNests m) (Rules es) entries each)

rules_stand : (m : ℕ) (entries : List Entry) → All (EntryNests m) entries → All (StandsWithin (4 * m + 4)) (rules_of entries)
rules_stand m [] each = All-nil (StandsWithin (4 * m + 4))
rules_stand m (Plain a ∷ entries) each = rules_stand m entries (All-tail (EntryNests m) (Plain a) entries each)
rules_stand m (Rule e ∷ entries) each =
    All-cons (StandsWithin (4 * m + 4)) e (rules_of entries) (All-head (EntryNests m) (Rule e) entries each)
    (rules_stand m entries (All-tail (EntryNests m) (Rule e) entries each))
rules_stand m (Rules es ∷ entries) each =
    All-append (StandsWithin (4 * m + 4)) es (rules_of entries) (All-head (EntryNests m) (Rules es) entries each)
    (rules_stand m entries (All-tail (EntryNests m) (Rules es) entries each))

-- ---- braces

-- what is kept of the entries of a feature
abbrev ValuesNest : List Attribute → Type 0
ValuesNest attributes = All (AttributeNests 127) attributes

abbrev RulesStand : List Expr → Type 0
RulesStand rules = All (StandsWithin 516) rules

abbrev Kept : List Entry → Type 0
Kept entries = ValuesNest (attributes_of entries) × RulesStand (rules_of entries)

braces_lead : Leads (Inside 0 []) (Inside 0 []) SpellsBraces Kept
braces_lead before ts entries here clear No_braces = ((All-nil (AttributeNests 127), All-nil (StandsWithin 516)), here)
braces_lead before ts entries here clear (Entries left right {xs} opens r closes) =
    let inner = λ (b k : ℕ) (more : 128 ≤ depth_around (b ∷ []) + k).
    separated_leads (b ∷ []) SpellsEntry (EntryNests k) (entry_leads k (b ∷ []) more) in
    let found = bracketed (Separated SpellsEntry) (λ k items. All (EntryNests k) items) 0 128 [] (omega arith) inner
    symbol.LeftBrace symbol.RightBrace (λ b bs. refl) (λ c b bs. refl) before xs left right entries here clear opens r closes in
    let k = found.0.0 in
    let fewer : 128 ≡ suc k = found.0.1 in
    let attributes = attributes_nest k entries found.0.2 in
    let rules = rules_stand k entries found.0.2 in (
      (
        All-weaker (AttributeNests k) (AttributeNests 127) (λ a low. omega (arith, low, fewer)) (attributes_of entries) attributes,
        All-weaker (StandsWithin (4 * k + 4)) (StandsWithin 516) (λ e low. omega (arith, low, fewer)) (rules_of entries) rules,
      ),
      found.1,
    )

-- ---- one step of a tree

all_attributes_at : (r : Feature-F Feature Group) → all_attributes (roll-Feature r) ≡ r.attributes ++ flat_map (λ attributes. attributes) (map all_attributes_of_group r.groups)
all_attributes_at r = fold-roll-Feature (List Attribute) (List Attribute) feature_attributes group_attributes r

all_attributes_in : (r : Group-F Feature Group) → all_attributes_of_group (roll-Group r) ≡ flat_map (λ attributes. attributes) (map all_attributes r.members)
all_attributes_in r = fold-roll-Group (List Attribute) (List Attribute) feature_attributes group_attributes r

all_rules_at : (r : Feature-F Feature Group) → all_rules (roll-Feature r) ≡ r.rules ++ flat_map (λ rules. rules) (map all_rules_of_group r.groups)
all_rules_at r = fold-roll-Feature (List Expr) (List Expr) feature_rules group_rules r

all_rules_in : (r : Group-F Feature Group) → all_rules_of_group (roll-Group r) ≡ flat_map (λ rules. rules) (map all_rules r.members)
all_rules_in r = fold-roll-Group (List Expr) (List Expr) feature_rules group_rules r

-- what holds of all attributes and rules of a tree, and of those below a group
abbrev pub TreeNests : Feature → Type 0
TreeNests f = ValuesNest (all_attributes f) × RulesStand (all_rules f)

abbrev GroupNests : Group → Type 0
GroupNests g = ValuesNest (all_attributes_of_group g) × RulesStand (all_rules_of_group g)

-- what holds of all parts of each holds of the parts of all
flat_all : {A B : Type 0} (P : B → Type 0) (f : A → List B) (items : List A) → All (λ a. All P (f a)) items → All P (flat_map (λ parts. parts) (map f items))
flat_all P f [] each = All-nil P
flat_all P f (a ∷ items) each =
    All-append P (f a) (flat_map (λ parts. parts) (map f items)) (All-head (λ a. All P (f a)) a items each)
    (flat_all P f items (All-tail (λ a. All P (f a)) a items each))

module _ {A : Type 0} (attributes : A → List Attribute) (rules : A → List Expr) (items : List A)
    (each : All (λ a. ValuesNest (attributes a) × RulesStand (rules a)) items) where
  attributes_below : ValuesNest (flat_map (λ parts. parts) (map attributes items))
  attributes_below =
      flat_all (AttributeNests 127) attributes items
      (All-weaker (λ a. ValuesNest (attributes a) × RulesStand (rules a)) (λ a. ValuesNest (attributes a)) (λ a both. both.0) items each)

  rules_below : RulesStand (flat_map (λ parts. parts) (map rules items))
  rules_below =
      flat_all (StandsWithin 516) rules items
      (All-weaker (λ a. ValuesNest (attributes a) × RulesStand (rules a)) (λ a. RulesStand (rules a)) (λ a both. both.1) items each)

-- ---- lines

-- a line begins, and no bracket and no `!` in front of it counts
abbrev pub AtLine : List Token → Type 0
AtLine before = scopes_of before ≡ 0 ∷ []

pub at_newline : (before : List Token) (t : Token) → IsNewline t → AtLine (t ∷ before)
at_newline before t is = line_scopes before t (ap is_layout is)

pub at_indent : (before : List Token) (t : Token) → IsIndent t → AtLine (t ∷ before)
at_indent before t is = line_scopes before t (ap is_layout is)

pub at_dedent : (before : List Token) (t : Token) → IsDedent t → AtLine (t ∷ before)
at_dedent before t is = line_scopes before t (ap is_layout is)

-- what is indented below a line
pub body_leads : {A : Type 0} (R : Spelling A) (P : A → Type 0) → Leads AtLine AtLine R P → Leads AtLine AtLine (Body R) (All P)
body_leads R P step before ts items here clear No_body = (All-nil P, here)
body_leads R P step before ts items here clear (Indented indent dedent {xs} opens parts closes) =
    let front = indent ∷ before in
    let found = one_or_more_leads AtLine R P step front xs items (at_indent before indent opens) (clear_front over front xs (dedent ∷ []) clear.1) parts in
    (found.0, subst AtLine (sym (walk_append before (indent ∷ xs) (dedent ∷ []))) (at_dedent (walk front xs) dedent closes))

behind_boolean : (before xs : List Token) → Inside 0 [] before → SpellsBoolean xs → Inside 0 [] (walk before xs)
behind_boolean before xs here Not_said = here
behind_boolean before xs here (Said t is) = behind_word before t here word.Boolean is

-- ---- groups and features

module _ (Member : Spelling Feature) (step : Leads AtLine AtLine Member TreeNests) where
  group_leads : Leads AtLine AtLine (SpellsGroup Member) GroupNests
  group_leads before zs group here clear (Members {xs} {ys} newline indent dedent {front} {members} kind ends opens parts closes) =
      let behind = newline ∷ walk before xs in
      let inner = clear_front over before (xs ++ newline ∷ indent ∷ ys) (dedent ∷ []) clear in
      let clear_ys = (clear_back over before xs (newline ∷ indent ∷ ys) inner).1.1 in
      let found = one_or_more_leads AtLine Member TreeNests step (indent ∷ behind) ys members (at_indent behind indent opens) clear_ys parts in
      let r : Group-F Feature Group = record { kind = front.0; members = members; place = front.1 } in
      let attributes = subst ValuesNest (sym (all_attributes_in r)) (attributes_below all_attributes all_rules members found.0) in
      let rules = subst RulesStand (sym (all_rules_in r)) (rules_below all_attributes all_rules members found.0) in (
        (attributes, rules),
        subst AtLine (sym (walk_append before (xs ++ newline ∷ indent ∷ ys) (dedent ∷ [])))
            (at_dedent (walk before (xs ++ newline ∷ indent ∷ ys)) dedent closes),
      )

  feature_leads : Leads AtLine AtLine (SpellsFeature Member) TreeNests
  feature_leads before ts f here clear (Line {bs} {xs} {ys} {zs} newline {r = name} {entries} {groups} said named braced ends below) =
      let front = bs ++ xs ++ ys in
      let clear_line = clear_front over before front (newline ∷ zs) clear in
      let clear_name = clear_front over before (bs ++ xs) ys clear_line in
      let at_name = behind_boolean before bs (0, here, omega arith) said in
      let at_braces : Inside 0 [] (walk before (bs ++ xs)) =
      subst (Inside 0 []) (sym (walk_append before bs xs)) (behind_ref 0 [] (walk before bs) xs name at_name (clear_back over before bs xs clear_name) named) in
      let kept = braces_lead (walk before (bs ++ xs)) ys entries at_braces (clear_back over before (bs ++ xs) ys clear_line) braced in
      let behind = newline ∷ walk before front in
      let found = body_leads (SpellsGroup Member) GroupNests group_leads behind zs groups (at_newline (walk before front) newline ends)
      (clear_back over before front (newline ∷ zs) clear).1 below in
      let r : Feature-F Feature Group = record { name = name; attributes = attributes_of entries; rules = rules_of entries; groups = groups } in
      let attributes = subst ValuesNest (sym (all_attributes_at r))
      (All-append (AttributeNests 127) (attributes_of entries) _ kept.0.0 (attributes_below all_attributes_of_group all_rules_of_group groups found.0)) in
      let rules = subst RulesStand (sym (all_rules_at r))
      (All-append (StandsWithin 516) (rules_of entries) _ kept.0.1 (rules_below all_attributes_of_group all_rules_of_group groups found.0)) in
      ((attributes, rules), subst AtLine (sym (walk_append before front (newline ∷ zs))) found.1)

pub tree_leads : (d : ℕ) → Leads AtLine AtLine (FeatureWithin d) TreeNests
tree_leads zero before ts f here clear r = absurd r
tree_leads (suc d) before ts f here clear r = feature_leads (FeatureWithin d) (tree_leads d) before ts f here clear r
