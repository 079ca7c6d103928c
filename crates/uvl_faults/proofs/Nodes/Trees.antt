-- Every rule of a file without named faults has at most 8,192 nodes.
use Rattle.std.specs.Prelude.{◌≡◌, ℕ, zero, suc, ◌+◌, ◌≤◌, List, [], ◌∷◌, ◌++◌, map, Option}
use Rattle.std.specs.List.{All, flat_map}
use Rattle.std.proofs.Common.{refl, sym, subst, arith}
use Rattle.std.proofs.lemmas.List.Elements.{All-nil, All-append}
use Rattle.uvl_base.specs.declared.fault.FaultKind.TheVariants.{ExpressionTooLarge}
use Rattle.uvl_lexer.specs.declared.token.Token.{Token}
use Rattle.uvl_base.specs.declared.word.Word.TheVariants as word
use Rattle.uvl_ast.specs.declared.expression.Expr.{Expr}
use Rattle.uvl_ast.specs.declared.feature.Feature.{Feature, roll-Feature}
use Rattle.uvl_ast.specs.declared.feature.Group.{Group, roll-Group}
use Rattle.uvl_ast.specs.declared.feature.Feature.TheOpen.{Feature-F, Group-F}
use Rattle.uvl_ast.specs.declared.feature.Feature.TheFolds.{fold-roll-Feature, fold-roll-Group}
use Rattle.uvl_ast.specs.declared.file.File.{File}
use Rattle.uvl_ast.specs.Rules.{feature_rules, group_rules, all_rules, all_rules_of_group, all_rules_of_root, EachRule}
use Rattle.uvl_profile.specs.declared.section.Section.TheVariants.{Features}
use Rattle.uvl_grammar.specs.Shapes.{Spelling, OneOrMore, First, Body, No_body, Indented}
use Rattle.uvl_grammar.specs.Braces.{attributes_of, rules_of}
use Rattle.uvl_grammar.specs.Features.{SpellsGroup, Members, Line, FeatureWithin}
use Rattle.uvl_grammar.specs.Sections.{SpellsFeatures, No_features, Root}
use Rattle.uvl_grammar.specs.File.{Spells, A_file}
use Rattle.uvl_faults.specs.Named.{Large, NoneNamed}
use Rattle.uvl_faults.proofs.Walking.{walk, walk_append, Clear, clear_front, clear_back, in_line_append, in_line_of_body, LineBegins, next_line, Passes}
use Rattle.uvl_faults.proofs.Inline.{ref_inline, braces_inline, boolean_inline}
use Rattle.uvl_faults.proofs.Depths.{body_passes, group_passes}
use Rattle.uvl_faults.proofs.Sectioned.{Between, body_begins, closed, features_between}
use Rattle.uvl_faults.proofs.Shallow.{all_clear}
use Rattle.uvl_faults.proofs.Members.{repeated_all}
use Rattle.uvl_faults.proofs.Nodes.Limits.{too_many}
use Rattle.uvl_faults.proofs.Nodes.Lines.{HasFewNodes, constraints_few}
use Rattle.uvl_faults.proofs.Nodes.Entries.{braces_few}

-- ---- one step of the rules of a tree

pub rules_at : (r : Feature-F Feature Group) → all_rules (roll-Feature r) ≡ r.rules ++ flat_map (λ rules. rules) (map all_rules_of_group r.groups)
rules_at r = fold-roll-Feature (List Expr) (List Expr) feature_rules group_rules r

pub rules_in : (r : Group-F Feature Group) → all_rules_of_group (roll-Group r) ≡ flat_map (λ rules. rules) (map all_rules r.members)
rules_in r = fold-roll-Group (List Expr) (List Expr) feature_rules group_rules r

-- ---- features and groups

-- all rules of a tree are within the limit
abbrev TreeFew : Spelling Feature
TreeFew xs f = All HasFewNodes (all_rules f)

members_few : (ys : List Token) (members : List Feature) → OneOrMore TreeFew ys members → All HasFewNodes (flat_map (λ rules. rules) (map all_rules members))
members_few ys members (First {xs} {a} {items} r rs) =
    All-append HasFewNodes (all_rules a) (flat_map (λ rules. rules) (map all_rules items)) r
    (repeated_all HasFewNodes TreeFew all_rules (λ xs f few. few) rs)

group_few : (xs : List Token) (g : Group) → SpellsGroup TreeFew xs g → All HasFewNodes (all_rules_of_group g)
group_few xs g (Members {ys} newline indent dedent {front} {members} kind ends opens r closes) =
    subst (λ z. All HasFewNodes z) (sym (rules_in (record { kind = front.0; members = members; place = front.1 }))) (members_few ys members r)

groups_few : (zs : List Token) (groups : List Group) → Body (SpellsGroup TreeFew) zs groups
    → All HasFewNodes (flat_map (λ rules. rules) (map all_rules_of_group groups))
groups_few zs groups No_body = All-nil HasFewNodes
groups_few zs groups (Indented indent dedent opens (First {xs} {a} {items} r rs) closes) =
    All-append HasFewNodes (all_rules_of_group a) (flat_map (λ rules. rules) (map all_rules_of_group items)) (group_few xs a r)
    (repeated_all HasFewNodes (SpellsGroup TreeFew) all_rules_of_group group_few rs)

-- in each line of a tree, and in all below it
tree_passes : (d n : ℕ) → 1 ≤ n → Passes too_many (LineBegins Features n) (FeatureWithin d) TreeFew
tree_passes zero n some before ts f here clear spelled = absurd spelled
tree_passes (suc d) n some before ts f here clear (Line {bs} {xs} {ys} {zs} newline {r = name} {entries} {groups} said r braced ends below) =
    let whole = bs ++ xs ++ ys in
    let first = in_line_append bs xs (boolean_inline bs said) (ref_inline xs _ r) in
    let at = in_line_of_body Features n before whole here.part (in_line_append (bs ++ xs) ys first (braces_inline ys _ braced)) in
    let line = next_line Features n (walk before whole) newline at ends in
    let clear_ys = clear_back too_many before (bs ++ xs) ys (clear_front too_many before whole (newline ∷ zs) clear) in
    let few = braces_few n (walk before (bs ++ xs)) ys entries (in_line_of_body Features n before (bs ++ xs) here.part first) clear_ys braced in
    let group = group_passes too_many n (FeatureWithin d) TreeFew (tree_passes d (n + 2) (omega arith)) in
    let passed = body_passes too_many n some (SpellsGroup (FeatureWithin d)) (SpellsGroup TreeFew) group (newline ∷ walk before whole) zs groups line
    (clear_back too_many before whole (newline ∷ zs) clear).1 below in
    let node : Feature-F Feature Group = record { name = name; attributes = attributes_of entries; rules = rules_of entries; groups = groups } in (
      subst (λ z. All HasFewNodes z) (sym (rules_at node))
          (All-append HasFewNodes (rules_of entries) (flat_map (λ rules. rules) (map all_rules_of_group groups)) few (groups_few zs groups passed.0)),
      subst (LineBegins Features n) (sym (walk_append before whole (newline ∷ zs))) passed.1,
    )

-- ---- a file

root_few : (before fs : List Token) (root : Option Feature) → Between before → Clear too_many before fs → SpellsFeatures fs root
    → All HasFewNodes (all_rules_of_root root) × Between (walk before fs)
root_few before fs root between clear No_features = (All-nil HasFewNodes, between)
root_few before fs root between clear (Root t newline indent dedent {xs} {root = tree} is ends opens spelled closes) =
    let front = indent ∷ newline ∷ t ∷ before in
    let inner = body_begins before t word.Features Features is refl between newline indent ends opens in
    let clear_tree = (clear_front too_many before (t ∷ newline ∷ indent ∷ xs) (dedent ∷ []) clear).1.1.1 in
    let passed = tree_passes spelled.0 1 (omega arith) front xs tree inner clear_tree spelled.1 in (
      passed.0,
      subst Between (sym (walk_append before (t ∷ newline ∷ indent ∷ xs) (dedent ∷ []))) (closed Features (walk front xs) dedent passed.1.part closes),
    )

pub file_few : (tokens : List Token) (file : File) → Spells tokens file → ((k : ℕ) → NoneNamed tokens k) → EachRule HasFewNodes file
file_few tokens file (A_file {ns} {ls} {ms} {fs} {rs} finish {root} {rules} named included imported tree ruled is) none =
    let all = all_clear too_many ExpressionTooLarge (λ before t met. Large met) tokens file (A_file finish named included imported tree ruled is) none in
    let front = ns ++ ls ++ ms in
    let clear_all = clear_front too_many [] (front ++ fs ++ rs) (finish ∷ []) all in
    let clear_fs = clear_back too_many [] front fs (clear_front too_many [] (front ++ fs) rs clear_all) in
    let clear_rs = clear_back too_many [] (front ++ fs) rs clear_all in
    let between = features_between ns ls ms _ _ _ named included imported in
    let few = root_few (walk [] front) fs root between clear_fs tree in
    All-append HasFewNodes (all_rules_of_root root) rules few.0
    (constraints_few (walk [] (front ++ fs)) rs rules (subst Between (sym (walk_append [] front fs)) few.1) clear_rs ruled)
