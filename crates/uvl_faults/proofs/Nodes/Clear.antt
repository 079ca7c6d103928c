-- Where each rule of a file has at most 8,192 nodes, no node is one too many.
use Rattle.std.specs.Prelude.{ℕ, List, [], ◌∷◌, ◌++◌, map, Option, Some, None, IfSome}
use Rattle.std.specs.List.{All, flat_map}
use Rattle.std.proofs.Common.{refl, ap, subst, arith}
use Rattle.std.proofs.lemmas.List.Elements.{All-nil, All-cons}
use Rattle.uvl_lexer.specs.declared.token.Token.{Token}
use Rattle.uvl_ast.specs.declared.names.Ref.{Ref}
use Rattle.uvl_ast.specs.declared.feature.Feature.{Feature, roll-Feature}
use Rattle.uvl_ast.specs.declared.feature.Group.{Group, roll-Group}
use Rattle.uvl_ast.specs.declared.feature.Feature.TheOpen.{Feature-F, Group-F}
use Rattle.uvl_ast.specs.declared.file.File.{File}
use Rattle.uvl_ast.specs.Rules.{all_rules, all_rules_of_group, all_rules_of_root, EachRule}
use Rattle.uvl_profile.specs.declared.section.Section.TheVariants.{Include, Imports, Features, Constraints}
use Rattle.uvl_grammar.specs.declared.entry.Entry.{Entry}
use Rattle.uvl_grammar.specs.Refs.{SpellsRef}
use Rattle.uvl_grammar.specs.Braces.{rules_of, SpellsBraces}
use Rattle.uvl_grammar.specs.Groups.{GroupFront, SpellsKind}
use Rattle.uvl_grammar.specs.Features.{SpellsBoolean, SpellsTree}
use Rattle.uvl_grammar.specs.Sections.{SpellsNamespace, No_namespace, Namespace, SpellsLevel, Level, SpellsImport, Import_line, SpellsRule, Rule}
use Rattle.uvl_grammar.specs.File.{Spells}
use Rattle.uvl_profile.specs.Lines.{is_layout}
use Rattle.uvl_profile.specs.Rules.{is_node}
use Rattle.uvl_faults.proofs.Walking.{walk, none_append, Clear, in_line_append, in_line_of_body, LineBegins}
use Rattle.uvl_faults.proofs.Inline.{ref_lacks, kind_lacks, boolean_lacks, ref_inline, level_inline, alias_inline, expr_inline, boolean_inline}
use Rattle.uvl_faults.proofs.Sectioned.{at_front}
use Rattle.uvl_faults.proofs.Clearing.{clear_append}
use Rattle.uvl_faults.proofs.ClearFiles.{LinesClear, line_clears, feature_of, group_of, tree_clears, file_clears}
use Rattle.uvl_faults.proofs.Nodes.Limits.{too_many}
use Rattle.uvl_faults.proofs.Nodes.Lines.{HasFewNodes, line_behind}
use Rattle.uvl_faults.proofs.Nodes.Trees.{rules_at, rules_in}
use Rattle.uvl_faults.proofs.Nodes.Outside.{no_node, marks_spared, headings_spared, line_idle, between_idle, plain_line_clear, line_quiet, is_mark_or_word, marks_and_words, quiet_clear}
use Rattle.uvl_faults.proofs.Nodes.Braces.{rule_clear, each_front, each_back, braces_clear}

-- ---- sections of lines

namespace_clear : (xs : List Token) (r : Option Ref) → SpellsNamespace xs r → Clear too_many [] xs
namespace_clear xs r No_namespace = tt
namespace_clear ts r (Namespace t newline {xs} {r = name} is named ends) =
    let front = quiet_clear [] (t ∷ xs) (record { idle = between_idle [] at_front; no_word = refl })
    (ap is_mark_or_word is, ref_lacks is_mark_or_word marks_and_words xs name named) in
    let end = marks_spared (walk [] (t ∷ xs)) newline (ap is_layout ends) in
    clear_append too_many [] (t ∷ xs) (newline ∷ []) front.0 (end, tt)

level_clears : LinesClear too_many Include 1 SpellsLevel (λ level. Unit {0})
level_clears before ts level here within (Level {xs} newline {parts} spelled ends) =
    let inline = level_inline xs parts spelled in
    line_clears too_many marks_spared Include 1 before xs newline here inline ends
    (plain_line_clear Include 1 refl before xs here.part (line_idle Include 1 refl before here) inline)

import_clears : LinesClear too_many Imports 1 SpellsImport (λ line. Unit {0})
import_clears before ts line here within (Import_line {xs} {ys} newline {path} {alias} named called ends) =
    let inline = in_line_append xs ys (ref_inline xs path named) (alias_inline ys alias called) in
    line_clears too_many marks_spared Imports 1 before (xs ++ ys) newline here inline ends
    (plain_line_clear Imports 1 refl before (xs ++ ys) here.part (line_idle Imports 1 refl before here) inline)

rule_clears : LinesClear too_many Constraints 1 SpellsRule HasFewNodes
rule_clears [] ts e here few r = let outside = here.part in cc
rule_clears (t ∷ before) ts e here few (Rule {xs} newline spelled ends) =
    line_clears too_many marks_spared Constraints 1 (t ∷ before) xs newline here (expr_inline xs e spelled) ends
    (rule_clear before t xs e (line_behind before t here) spelled few)

-- ---- the tree of features

-- all rules of a tree are within the limit
abbrev TreeWithin : Feature → Type 0
TreeWithin f = All HasFewNodes (all_rules f)

-- all rules of what is below a group are
abbrev GroupWithin : Group → Type 0
GroupWithin g = All HasFewNodes (all_rules_of_group g)

-- what holds of all parts of all holds of all parts of each
each_part : {A B : Type 0} (P : B → Type 0) (f : A → List B) (items : List A)
    → All P (flat_map (λ parts. parts) (map f items)) → All (λ a. All P (f a)) items
each_part P f [] each = All-nil (λ a. All P (f a))
each_part P f (a ∷ items) each =
    let others = flat_map (λ parts. parts) (map f items) in
    All-cons (λ a. All P (f a)) a items (each_front P (f a) others each)
    (each_part P f items (each_back P (f a) others each))

groups_within : (n : ℕ) (r : Feature-F Feature Group) → TreeWithin (roll-Feature r) → All GroupWithin r.groups
groups_within n r within =
    let below = flat_map (λ rules. rules) (map all_rules_of_group r.groups) in
    each_part HasFewNodes all_rules_of_group r.groups
    (each_back HasFewNodes r.rules below (subst (All HasFewNodes) (rules_at r) within))

members_within : (n : ℕ) (r : Group-F Feature Group) → GroupWithin (roll-Group r) → All TreeWithin r.members
members_within n r within = each_part HasFewNodes all_rules r.members (subst (All HasFewNodes) (rules_in r) within)

kind_clear : (n : ℕ) (before xs : List Token) (front : GroupFront) (members : List Feature) → LineBegins Features n before
    → GroupWithin (roll-Group (group_of front members)) → SpellsKind xs front → Clear too_many before xs
kind_clear n before xs front members here within kind =
    (quiet_clear before xs (line_quiet n before here) (kind_lacks is_mark_or_word marks_and_words xs front kind)).0

line_clear : (n : ℕ) (before bs xs ys : List Token) (name : Ref) (entries : List Entry) (groups : List Group)
    → LineBegins Features n before → TreeWithin (roll-Feature (feature_of name entries groups))
    → SpellsBoolean bs → SpellsRef xs name → SpellsBraces ys entries → Clear too_many before (bs ++ xs ++ ys)
line_clear n before bs xs ys name entries groups here within said named braced =
    let r = feature_of name entries groups in
    let below = flat_map (λ rules. rules) (map all_rules_of_group groups) in
    let inline = in_line_append bs xs (boolean_inline bs said) (ref_inline xs name named) in
    let boolean = boolean_lacks is_mark_or_word marks_and_words bs said in
    let words = none_append is_mark_or_word bs xs boolean (ref_lacks is_mark_or_word marks_and_words xs name named) in
    let front = quiet_clear before (bs ++ xs) (line_quiet n before here) words in
    let few = each_front HasFewNodes (rules_of entries) below (subst (All HasFewNodes) (rules_at r) within) in
    let at = in_line_of_body Features n before (bs ++ xs) here.part inline in
    clear_append too_many before (bs ++ xs) ys front.0
    (braces_clear n (walk before (bs ++ xs)) ys entries front.1 at few braced)

feature_clears : LinesClear too_many Features 1 SpellsTree TreeWithin
feature_clears before ts f here within spelled =
    tree_clears too_many marks_spared (λ n. TreeWithin) (λ n. GroupWithin) groups_within members_within kind_clear line_clear
    spelled.0 1 (omega arith) before ts f here within spelled.1

-- ---- a file

root_within : (root : Option Feature) → All HasFewNodes (all_rules_of_root root) → IfSome root TreeWithin
root_within None each = tt
root_within (Some root) each = each

pub no_node_too_many : (tokens : List Token) (file : File) → Spells tokens file → EachRule HasFewNodes file
    → Clear too_many [] tokens
no_node_too_many tokens file spelled each =
    let braced = root_within file.root (each_front HasFewNodes (all_rules_of_root file.root) file.rules each) in
    let lines = each_back HasFewNodes (all_rules_of_root file.root) file.rules each in
    file_clears too_many marks_spared headings_spared namespace_clear level_clears import_clears
    TreeWithin feature_clears HasFewNodes rule_clears
    (λ before t is. no_node before t (ap (is_node before) is)) tokens file spelled braced lines
