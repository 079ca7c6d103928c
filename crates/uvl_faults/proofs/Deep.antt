-- Where the features of a file are at most 64 deep, none is too deep.
use Rattle.std.specs.Prelude.{◌≡◌, ℕ, ◌+◌, ◌*◌, ◌≤◌, true, false, ◌&&◌, ◌==◌, List, [], ◌∷◌, ◌++◌, map, Option, IfSome}
use Rattle.std.specs.List.{All}
use Rattle.std.proofs.Common.{refl, ap, ◌∙◌, arith}
use Rattle.std.proofs.lemmas.Bool.{and_right}
use Rattle.std.proofs.lemmas.Bool.Decides.{nat_tests}
use Rattle.std.proofs.lemmas.List.Elements.{All-nil, All-cons}
use Rattle.uvl_lexer.specs.declared.token.Token.{Token}
use Rattle.uvl_lexer.specs.declared.token.TokenKind.{TokenKind}
use Rattle.uvl_lexer.specs.declared.token.TokenKind.TheVariants as token
use Rattle.uvl_ast.specs.declared.names.Ref.{Ref}
use Rattle.uvl_ast.specs.declared.feature.Feature.{Feature, roll-Feature}
use Rattle.uvl_ast.specs.declared.feature.Group.{Group, roll-Group}
use Rattle.uvl_ast.specs.declared.feature.Feature.TheOpen.{Feature-F, Group-F}
use Rattle.uvl_ast.specs.declared.feature.Feature.TheFolds.{fold-roll-Feature, fold-roll-Group}
use Rattle.uvl_ast.specs.declared.file.File.{File}
use Rattle.uvl_ast.specs.Depth.{greatest, feature_depth, group_depth, depth_of, depth_of_group}
use Rattle.uvl_profile.specs.declared.section.Section.{Section}
use Rattle.uvl_profile.specs.declared.section.Section.TheVariants.{Include, Imports, Features, Constraints}
use Rattle.uvl_profile.specs.declared.section.SectionPart.TheVariants.{Outside, Body}
use Rattle.uvl_grammar.specs.declared.entry.Entry.{Entry}
use Rattle.uvl_grammar.specs.Tokens.{IsNewline}
use Rattle.uvl_grammar.specs.Refs.{SpellsRef}
use Rattle.uvl_grammar.specs.Braces.{attributes_of, rules_of, SpellsBraces}
use Rattle.uvl_grammar.specs.Groups.{GroupFront, SpellsKind}
use Rattle.uvl_grammar.specs.Features.{SpellsBoolean, SpellsTree}
use Rattle.uvl_grammar.specs.Sections.{SpellsNamespace, No_namespace, Namespace, SpellsLevel, Level, SpellsImport, Import_line, SpellsRule, Rule}
use Rattle.uvl_grammar.specs.File.{Spells}
use Rattle.uvl_profile.specs.Lines.{is_layout, begins_line}
use Rattle.uvl_profile.specs.Sections.{section_named, in_heading, part_of}
use Rattle.uvl_profile.specs.Met.{is_name, names_feature, is_below_most_depth}
use Rattle.uvl_faults.proofs.Walking.{walk, Clear, InLine, in_line_append, in_line_of_body, LineBegins}
use Rattle.uvl_faults.proofs.Inline.{ref_inline, braces_inline, kind_inline, boolean_inline, level_inline, alias_inline, expr_inline}
use Rattle.uvl_faults.proofs.Sectioned.{outside_in_line}
use Rattle.uvl_faults.proofs.Depths.{deep}
use Rattle.uvl_faults.proofs.Clearing.{ClearUntil, Clears, clear_append, in_line_clear}
use Rattle.uvl_faults.proofs.ClearFiles.{SparesMarks, SparesHeadings, line_clears, tree_clears, file_clears}

-- ---- tokens

module _ (before : List Token) (t : Token) where
  -- no name is there
  no_name : is_name t.kind ≡ false → deep before t ≡ false
  no_name is = ap (λ b. b && names_feature before && is_below_most_depth (part_of before)) is

  -- no feature is so deep there
  not_so_deep : is_below_most_depth (part_of before) ≡ false → deep before t ≡ false
  not_so_deep low = and_right (is_name t.kind && names_feature before) (is_below_most_depth (part_of before)) low

mark_no_name : (kind : TokenKind) → is_layout kind ≡ true → is_name kind ≡ false
mark_no_name (token.Name name quoted) e = cc
mark_no_name _ e = refl

marks_spared : SparesMarks deep
marks_spared before t is = no_name before t (mark_no_name t.kind is)

headings_spared : SparesHeadings deep
headings_spared before t w between is = no_name before t (ap is_name is)

-- ---- lines

-- the lines of a body that is not so deep
module _ (s : Section) (n : ℕ) (low : is_below_most_depth (Body s n) ≡ false) where
  in_line : (before xs : List Token) → LineBegins s n before → InLine xs → Clear deep before xs
  in_line before xs here inline =
      (in_line_clear deep (λ front. part_of front ≡ Body s n)
      (λ front t part plain. (not_so_deep front t (ap is_below_most_depth part ∙ low), in_line_of_body s n front (t ∷ []) part (plain, tt)))
      before xs here.part inline).0

  line_alone : (before xs : List Token) (newline : Token) → LineBegins s n before → InLine xs → IsNewline newline
      → ClearUntil deep (LineBegins s n) before (xs ++ newline ∷ [])
  line_alone before xs newline here inline ends =
      line_clears deep marks_spared s n before xs newline here inline ends (in_line before xs here inline)

namespace_clear : (xs : List Token) (r : Option Ref) → SpellsNamespace xs r → Clear deep [] xs
namespace_clear xs r No_namespace = tt
namespace_clear ts r (Namespace t newline {xs} {r = name} is named ends) =
    let line = in_line_clear deep (λ front. (part_of front ≡ Outside) × (begins_line front ≡ false))
    (λ front t at plain. (not_so_deep front t (ap is_below_most_depth at.0), outside_in_line front (t ∷ []) at.0 at.1 (plain, tt)))
    (t ∷ []) xs (ap (λ kind. in_heading (section_named kind)) is, ap is_layout is) (ref_inline xs name named) in
    let end = marks_spared (walk (t ∷ []) xs) newline (ap is_layout ends) in
    (no_name [] t (ap is_name is), clear_append deep (t ∷ []) xs (newline ∷ []) line.0 (end, tt))

level_clears : Clears deep (LineBegins Include 1) (LineBegins Include 1) SpellsLevel (λ level. Unit {0})
level_clears before ts level here within (Level {xs} newline {parts} spelled ends) =
    line_alone Include 1 refl before xs newline here (level_inline xs parts spelled) ends

import_clears : Clears deep (LineBegins Imports 1) (LineBegins Imports 1) SpellsImport (λ line. Unit {0})
import_clears before ts line here within (Import_line {xs} {ys} newline {path} {alias} named called ends) =
    let inline = in_line_append xs ys (ref_inline xs path named) (alias_inline ys alias called) in
    line_alone Imports 1 refl before (xs ++ ys) newline here inline ends

rule_clears : Clears deep (LineBegins Constraints 1) (LineBegins Constraints 1) SpellsRule (λ rule. Unit {0})
rule_clears before ts e here within (Rule {xs} newline spelled ends) =
    line_alone Constraints 1 refl before xs newline here (expr_inline xs e spelled) ends

-- ---- the tree of features

depth_at : (r : Feature-F Feature Group) → depth_of (roll-Feature r) ≡ 1 + greatest (map depth_of_group r.groups)
depth_at r = fold-roll-Feature ℕ ℕ feature_depth group_depth r

depth_in : (r : Group-F Feature Group) → depth_of_group (roll-Group r) ≡ greatest (map depth_of r.members)
depth_in r = fold-roll-Group ℕ ℕ feature_depth group_depth r

-- each feature below one whose line stands in n indentations takes two more, and none stands in 129
abbrev Within : ℕ → Feature → Type 0
Within n f = n + 2 * depth_of f ≤ 129

-- nor does one in a group whose line stands there
abbrev GroupWithin : ℕ → Group → Type 0
GroupWithin n g = n + 2 * depth_of_group g ≤ 128

-- what the greatest keeps each keeps
each_within : {A : Type 0} (f : A → ℕ) (n m : ℕ) (items : List A) → n + 2 * greatest (map f items) ≤ m
    → All (λ a. n + 2 * f a ≤ m) items
each_within f n m [] within = All-nil (λ a. n + 2 * f a ≤ m)
each_within f n m (a ∷ items) within =
    All-cons (λ a. n + 2 * f a ≤ m) a items (omega arith) (each_within f n m items (omega arith))

groups_within : (n : ℕ) (r : Feature-F Feature Group) → Within n (roll-Feature r) → All (GroupWithin (n + 1)) r.groups
groups_within n r within = each_within depth_of_group (n + 1) 128 r.groups (omega (arith, depth_at r))

members_within : (n : ℕ) (r : Group-F Feature Group) → GroupWithin n (roll-Group r) → All (Within (n + 1)) r.members
members_within n r within = each_within depth_of (n + 1) 129 r.members (omega (arith, depth_in r))

low_indentations : (n : ℕ) → n ≤ 128 → (n == 129) ≡ false
low_indentations n low = grind (arith, nat_tests)

kind_clear : (n : ℕ) (before xs : List Token) (front : GroupFront) (members : List Feature)
    → LineBegins Features n before → GroupWithin n (roll-Group (record { kind = front.0; members = members; place = front.1 }))
    → SpellsKind xs front → Clear deep before xs
kind_clear n before xs front members here within kind =
    in_line Features n (low_indentations n (omega arith)) before xs here (kind_inline xs front kind)

line_clear : (n : ℕ) (before bs xs ys : List Token) (name : Ref) (entries : List Entry) (groups : List Group)
    → LineBegins Features n before
    → Within n (roll-Feature (record { name = name; attributes = attributes_of entries; rules = rules_of entries; groups = groups }))
    → SpellsBoolean bs → SpellsRef xs name → SpellsBraces ys entries → Clear deep before (bs ++ xs ++ ys)
line_clear n before bs xs ys name entries groups here within said named braced =
    let is = depth_at (record { name = name; attributes = attributes_of entries; rules = rules_of entries; groups = groups }) in
    let front = in_line_append bs xs (boolean_inline bs said) (ref_inline xs name named) in
    let inline = in_line_append (bs ++ xs) ys front (braces_inline ys entries braced) in
    in_line Features n (low_indentations n (omega (arith, is))) before (bs ++ xs ++ ys) here inline

feature_clears : Clears deep (LineBegins Features 1) (LineBegins Features 1) SpellsTree (λ f. depth_of f ≤ 64)
feature_clears before ts f here low spelled =
    tree_clears deep marks_spared Within GroupWithin groups_within members_within kind_clear line_clear
    spelled.0 1 (omega arith) before ts f here (omega arith) spelled.1

-- ---- a file

pub no_feature_too_deep : (tokens : List Token) (file : File) → Spells tokens file
    → IfSome file.root (λ root. depth_of root ≤ 64) → Clear deep [] tokens
no_feature_too_deep tokens file spelled low =
    file_clears deep marks_spared headings_spared namespace_clear level_clears import_clears
    (λ root. depth_of root ≤ 64) feature_clears (λ rule. Unit {0}) rule_clears
    (λ before t is. no_name before t (ap is_name is)) tokens file spelled low (λ k d less. tt)
