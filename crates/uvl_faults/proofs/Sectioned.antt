-- The sections that tokens tell are those that a file is spelled by: the tree of features stands in the
-- body of the features section.
use Rattle.std.specs.Prelude.{◌≡◌, ℕ, ◌⊎◌, Bool, true, false, cond, List, [], ◌∷◌, ◌++◌, Option, Some}
use Rattle.std.proofs.Common.{refl, sym, ap, subst, ◌∙◌, inl, inr}
use Rattle.uvl_lexer.specs.declared.token.Token.{Token}
use Rattle.uvl_lexer.specs.declared.token.TokenKind.TheVariants as token
use Rattle.uvl_base.specs.declared.word.Word.{Word}
use Rattle.uvl_base.specs.declared.word.Word.TheVariants as word
use Rattle.uvl_ast.specs.declared.names.Ref.{Ref}
use Rattle.uvl_ast.specs.declared.file.Import.{Import}
use Rattle.uvl_profile.specs.declared.section.Section.{Section}
use Rattle.uvl_profile.specs.declared.section.Section.TheVariants.{Include, Imports}
use Rattle.uvl_profile.specs.declared.section.SectionPart.TheVariants.{Outside, Heading, Headed, Body}
use Rattle.uvl_grammar.specs.steps.Tests.{is_newline, is_indent}
use Rattle.uvl_grammar.specs.Tokens.{IsWord, IsNewline, IsIndent, IsDedent}
use Rattle.uvl_grammar.specs.Shapes.{Spelling, No_body, Indented}
use Rattle.uvl_grammar.specs.Sections.{SpellsSection, No_section, Lines, SpellsNamespace, No_namespace, Namespace, SpellsLevel, Level, SpellsImport, Import_line, SpellsRule, Rule}
use Rattle.uvl_profile.specs.Lines.{is_layout, begins_line}
use Rattle.uvl_profile.specs.Sections.{section_named, in_heading, behind_outside, part_behind, part_of}
use Rattle.uvl_faults.proofs.Walking.{walk, walk_append, InLine, in_line_append, in_line_of_body, LineBegins, next_line, Clear, Passes, one_or_more_passes}
use Rattle.uvl_faults.proofs.Inline.{ref_inline, level_inline, alias_inline, expr_inline}

-- Between sections a line begins: outside of them, or behind the line of a section's word.
pub record Between (before : List Token) : Type 0 where
  pub begins : begins_line before ≡ true
  pub part : (part_of before ≡ Outside) ⊎ ((s : Section) × (part_of before ≡ Headed s))

pub at_front : Between []
at_front = record { begins = refl; part = inl refl }

-- ---- the line of a section's word

module _ (before : List Token) (t : Token) (w : Word) (s : Section) (is : IsWord w t) (named : section_named (token.Word w) ≡ Some s) where
  begun : (first : Bool) → first ≡ true → behind_outside first t.kind ≡ Heading s
  begun first e = ap (λ b. cond b (in_heading (section_named t.kind)) Outside) e ∙ ap (λ kind. in_heading (section_named kind)) is ∙ ap in_heading named

  heading : Between before → part_of (t ∷ before) ≡ Heading s
  heading between = from between.part
    where
      from : (part_of before ≡ Outside) ⊎ ((s : Section) × (part_of before ≡ Headed s)) → part_of (t ∷ before) ≡ Heading s
      from (inl outside) = ap (λ p. part_behind p (begins_line before) t.kind) outside ∙ begun (begins_line before) between.begins
      from (inr headed) =
          ap (λ p. part_behind p (begins_line before) t.kind) headed.1
          ∙ ap (λ b. cond b (Body headed.0 1) (behind_outside (begins_line before) t.kind)) (ap is_indent is)
          ∙ begun (begins_line before) between.begins

  pub headed : Between before → (newline : Token) → IsNewline newline → part_of (newline ∷ t ∷ before) ≡ Headed s
  headed between newline ends =
      ap (λ p. part_behind p (begins_line (t ∷ before)) newline.kind) (heading between) ∙ ap (λ b. cond b (Headed s) (Heading s)) (ap is_newline ends)

  -- its body begins
  pub body_begins : Between before → (newline indent : Token) → IsNewline newline → IsIndent indent → LineBegins s 1 (indent ∷ newline ∷ t ∷ before)
  body_begins between newline indent ends opens = record {
    part = ap (λ p. part_behind p (begins_line (newline ∷ t ∷ before)) indent.kind) (headed between newline ends)
        ∙ ap (λ kind. part_behind (Headed s) (begins_line (newline ∷ t ∷ before)) kind) opens;
    begins = ap is_layout opens;
  }

-- behind the Dedent that closes a body
pub closed : (s : Section) (before : List Token) (t : Token) → part_of before ≡ Body s 1 → IsDedent t → Between (t ∷ before)
closed s before t part is = record {
  begins = ap is_layout is;
  part = inl (ap (λ p. part_behind p (begins_line before) t.kind) part ∙ ap (λ kind. part_behind (Body s 1) (begins_line before) kind) is);
}

-- ---- lines of a body

-- nothing is asked of the tokens
abbrev pub none_met : List Token → Token → Bool
none_met before t = false

pub nothing_met : (before xs : List Token) → Clear none_met before xs
nothing_met before [] = tt
nothing_met before (t ∷ ts) = (refl, nothing_met (t ∷ before) ts)

-- lines of a body are followed by lines of it
abbrev pub Keeps : {A : Type 0} → Section → Spelling A → Type 0
Keeps s R = Passes none_met (LineBegins s 1) R R

line_kept : (s : Section) (before xs : List Token) (newline : Token) → LineBegins s 1 before → InLine xs → IsNewline newline
    → LineBegins s 1 (walk before (xs ++ newline ∷ []))
line_kept s before xs newline here inline ends =
    subst (LineBegins s 1) (sym (walk_append before xs (newline ∷ [])))
    (next_line s 1 (walk before xs) newline (in_line_of_body s 1 before xs here.part inline) ends)

pub level_kept : (s : Section) → Keeps s SpellsLevel
level_kept s before ts v here clear (Level {xs} newline {parts} level ends) =
    (Level newline level ends, line_kept s before xs newline here (level_inline xs parts level) ends)

pub import_kept : (s : Section) → Keeps s SpellsImport
import_kept s before ts v here clear (Import_line {xs} {ys} newline path alias ends) =
    (Import_line newline path alias ends, line_kept s before (xs ++ ys) newline here (in_line_append xs ys (ref_inline xs _ path) (alias_inline ys _ alias)) ends)

pub rule_kept : (s : Section) → Keeps s SpellsRule
rule_kept s before ts v here clear (Rule {xs} newline e ends) = (Rule newline e ends, line_kept s before xs newline here (expr_inline xs _ e) ends)

-- ---- sections

-- behind a section others may follow
pub section_passed : {A : Type 0} (w : Word) (s : Section) → section_named (token.Word w) ≡ Some s → (Line : Spelling A) → Keeps s Line
    → (before xs : List Token) (items : List A) → Between before → SpellsSection w Line xs items → Between (walk before xs)
section_passed w s named Line kept before xs items between No_section = between
section_passed w s named Line kept before xs items between (Lines t newline is ends No_body) = record {
  begins = ap is_layout ends;
  part = inr (s, headed before t w s is named between newline ends);
}
section_passed w s named Line kept before zs items between (Lines t newline is ends (Indented indent dedent {xs} opens lines closes)) =
    let front = indent ∷ newline ∷ t ∷ before in
    let inner = body_begins before t w s is named between newline indent ends opens in
    let passed = one_or_more_passes none_met (LineBegins s 1) Line Line kept front xs items inner (nothing_met front xs) lines in
    subst Between (sym (walk_append before (t ∷ newline ∷ indent ∷ xs) (dedent ∷ []))) (closed s (walk front xs) dedent passed.1.part closes)

-- in the line of `namespace` nothing begins a section
pub outside_in_line : (before xs : List Token) → part_of before ≡ Outside → begins_line before ≡ false → InLine xs
    → (part_of (walk before xs) ≡ Outside) × (begins_line (walk before xs) ≡ false)
outside_in_line before [] part first inline = (part, first)
outside_in_line before (t ∷ ts) part first inline =
    outside_in_line (t ∷ before) ts
    (ap (λ p. part_behind p (begins_line before) t.kind) part ∙ ap (λ b. cond b (in_heading (section_named t.kind)) Outside) first)
    inline.0 inline.1

pub namespace_passed : (xs : List Token) (r : Option Ref) → SpellsNamespace xs r → Between (walk [] xs)
namespace_passed xs r No_namespace = at_front
namespace_passed zs r (Namespace t newline {xs} is named ends) =
    let word_outside : part_of (t ∷ []) ≡ Outside = ap (λ kind. in_heading (section_named kind)) is in
    let line = outside_in_line (t ∷ []) xs word_outside (ap is_layout is) (ref_inline xs _ named) in
    let front = walk (t ∷ []) xs in
    let between : Between (newline ∷ front) = record {
      begins = ap is_layout ends;
      part = inl (ap (λ p. part_behind p (begins_line front) newline.kind) line.0 ∙ ap (λ b. cond b (in_heading (section_named newline.kind)) Outside) line.1);
    } in
    subst Between (sym (walk_append [] (t ∷ xs) (newline ∷ []))) between

-- the features section stands between the sections in front of it and others
pub features_between : (ns ls ms : List Token) (namespace : Option Ref) (levels : List (List ℕ)) (imports : List Import)
    → SpellsNamespace ns namespace → SpellsSection word.Include SpellsLevel ls levels → SpellsSection word.Imports SpellsImport ms imports
    → Between (walk [] (ns ++ ls ++ ms))
features_between ns ls ms namespace levels imports named included imported =
    let after_namespace = namespace_passed ns namespace named in
    let after_include = section_passed word.Include Include refl SpellsLevel (level_kept Include) (walk [] ns) ls levels after_namespace included in
    let after_imports = section_passed word.Imports Imports refl SpellsImport (import_kept Imports) (walk (walk [] ns) ls) ms imports after_include imported in
    subst Between (sym (walk_append [] (ns ++ ls) ms ∙ ap (λ b. walk b ms) (walk_append [] ns ls))) after_imports
