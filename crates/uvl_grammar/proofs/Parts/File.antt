-- Files are read exactly.
use Rattle.std.specs.Prelude.{◌≡◌, ℕ, false, List, [], ◌∷◌, ◌++◌, Option}
use Rattle.std.proofs.Common.{refl, sym, ap, subst, ◌∙◌, append_assoc}
use Rattle.uvl_base.specs.declared.place.Place.{Place}
use Rattle.uvl_lexer.specs.declared.token.Token.{Token}
use Rattle.uvl_lexer.specs.declared.token.TokenKind.TheVariants as token
use Rattle.uvl_base.specs.declared.word.Word.{Word}
use Rattle.uvl_base.specs.declared.word.Word.TheVariants as word
use Rattle.uvl_ast.specs.declared.names.Ref.{Ref}
use Rattle.uvl_ast.specs.declared.expression.Expr.{Expr}
use Rattle.uvl_ast.specs.declared.feature.Feature.{Feature}
use Rattle.uvl_ast.specs.declared.file.Import.{Import}
use Rattle.uvl_ast.specs.declared.file.File.{File}
use Rattle.uvl_grammar.specs.steps.Tests.{Test, is_word, is_indent, is_finish}
use Rattle.uvl_grammar.specs.Shapes.{Spelling}
use Rattle.uvl_grammar.specs.Sections.{SpellsSection, No_section, Lines, SpellsNamespace, SpellsLevel, SpellsImport, SpellsFeatures, No_features, Root, SpellsRule}
use Rattle.uvl_grammar.specs.File.{Spells, A_file}
use Rattle.uvl_grammar.specs.steps.File.{file}
use Rattle.uvl_grammar.proofs.TokenKinds.{finish_kind}
use Rattle.uvl_grammar.proofs.Readers.{Good, Then, IsOne, IsDone, then_good, spelled_so, done_good, opened, respell}
use Rattle.uvl_grammar.proofs.Completing.{Complete, Anything, Avoids, has_token, one_complete, next_complete, then_complete, done_complete, spelled_complete, one_then, part_then, done_now}
use Rattle.uvl_grammar.proofs.Firsts.{finish_avoids}
use Rattle.uvl_grammar.proofs.Parts.Samples.{finish_good}
use Rattle.uvl_grammar.proofs.Parts.Sections.{section_good, section_complete, namespace_good, namespace_complete, level_good, level_complete, levels_stay, import_good, import_complete, imports_stay, features_good, features_complete, rule_good, rule_complete, rules_stay}
use Rattle.uvl_grammar.specs.steps.Tests.{stays}

abbrev FinishParts : Option Ref → List (List ℕ) → List Import → Option Feature → List Expr → Spelling File
FinishParts name levels imports root rules = Then (IsOne is_finish) (λ finish. IsDone (record {
  namespace = name;
  levels = levels;
  imports = imports;
  root = root;
  rules = rules;
  finish = finish;
}))

abbrev RulesParts : Option Ref → List (List ℕ) → List Import → Option Feature → Spelling File
RulesParts name levels imports root = Then (SpellsSection word.Constraints SpellsRule) (FinishParts name levels imports root)

abbrev FeaturesParts : Option Ref → List (List ℕ) → List Import → Spelling File
FeaturesParts name levels imports = Then SpellsFeatures (RulesParts name levels imports)

abbrev ImportsParts : Option Ref → List (List ℕ) → Spelling File
ImportsParts name levels = Then (SpellsSection word.Imports SpellsImport) (FeaturesParts name levels)

abbrev IncludeParts : Option Ref → Spelling File
IncludeParts name = Then (SpellsSection word.Include SpellsLevel) (ImportsParts name)

abbrev FileParts : Spelling File
FileParts = Then SpellsNamespace IncludeParts

six : (a b c d e f : List Token) → a ++ (b ++ (c ++ (d ++ (e ++ f)))) ≡ a ++ b ++ c ++ d ++ e ++ f
six a b c d e f = sym (append_assoc a b (c ++ (d ++ (e ++ f)))) ∙ sym (append_assoc (a ++ b) c (d ++ (e ++ f)))
    ∙ sym (append_assoc (a ++ b ++ c) d (e ++ f)) ∙ sym (append_assoc (a ++ b ++ c ++ d) e f)

file_of : (xs : List Token) (f : File) → FileParts xs f → Spells xs f
file_of xs f t =
    let levels = t.second in
    let imports = levels.second in
    let root = imports.second in
    let rules = root.second in
    let finish = opened rules.second in
    respell Spells (A_file finish.token t.first levels.first imports.first root.first rules.first (finish_kind finish.token.kind finish.passes))
    (t.joins ∙ ap (λ z. t.front ++ z) (levels.joins ∙ ap (λ z. levels.front ++ z) (imports.joins ∙ ap (λ z. imports.front ++ z) (root.joins
    ∙ ap (λ z. root.front ++ z) (rules.joins ∙ ap (λ z. rules.front ++ z) (finish.joins ∙ ap (λ z. finish.token ∷ z) finish.second.nothing)))))
    ∙ six t.front levels.front imports.front root.front rules.front (finish.token ∷ []))
    finish.second.gives

file_parts : (xs : List Token) (f : File) → Spells xs f → FileParts xs f
file_parts xs f (A_file {ns} {ls} {ms} {fs} {rs} finish name levels imports root rules is) =
    respell FileParts (part_then _ _ _ name (part_then _ _ _ levels (part_then _ _ _ imports (part_then _ _ _ root (part_then _ _ _ rules
    (one_then finish (ap is_finish is) done_now))))))
    (sym (six ns ls ms fs rs (finish ∷ []))) refl

pub file_good : {d n : ℕ} → Good (λ m. file) Spells d n
unfolding file
file_good = spelled_so file_of (then_good namespace_good (λ name.
    then_good (section_good word.Include level_good (has_token stays SpellsLevel levels_stay)) (λ levels.
    then_good (section_good word.Imports import_good (has_token stays SpellsImport imports_stay)) (λ imports.
    then_good features_good (λ root.
    then_good (section_good word.Constraints rule_good (has_token stays SpellsRule rules_stay)) (λ rules.
    then_good finish_good (λ finish. done_good)))))))

-- ---- what the rest of a file doesn't begin with

module _ (test : Test) (rest : List Token) where
  at_finish : {S : Place → Spelling File} {f : File} → test token.Finish ≡ false → (ys : List Token) → Then (IsOne is_finish) S ys f → Avoids test (ys ++ rest)
  at_finish e ys t = let finish = opened t in
      subst (λ (z : List Token). Avoids test (z ++ rest)) (sym finish.joins) (finish_avoids test e (finish.token ∷ finish.back ++ rest) finish.passes)

  of_section : {A : Type 0} {w : Word} {R : Spelling A} {xs : List Token} {items : List A} (ys : List Token) → test (token.Word w) ≡ false
      → SpellsSection w R xs items → Avoids test (ys ++ rest) → Avoids test ((xs ++ ys) ++ rest)
  of_section ys e No_section avoids = avoids
  of_section ys e (Lines t newline is ends lines) avoids = ap test is ∙ e

  at_section : {A : Type 0} {w : Word} {R : Spelling A} {S : List A → Spelling File} {f : File} → test (token.Word w) ≡ false → (ys : List Token)
      → Then (SpellsSection w R) S ys f → ((items : List A) (zs : List Token) → S items zs f → Avoids test (zs ++ rest)) → Avoids test (ys ++ rest)
  at_section e ys t later = subst (λ (z : List Token). Avoids test (z ++ rest)) (sym t.joins) (of_section t.back e t.first (later t.middle t.back t.second))

  of_features : {xs : List Token} {root : Option Feature} (ys : List Token) → test (token.Word word.Features) ≡ false
      → SpellsFeatures xs root → Avoids test (ys ++ rest) → Avoids test ((xs ++ ys) ++ rest)
  of_features ys e No_features avoids = avoids
  of_features ys e (Root t newline indent dedent is ends opens root closes) avoids = ap test is ∙ e

  at_features : {S : Option Feature → Spelling File} {f : File} → test (token.Word word.Features) ≡ false → (ys : List Token)
      → Then SpellsFeatures S ys f → ((root : Option Feature) (zs : List Token) → S root zs f → Avoids test (zs ++ rest)) → Avoids test (ys ++ rest)
  at_features e ys t later = subst (λ (z : List Token). Avoids test (z ++ rest)) (sym t.joins) (of_features t.back e t.first (later t.middle t.back t.second))

-- a test that no token passes with which the rest of a file begins
pub record Ends (test : Test) : Type 0 where
  pub finish : test token.Finish ≡ false
  pub rules : test (token.Word word.Constraints) ≡ false

module _ (test : Test) (f : File) (rest : List Token) (ends : Ends test) where
  rules_avoid : {name : Option Ref} {levels : List (List ℕ)} {imports : List Import} {root : Option Feature} (ys : List Token)
      → RulesParts name levels imports root ys f → Avoids test (ys ++ rest)
  rules_avoid ys t = at_section test rest ends.rules ys t (λ rules zs u. at_finish test rest ends.finish zs u)

  features_avoid : {name : Option Ref} {levels : List (List ℕ)} {imports : List Import} → test (token.Word word.Features) ≡ false → (ys : List Token)
      → FeaturesParts name levels imports ys f → Avoids test (ys ++ rest)
  features_avoid e ys t = at_features test rest e ys t (λ root zs u. rules_avoid zs u)

  imports_avoid : {name : Option Ref} {levels : List (List ℕ)} → test (token.Word word.Features) ≡ false → test (token.Word word.Imports) ≡ false
      → (ys : List Token) → ImportsParts name levels ys f → Avoids test (ys ++ rest)
  imports_avoid e i ys t = at_section test rest i ys t (λ imports zs u. features_avoid e zs u)

  include_avoid : {name : Option Ref} → test (token.Word word.Features) ≡ false → test (token.Word word.Imports) ≡ false
      → test (token.Word word.Include) ≡ false → (ys : List Token) → IncludeParts name ys f → Avoids test (ys ++ rest)
  include_avoid e i l ys t = at_section test rest l ys t (λ levels zs u. imports_avoid e i zs u)

indent_ends : Ends is_indent
indent_ends = record { finish = refl; rules = refl }

pub file_complete : {d : ℕ} → Complete (λ m. file) Spells Anything d
unfolding file
file_complete = spelled_complete file_parts (then_complete namespace_complete
    (λ name. then_complete (section_complete word.Include level_complete levels_stay)
    (λ levels. then_complete (section_complete word.Imports import_complete imports_stay)
    (λ imports. then_complete features_complete
    (λ root. then_complete (section_complete word.Constraints rule_complete rules_stay)
    (λ rules. next_complete one_complete (λ finish. done_complete Anything))
    (λ rules ys f rest t any. (at_finish (is_word word.Constraints) rest refl ys t, at_finish is_indent rest refl ys t)))
    (λ root ys f rest t any. rules_avoid (is_word word.Features) f rest (record { finish = refl; rules = refl }) ys t))
    (λ imports ys f rest t any. (
      features_avoid (is_word word.Imports) f rest (record { finish = refl; rules = refl }) refl ys t,
      features_avoid is_indent f rest indent_ends refl ys t,
    )))
    (λ levels ys f rest t any. (
      imports_avoid (is_word word.Include) f rest (record { finish = refl; rules = refl }) refl refl ys t,
      imports_avoid is_indent f rest indent_ends refl refl ys t,
    )))
    (λ name ys f rest t any. include_avoid (is_word word.Namespace) f rest (record { finish = refl; rules = refl }) refl refl refl ys t))
