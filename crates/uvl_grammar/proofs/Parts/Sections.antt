-- The sections of a file are read exactly.
use Rattle.std.specs.Prelude.{◌≡◌, ℕ, true, false, List, [], ◌∷◌, ◌++◌, Option, Some, None}
use Rattle.std.proofs.Common.{refl, sym, ap, subst, ◌∙◌, inl, inr, append_assoc}
use Rattle.uvl_base.specs.declared.place.Place.{Place}
use Rattle.uvl_lexer.specs.declared.token.Token.{Token}
use Rattle.uvl_lexer.specs.declared.token.TokenKind.{TokenKind}
use Rattle.uvl_lexer.specs.declared.token.TokenKind.TheVariants as token
use Rattle.uvl_base.specs.declared.word.Word.{Word}
use Rattle.uvl_base.specs.declared.word.Word.TheVariants as word
use Rattle.uvl_lexer.specs.declared.token.Symbol.TheVariants as symbol
use Rattle.uvl_ast.specs.declared.names.Ref.{Ref}
use Rattle.uvl_ast.specs.declared.expression.Expr.{Expr}
use Rattle.uvl_ast.specs.declared.feature.Feature.{Feature}
use Rattle.uvl_ast.specs.declared.file.Import.{Import}
use Rattle.uvl_grammar.specs.steps.Tests.{Test, is_word, is_symbol, is_newline, is_indent, is_dedent, is_there, stays}
use Rattle.uvl_grammar.specs.Shapes.{Spelling, OneOrMore, First, Body}
use Rattle.uvl_grammar.specs.Refs.{SpellsRef}
use Rattle.uvl_grammar.specs.Expressions.{SpellsExpr}
use Rattle.uvl_grammar.specs.Features.{SpellsTree}
use Rattle.uvl_grammar.specs.Sections.{SpellsSection, No_section, Lines, SpellsNamespace, No_namespace, Namespace, level_part, SpellsLevelPart, Part, joined, SpellsLevel, Level, SpellsAlias, No_alias, As, SpellsImport, Import_line, SpellsFeatures, No_features, Root, SpellsRule, Rule}
use Rattle.uvl_grammar.specs.steps.Reading.{Reader}
use Rattle.uvl_grammar.specs.steps.Sections.{section, namespace, is_level_part, level_token, level, alias, import_line, features, rule}
use Rattle.uvl_grammar.proofs.TokenKinds.{word_kind, kind_word, newline_kind, indent_kind, dedent_kind}
use Rattle.uvl_grammar.proofs.Readers.{Good, Then, IsOne, IsAccepted, IsDone, Either, HasToken, then_good, spelled_so, done_good, choose_good, good_accept, opened, taken, respell}
use Rattle.uvl_grammar.proofs.Completing.{Rest, Complete, Anything, Begins, Avoids, PartsBegin, has_token, one_complete, accept_complete, next_complete, then_complete, last_complete, done_complete, spelled_complete, stops_complete, choose_complete, one_then, accept_then, part_then, part_last, done_now}
use Rattle.uvl_grammar.proofs.Firsts.{is_name, newline_avoids, dedent_avoids, begins_longer, begins_not}
use Rattle.uvl_grammar.proofs.Shaped.{with_nothing, one_or_more_good, one_or_more_complete, body_good, body_complete}
use Rattle.uvl_grammar.proofs.Parts.Samples.{sample, word_good, newline_good, indent_good, dedent_good}
use Rattle.uvl_grammar.proofs.Parts.Refs.{reference_good, reference_complete}
use Rattle.uvl_grammar.proofs.Parts.Expressions.Whole.{expression_good, expression_complete}
use Rattle.uvl_grammar.proofs.Parts.Beginnings.{reference_begins, begins_expression, expression_begins}
use Rattle.uvl_grammar.proofs.Parts.Braces.{newline_looser}
use Rattle.uvl_grammar.proofs.Parts.Features.{tree_good, tree_complete}

pub word_opens : {B : Type 0} {S : Place → Spelling B} (w : Word) (xs : List Token) (v : B) (rest : List Token) → Then (IsOne (is_word w)) S xs v → Begins (is_word w) (xs ++ rest)
word_opens w xs v rest t = let first = opened t in subst (λ (z : List Token). Begins (is_word w) (z ++ rest)) (sym first.joins) first.passes

pub newline_opens : {B : Type 0} {S : Place → Spelling B} (test : Test) → test token.Newline ≡ false → (xs : List Token) (v : B) (rest : List Token) → Then (IsOne is_newline) S xs v → Avoids test (xs ++ rest)
newline_opens test e xs v rest t = let first = opened t in
    subst (λ (z : List Token). Avoids test (z ++ rest)) (sym first.joins) (newline_avoids test e (first.token ∷ first.back ++ rest) first.passes)

nothing_avoids : {A : Type 0} {a : A} (test : Test) (xs : List Token) (v : A) (rest : List Token) → IsDone a xs v → Avoids test rest → Avoids test (xs ++ rest)
nothing_avoids test xs v rest t avoids = subst (λ (z : List Token). Avoids test (z ++ rest)) (sym t.nothing) avoids

-- ---- sections of lines

module _ {A : Type 0} (w : Word) (R : Spelling A) where
  SectionParts : Spelling (List A)
  SectionParts = Either (Then (IsOne (is_word w)) (λ place. Then (IsOne is_newline) (λ newline. Body R))) (IsDone [])

  section_of : (xs : List Token) (items : List A) → SectionParts xs items → SpellsSection w R xs items
  unfolding SectionParts
  section_of xs items (inl t) =
      let first = opened t in
      let newline = opened first.second in
      respell (SpellsSection w R) (Lines first.token newline.token (word_kind w first.token.kind first.passes) (newline_kind newline.token.kind newline.passes) newline.second)
      (first.joins ∙ ap (λ z. first.token ∷ z) newline.joins) refl
  section_of xs items (inr t) = respell (SpellsSection w R) No_section t.nothing t.gives

  section_parts : (xs : List Token) (items : List A) → SpellsSection w R xs items → SectionParts xs items
  unfolding SectionParts
  section_parts xs items No_section = inr done_now
  section_parts xs items (Lines t newline is ends lines) = inl (one_then t (kind_word w t.kind is) (one_then newline (ap is_newline ends) lines))

pub section_good : {A : Type 0} (w : Word) {p : ℕ → Reader A} {R : Spelling A} {d n : ℕ} → Good p R d n → HasToken R
    → Good (λ m. section w (p m)) (SpellsSection w R) d n
unfolding section SectionParts
section_good w {p} {R} good has = spelled_so (section_of w R) (choose_good (is_word w)
    (then_good (word_good w) (λ place. then_good newline_good (λ newline. body_good good has))) done_good)

-- a section stops where its word doesn't follow, nor an indentation
abbrev pub StopsSection : Word → Rest
StopsSection w rest = Avoids (is_word w) rest × Avoids is_indent rest

pub section_complete : {A : Type 0} (w : Word) {p : ℕ → Reader A} {R : Spelling A} {d : ℕ} → Complete p R Anything d → PartsBegin stays R
    → Complete (λ m. section w (p m)) (SpellsSection w R) (StopsSection w) d
unfolding section SectionParts
section_complete w {p} {R} c begins = spelled_complete (section_parts w R) (choose_complete (is_word w)
    (next_complete one_complete (λ place. next_complete one_complete (λ newline. stops_complete (λ rest stops. stops.1) (body_complete c begins))))
    (done_complete (StopsSection w))
    (λ xs items rest t stops. word_opens w xs items rest t)
    (λ xs items rest t stops. nothing_avoids (is_word w) xs items rest t stops.0))

-- ---- the namespace

abbrev NamespaceParts : Spelling (Option Ref)
NamespaceParts = Either (Then (IsOne (is_word word.Namespace)) (λ place. Then SpellsRef (λ r. Then (IsOne is_newline) (λ newline. IsDone (Some r))))) (IsDone None)

namespace_of : (xs : List Token) (r : Option Ref) → NamespaceParts xs r → SpellsNamespace xs r
namespace_of xs r (inl t) =
    let first = opened t in
    let newline = opened first.second.second in
    respell SpellsNamespace (Namespace first.token newline.token (word_kind word.Namespace first.token.kind first.passes) first.second.first (newline_kind newline.token.kind newline.passes))
    (first.joins ∙ ap (λ z. first.token ∷ z) (first.second.joins ∙ ap (λ z. first.second.front ++ z) (newline.joins ∙ ap (λ z. newline.token ∷ z) newline.second.nothing)))
    newline.second.gives
namespace_of xs r (inr t) = respell SpellsNamespace No_namespace t.nothing t.gives

namespace_parts : (xs : List Token) (r : Option Ref) → SpellsNamespace xs r → NamespaceParts xs r
namespace_parts xs r No_namespace = inr done_now
namespace_parts xs r (Namespace t newline is name ends) =
    inl (one_then t (kind_word word.Namespace t.kind is) (part_then _ _ _ name (one_then newline (ap is_newline ends) done_now)))

pub namespace_good : {d n : ℕ} → Good (λ m. namespace) SpellsNamespace d n
unfolding namespace
namespace_good = spelled_so namespace_of (choose_good (is_word word.Namespace)
    (then_good (word_good word.Namespace) (λ place. then_good reference_good (λ r. then_good newline_good (λ newline. done_good)))) done_good)

pub namespace_complete : {d : ℕ} → Complete (λ m. namespace) SpellsNamespace (Avoids (is_word word.Namespace)) d
unfolding namespace
namespace_complete = spelled_complete namespace_parts (choose_complete (is_word word.Namespace)
    (next_complete one_complete (λ place. then_complete reference_complete (λ r. next_complete one_complete (λ newline. done_complete (Avoids (is_word word.Namespace))))
    (λ r ys v rest t avoids. newline_opens (is_symbol symbol.Dot) refl ys v rest t)))
    (done_complete (Avoids (is_word word.Namespace)))
    (λ xs r rest t avoids. word_opens word.Namespace xs r rest t)
    (λ xs r rest t avoids. nothing_avoids (is_word word.Namespace) xs r rest t avoids))

-- ---- lines of `include`

level_token_of : (xs : List Token) (v : List ℕ) → Then (IsAccepted level_part) (λ part. IsDone part.0) xs v → SpellsLevelPart xs v
level_token_of xs v t =
    let part = taken t in
    respell SpellsLevelPart (Part part.token part.gives) (part.joins ∙ ap (λ z. part.token ∷ z) part.second.nothing) part.second.gives

level_token_parts : (xs : List Token) (v : List ℕ) → SpellsLevelPart xs v → Then (IsAccepted level_part) (λ part. IsDone part.0) xs v
level_token_parts xs v (Part t is) = accept_then t is done_now

there : {A : Type 0} (o : Option A) (a : A) → o ≡ Some a → is_there o ≡ true
there (Some b) a e = refl
there None a e = cc

level_parts_begin : PartsBegin is_level_part SpellsLevelPart
level_parts_begin xs v (Part t is) = there (level_part t.kind) _ is

abbrev LevelParts : Spelling (List ℕ)
LevelParts = Then (OneOrMore SpellsLevelPart) (λ parts. Then (IsOne is_newline) (λ newline. IsDone (joined parts)))

level_of : (xs : List Token) (v : List ℕ) → LevelParts xs v → SpellsLevel xs v
level_of xs v t =
    let newline = opened t.second in
    respell SpellsLevel (Level newline.token t.first (newline_kind newline.token.kind newline.passes))
    (t.joins ∙ ap (λ z. t.front ++ z) (newline.joins ∙ ap (λ z. newline.token ∷ z) newline.second.nothing)) newline.second.gives

level_parts : (xs : List Token) (v : List ℕ) → SpellsLevel xs v → LevelParts xs v
level_parts xs v (Level newline parts ends) = part_then _ _ _ parts (one_then newline (ap is_newline ends) done_now)

level_token_good : {d n : ℕ} → Good (λ m. level_token) SpellsLevelPart d n
unfolding level_token
level_token_good {d} {n} = spelled_so level_token_of (then_good (good_accept level_part (sample (token.Symbol symbol.Star)) (42 ∷ []) refl d n) (λ part. done_good))

pub level_good : {d n : ℕ} → Good (λ m. level) SpellsLevel d n
unfolding level
level_good = spelled_so level_of (then_good (one_or_more_good is_level_part level_token_good (has_token is_level_part SpellsLevelPart level_parts_begin)) (λ parts.
    then_good newline_good (λ newline. done_good)))

level_token_complete : {d : ℕ} → Complete (λ m. level_token) SpellsLevelPart Anything d
unfolding level_token
level_token_complete = spelled_complete level_token_parts (last_complete accept_complete)

pub level_complete : {d : ℕ} → Complete (λ m. level) SpellsLevel Anything d
unfolding level
level_complete = spelled_complete level_parts (then_complete
    (stops_complete (λ rest avoids. (tt, avoids)) (one_or_more_complete is_level_part level_token_complete level_parts_begin (λ xs v rest r. tt)))
    (λ parts. next_complete one_complete (λ newline. done_complete Anything))
    (λ parts ys v rest t any. newline_opens is_level_part refl ys v rest t))

level_part_stays : (kind : TokenKind) → is_level_part kind ≡ true → is_dedent kind ≡ false
level_part_stays (token.Name name quoted) e = refl
level_part_stays (token.Word w) e = refl
level_part_stays (token.Symbol s) e = refl
level_part_stays (token.Number n whole) e = refl
level_part_stays (token.Text text) e = refl
level_part_stays token.Indent e = refl
level_part_stays token.Dedent e = cc
level_part_stays token.Newline e = refl
level_part_stays token.Finish e = refl

pub levels_stay : PartsBegin stays SpellsLevel
levels_stay xs v (Level {xs = ys} newline parts ends) = begins_longer stays ys (newline ∷ []) (parts_stay ys _ parts)
  where
    parts_stay : (ys : List Token) (parts : List (List ℕ)) → OneOrMore SpellsLevelPart ys parts → Begins stays ys
    parts_stay ys parts (First {xs} {ys = zs} {a} r rs) = begins_longer stays xs zs (begins_not is_level_part is_dedent level_part_stays xs (level_parts_begin xs a r))

-- ---- lines of `imports`

abbrev AliasParts : Spelling (Option Ref)
AliasParts = Either (Then (IsOne (is_word word.As)) (λ place. Then SpellsRef (λ r. IsDone (Some r)))) (IsDone None)

alias_of : (xs : List Token) (r : Option Ref) → AliasParts xs r → SpellsAlias xs r
alias_of xs r (inl t) =
    let first = opened t in
    respell SpellsAlias (As first.token (word_kind word.As first.token.kind first.passes) first.second.first)
    (first.joins ∙ ap (λ z. first.token ∷ z) (with_nothing first.second.joins first.second.second.nothing)) first.second.second.gives
alias_of xs r (inr t) = respell SpellsAlias No_alias t.nothing t.gives

alias_parts : (xs : List Token) (r : Option Ref) → SpellsAlias xs r → AliasParts xs r
alias_parts xs r No_alias = inr done_now
alias_parts xs r (As t is name) = inl (one_then t (kind_word word.As t.kind is) (part_last _ name))

alias_good : {d n : ℕ} → Good (λ m. alias) SpellsAlias d n
unfolding alias
alias_good = spelled_so alias_of (choose_good (is_word word.As) (then_good (word_good word.As) (λ place. then_good reference_good (λ r. done_good))) done_good)

-- an alias stops where neither a dot nor the word follows
pub record StopsAlias (rest : List Token) : Type 0 where
  pub word : Avoids (is_word word.As) rest
  pub dot : Avoids (is_symbol symbol.Dot) rest

alias_complete : {d : ℕ} → Complete (λ m. alias) SpellsAlias StopsAlias d
unfolding alias
alias_complete = spelled_complete alias_parts (choose_complete (is_word word.As)
    (next_complete one_complete (λ place. last_complete (stops_complete (λ rest stops. stops.dot) reference_complete)))
    (done_complete StopsAlias)
    (λ xs r rest t stops. word_opens word.As xs r rest t)
    (λ xs r rest t stops. nothing_avoids (is_word word.As) xs r rest t stops.word))

abbrev ImportParts : Spelling Import
ImportParts = Then SpellsRef (λ path. Then SpellsAlias (λ name. Then (IsOne is_newline) (λ newline.
    IsDone (record { path = path; alias = name; place = path.place }))))

import_of : (xs : List Token) (i : Import) → ImportParts xs i → SpellsImport xs i
import_of xs i t =
    let name = t.second in
    let newline = opened name.second in
    respell SpellsImport (Import_line newline.token t.first name.first (newline_kind newline.token.kind newline.passes))
    (t.joins ∙ ap (λ z. t.front ++ z) (name.joins ∙ ap (λ z. name.front ++ z) (newline.joins ∙ ap (λ z. newline.token ∷ z) newline.second.nothing))
    ∙ sym (append_assoc t.front name.front (newline.token ∷ [])))
    newline.second.gives

import_parts : (xs : List Token) (i : Import) → SpellsImport xs i → ImportParts xs i
import_parts xs i (Import_line {xs = ps} {ys} newline path name ends) =
    respell ImportParts (part_then _ _ _ path (part_then _ _ _ name (one_then newline (ap is_newline ends) done_now))) (append_assoc ps ys (newline ∷ [])) refl

pub import_good : {d n : ℕ} → Good (λ m. import_line) SpellsImport d n
unfolding import_line
import_good = spelled_so import_of (then_good reference_good (λ path. then_good alias_good (λ name. then_good newline_good (λ newline. done_good))))

alias_avoids : (test : Test) → test (token.Word word.As) ≡ false → test token.Newline ≡ false → {path : Ref}
    (xs : List Token) (i : Import) (rest : List Token)
    → Then SpellsAlias (λ name. Then (IsOne is_newline) (λ newline. IsDone (record { path = path; alias = name; place = path.place }))) xs i → Avoids test (xs ++ rest)
alias_avoids test as_word newline xs i rest t = subst (λ (z : List Token). Avoids test (z ++ rest)) (sym t.joins) (of_alias t.back t.first (newline_opens test newline t.back i rest t.second))
  where
    of_alias : {zs : List Token} {name : Option Ref} (ys : List Token) → SpellsAlias zs name → Avoids test (ys ++ rest) → Avoids test ((zs ++ ys) ++ rest)
    of_alias ys No_alias avoids = avoids
    of_alias ys (As t is r) avoids = ap test is ∙ as_word

pub import_complete : {d : ℕ} → Complete (λ m. import_line) SpellsImport Anything d
unfolding import_line
import_complete = spelled_complete import_parts (then_complete reference_complete
    (λ path. then_complete alias_complete (λ name. next_complete one_complete (λ newline. done_complete Anything))
    (λ name ys i rest t any. record { word = newline_opens (is_word word.As) refl ys i rest t; dot = newline_opens (is_symbol symbol.Dot) refl ys i rest t }))
    (λ path ys i rest t any. alias_avoids (is_symbol symbol.Dot) refl refl ys i rest t))

name_stays : (kind : TokenKind) → is_name kind ≡ true → is_dedent kind ≡ false
name_stays (token.Name name quoted) e = refl
name_stays (token.Word w) e = refl
name_stays (token.Symbol s) e = refl
name_stays (token.Number n whole) e = refl
name_stays (token.Text text) e = refl
name_stays token.Indent e = refl
name_stays token.Dedent e = cc
name_stays token.Newline e = refl
name_stays token.Finish e = refl

pub imports_stay : PartsBegin stays SpellsImport
imports_stay xs i (Import_line {xs = ps} {ys} newline path name ends) =
    begins_longer stays (ps ++ ys) (newline ∷ []) (begins_longer stays ps ys (begins_not is_name is_dedent name_stays ps (reference_begins path)))

-- ---- the features

abbrev FeaturesParts : Spelling (Option Feature)
FeaturesParts = Either (Then (IsOne (is_word word.Features)) (λ place. Then (IsOne is_newline) (λ newline. Then (IsOne is_indent) (λ indent.
    Then SpellsTree (λ root. Then (IsOne is_dedent) (λ dedent. IsDone (Some root))))))) (IsDone None)

features_of : (xs : List Token) (f : Option Feature) → FeaturesParts xs f → SpellsFeatures xs f
features_of xs f (inl t) =
    let first = opened t in
    let newline = opened first.second in
    let indent = opened newline.second in
    let dedent = opened indent.second.second in
    respell SpellsFeatures (Root first.token newline.token indent.token dedent.token (word_kind word.Features first.token.kind first.passes)
    (newline_kind newline.token.kind newline.passes) (indent_kind indent.token.kind indent.passes) indent.second.first (dedent_kind dedent.token.kind dedent.passes))
    (first.joins ∙ ap (λ z. first.token ∷ z) (newline.joins ∙ ap (λ z. newline.token ∷ z) (indent.joins ∙ ap (λ z. indent.token ∷ z) (indent.second.joins
    ∙ ap (λ z. indent.second.front ++ z) (dedent.joins ∙ ap (λ z. dedent.token ∷ z) dedent.second.nothing)))))
    dedent.second.gives
features_of xs f (inr t) = respell SpellsFeatures No_features t.nothing t.gives

features_parts : (xs : List Token) (f : Option Feature) → SpellsFeatures xs f → FeaturesParts xs f
features_parts xs f No_features = inr done_now
features_parts xs f (Root t newline indent dedent is ends opens root closes) =
    inl (one_then t (kind_word word.Features t.kind is) (one_then newline (ap is_newline ends) (one_then indent (ap is_indent opens)
    (part_then _ _ _ root (one_then dedent (ap is_dedent closes) done_now)))))

pub features_good : {d n : ℕ} → Good (λ m. features) SpellsFeatures d n
unfolding features
features_good = spelled_so features_of (choose_good (is_word word.Features)
    (then_good (word_good word.Features) (λ place. then_good newline_good (λ newline. then_good indent_good (λ indent. then_good tree_good (λ root.
    then_good dedent_good (λ dedent. done_good))))))
    done_good)

pub features_complete : {d : ℕ} → Complete (λ m. features) SpellsFeatures (Avoids (is_word word.Features)) d
unfolding features
features_complete = spelled_complete features_parts (choose_complete (is_word word.Features)
    (next_complete one_complete (λ place. next_complete one_complete (λ newline. next_complete one_complete (λ indent. then_complete tree_complete
    (λ root. next_complete one_complete (λ dedent. done_complete (Avoids (is_word word.Features))))
    (λ root ys f rest t avoids. let dedent = opened t in
    subst (λ (z : List Token). Avoids is_indent (z ++ rest)) (sym dedent.joins) (dedent_avoids is_indent refl (dedent.token ∷ dedent.back ++ rest) dedent.passes))))))
    (done_complete (Avoids (is_word word.Features)))
    (λ xs f rest t avoids. word_opens word.Features xs f rest t)
    (λ xs f rest t avoids. nothing_avoids (is_word word.Features) xs f rest t avoids))

-- ---- lines of `constraints`

abbrev RuleParts : Spelling Expr
RuleParts = Then SpellsExpr (λ e. Then (IsOne is_newline) (λ newline. IsDone e))

rule_of : (xs : List Token) (e : Expr) → RuleParts xs e → SpellsRule xs e
rule_of xs e t =
    let newline = opened t.second in
    respell SpellsRule (Rule newline.token t.first (newline_kind newline.token.kind newline.passes))
    (t.joins ∙ ap (λ z. t.front ++ z) (newline.joins ∙ ap (λ z. newline.token ∷ z) newline.second.nothing)) newline.second.gives

rule_parts : (xs : List Token) (e : Expr) → SpellsRule xs e → RuleParts xs e
rule_parts xs e (Rule newline r ends) = part_then _ _ _ r (one_then newline (ap is_newline ends) done_now)

pub rule_good : {d n : ℕ} → Good (λ m. rule) SpellsRule d n
unfolding rule
rule_good = spelled_so rule_of (then_good expression_good (λ e. then_good newline_good (λ newline. done_good)))

pub rule_complete : {d : ℕ} → Complete (λ m. rule) SpellsRule Anything d
unfolding rule
rule_complete = spelled_complete rule_parts (then_complete expression_complete (λ e. next_complete one_complete (λ newline. done_complete Anything))
    (λ e ys v rest t any. let newline = opened t in newline_looser (ys ++ rest)
    (subst (λ (z : List Token). Begins is_newline (z ++ rest)) (sym newline.joins) newline.passes)))

expression_stays : (kind : TokenKind) → begins_expression kind ≡ true → is_dedent kind ≡ false
expression_stays (token.Name name quoted) e = refl
expression_stays (token.Word w) e = refl
expression_stays (token.Symbol s) e = refl
expression_stays (token.Number n whole) e = refl
expression_stays (token.Text text) e = refl
expression_stays token.Indent e = refl
expression_stays token.Dedent e = cc
expression_stays token.Newline e = refl
expression_stays token.Finish e = refl

pub rules_stay : PartsBegin stays SpellsRule
rules_stay xs e (Rule {xs = ys} newline r ends) =
    begins_longer stays ys (newline ∷ []) (begins_not begins_expression is_dedent expression_stays ys (expression_begins r))
