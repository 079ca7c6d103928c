-- A file that keeps a limit is clear where each of its lines is: its tree of features and its sections, gone
-- through line by line.
use Rattle.std.specs.Prelude.{◌≡◌, ℕ, zero, suc, ◌+◌, ◌≤◌, Bool, true, false, List, [], ◌∷◌, ◌++◌, Option, Some, IfSome}
use Rattle.std.specs.List.{All}
use Rattle.std.proofs.Common.{refl, sym, ap, subst, inr, arith, append_assoc}
use Rattle.uvl_lexer.specs.declared.token.Token.{Token}
use Rattle.uvl_lexer.specs.declared.token.TokenKind.TheVariants as token
use Rattle.uvl_base.specs.declared.word.Word.{Word}
use Rattle.uvl_base.specs.declared.word.Word.TheVariants as word
use Rattle.uvl_ast.specs.declared.names.Ref.{Ref}
use Rattle.uvl_ast.specs.declared.expression.Expr.{Expr}
use Rattle.uvl_ast.specs.declared.feature.Feature.{Feature, roll-Feature}
use Rattle.uvl_ast.specs.declared.feature.Group.{Group, roll-Group}
use Rattle.uvl_ast.specs.declared.feature.Feature.TheOpen.{Feature-F, Group-F}
use Rattle.uvl_ast.specs.declared.file.File.{File}
use Rattle.uvl_profile.specs.declared.section.Section.{Section}
use Rattle.uvl_profile.specs.declared.section.Section.TheVariants.{Include, Imports, Features, Constraints}
use Rattle.uvl_grammar.specs.declared.entry.Entry.{Entry}
use Rattle.uvl_grammar.specs.Tokens.{IsWord, IsNewline, IsIndent, IsDedent, IsFinish}
use Rattle.uvl_grammar.specs.Shapes.{Spelling, Body, No_body, Indented}
use Rattle.uvl_grammar.specs.Refs.{SpellsRef}
use Rattle.uvl_grammar.specs.Braces.{attributes_of, rules_of, SpellsBraces}
use Rattle.uvl_grammar.specs.Groups.{GroupFront, SpellsKind}
use Rattle.uvl_grammar.specs.Features.{SpellsBoolean, SpellsGroup, Members, Line, FeatureWithin, SpellsTree}
use Rattle.uvl_grammar.specs.Sections.{SpellsSection, No_section, Lines, SpellsNamespace, SpellsLevel, SpellsImport, SpellsFeatures, No_features, Root, SpellsRule}
use Rattle.uvl_grammar.specs.File.{Spells, A_file}
use Rattle.uvl_profile.specs.Lines.{is_layout}
use Rattle.uvl_profile.specs.Sections.{section_named}
use Rattle.uvl_faults.proofs.Walking.{walk, Clear, InLine, in_line_append, in_line_of_body, LineBegins, next_line, deeper_line, outer_line}
use Rattle.uvl_faults.proofs.Inline.{ref_inline, braces_inline, kind_inline, boolean_inline}
use Rattle.uvl_faults.proofs.Sectioned.{Between, headed, body_begins, closed, namespace_passed}
use Rattle.uvl_faults.proofs.Clearing.{ClearUntil, Clears, clear_append, clear_then, one_or_more_clears, body_clears}

-- ---- lines

-- nothing is met at the marks between lines
abbrev pub SparesMarks : (List Token → Token → Bool) → Type 0
SparesMarks met = (before : List Token) (t : Token) → is_layout t.kind ≡ true → met before t ≡ false

-- lines of a section in some indentations are clear where they keep a limit, and are followed by lines there
abbrev pub LinesClear : {A : Type 0} → (List Token → Token → Bool) → Section → ℕ → Spelling A → (A → Type 0) → Type 0
LinesClear met s n Part Within = Clears met (LineBegins s n) (LineBegins s n) Part Within

module _ (met : List Token → Token → Bool) (marks : SparesMarks met) (s : Section) (n : ℕ) where
  -- a line, where what stands in it is clear, and what follows it
  line_then : (Q : List Token → Type 0) (before xs : List Token) (newline : Token) (ys : List Token)
      → LineBegins s n before → InLine xs → IsNewline newline → Clear met before xs
      → (LineBegins s n (newline ∷ walk before xs) → ClearUntil met Q (newline ∷ walk before xs) ys)
      → ClearUntil met Q before (xs ++ newline ∷ ys)
  line_then Q before xs newline ys here inline ends clear back =
      let at = in_line_of_body s n before xs here.part inline in
      let rest = back (next_line s n (walk before xs) newline at ends) in
      clear_then met (λ b. Unit {0}) Q before xs (newline ∷ ys) (clear, tt)
      λ now. ((marks (walk before xs) newline (ap is_layout ends), rest.0), rest.1)

  -- a line alone
  pub line_clears : (before xs : List Token) (newline : Token) → LineBegins s n before → InLine xs → IsNewline newline
      → Clear met before xs → ClearUntil met (LineBegins s n) before (xs ++ newline ∷ [])
  line_clears before xs newline here inline ends clear =
      line_then (LineBegins s n) before xs newline [] here inline ends clear λ now. (tt, now)

  -- what is indented below a line
  indented_clears : {A : Type 0} → 1 ≤ n → (Part : Spelling A) (Within : A → Type 0)
      → LinesClear met s (n + 1) Part Within → LinesClear met s n (Body Part) (All Within)
  indented_clears some Part Within step =
      body_clears met (LineBegins s n) (LineBegins s (n + 1)) Part Within step
      (λ before t here is. (marks before t (ap is_layout is), deeper_line s n before t here.part is))
      λ before t here is. (marks before t (ap is_layout is), outer_line s (n + 1) n before t refl some here.part is)

-- ---- trees

-- one feature of a tree, as it is spelled
abbrev pub feature_of : Ref → List Entry → List Group → Feature-F Feature Group
feature_of name entries groups =
    record { name = name; attributes = attributes_of entries; rules = rules_of entries; groups = groups }

-- one group
abbrev pub group_of : GroupFront → List Feature → Group-F Feature Group
group_of front members = record { kind = front.0; members = members; place = front.1 }

-- A limit of the features and groups whose lines stand in some indentations: those below them keep that of one more.
module _ (met : List Token → Token → Bool) (marks : SparesMarks met)
    (Within : ℕ → Feature → Type 0) (GroupWithin : ℕ → Group → Type 0)
    (groups_within : (n : ℕ) (r : Feature-F Feature Group) → Within n (roll-Feature r) → All (GroupWithin (n + 1)) r.groups)
    (members_within : (n : ℕ) (r : Group-F Feature Group) → GroupWithin n (roll-Group r) → All (Within (n + 1)) r.members)
    (kind_clear : (n : ℕ) (before xs : List Token) (front : GroupFront) (members : List Feature) → LineBegins Features n before
    → GroupWithin n (roll-Group (group_of front members)) → SpellsKind xs front → Clear met before xs)
    (line_clear : (n : ℕ) (before bs xs ys : List Token) (name : Ref) (entries : List Entry) (groups : List Group)
    → LineBegins Features n before → Within n (roll-Feature (feature_of name entries groups))
    → SpellsBoolean bs → SpellsRef xs name → SpellsBraces ys entries → Clear met before (bs ++ xs ++ ys)) where
  group_clears : (n : ℕ) → 1 ≤ n → (Member : Spelling Feature) → LinesClear met Features (n + 1) Member (Within (n + 1))
      → LinesClear met Features n (SpellsGroup Member) (GroupWithin n)
  group_clears n some Member step before ts g here within
      (Members {xs} {ys} newline indent dedent {front} {members} kind ends opens parts closes) =
      let each = members_within n (group_of front members) within in
      let line = newline ∷ walk before xs in
      let body = indent ∷ ys ++ dedent ∷ [] in
      subst (ClearUntil met (LineBegins Features n) before) (sym (append_assoc xs (newline ∷ indent ∷ ys) (dedent ∷ [])))
      (line_then met marks Features n (LineBegins Features n) before xs newline body here (kind_inline xs front kind) ends
      (kind_clear n before xs front members here within kind)
      λ now. indented_clears met marks Features n some Member (Within (n + 1)) step line body members now each
      (Indented indent dedent opens parts closes))

  pub tree_clears : (d n : ℕ) → 1 ≤ n → LinesClear met Features n (FeatureWithin d) (Within n)
  tree_clears zero n some before ts f here within spelled = absurd spelled
  tree_clears (suc d) n some before ts f here within
      (Line {bs} {xs} {ys} {zs} newline {r = name} {entries} {groups} said named braced ends below) =
      let first = in_line_append bs xs (boolean_inline bs said) (ref_inline xs name named) in
      let inline = in_line_append (bs ++ xs) ys first (braces_inline ys entries braced) in
      let each = groups_within n (feature_of name entries groups) within in
      let group = group_clears (n + 1) (omega arith) (FeatureWithin d) (tree_clears d (n + 1 + 1) (omega arith)) in
      line_then met marks Features n (LineBegins Features n) before (bs ++ xs ++ ys) newline zs here inline ends
      (line_clear n before bs xs ys name entries groups here within said named braced)
      λ line. indented_clears met marks Features n some (SpellsGroup (FeatureWithin d)) (GroupWithin (n + 1)) group
      (newline ∷ walk before (bs ++ xs ++ ys)) zs groups line each below

-- ---- sections

-- nothing is met at the word of a section
abbrev pub SparesHeadings : (List Token → Token → Bool) → Type 0
SparesHeadings met = (before : List Token) (t : Token) (w : Word) → Between before → IsWord w t → met before t ≡ false

module _ (met : List Token → Token → Bool) (marks : SparesMarks met) (headings : SparesHeadings met) where
  module _ (w : Word) (s : Section) (named : section_named (token.Word w) ≡ Some s) where
    -- a section with a body
    with_body : (before : List Token) (t newline indent dedent : Token) (xs : List Token) → Between before
        → IsWord w t → IsNewline newline → IsIndent indent → IsDedent dedent
        → (LineBegins s 1 (indent ∷ newline ∷ t ∷ before) → ClearUntil met (LineBegins s 1) (indent ∷ newline ∷ t ∷ before) xs)
        → ClearUntil met Between before (t ∷ newline ∷ indent ∷ xs ++ dedent ∷ [])
    with_body before t newline indent dedent xs between is ends opens closes inside =
        let front = indent ∷ newline ∷ t ∷ before in
        let body = inside (body_begins before t w s is named between newline indent ends opens) in
        let rest = clear_then met (LineBegins s 1) Between front xs (dedent ∷ []) body λ now.
        ((marks (walk front xs) dedent (ap is_layout closes), tt), closed s (walk front xs) dedent now.part closes) in
        let at_newline = marks (t ∷ before) newline (ap is_layout ends) in
        let at_indent = marks (newline ∷ t ∷ before) indent (ap is_layout opens) in
        ((headings before t w between is, (at_newline, (at_indent, rest.0))), rest.1)

    section_clears : {A : Type 0} (Part : Spelling A) (Within : A → Type 0) → LinesClear met s 1 Part Within
        → Clears met Between Between (SpellsSection w Part) (All Within)
    section_clears Part Within step before ts items between each No_section = (tt, between)
    section_clears Part Within step before ts items between each (Lines t newline is ends No_body) = (
      (headings before t w between is, (marks (t ∷ before) newline (ap is_layout ends), tt)),
      record { begins = ap is_layout ends; part = inr (s, headed before t w s is named between newline ends) },
    )
    section_clears Part Within step before ts items between each
        (Lines t newline is ends (Indented indent dedent {xs} opens lines closes)) =
        with_body before t newline indent dedent xs between is ends opens closes λ inner.
        one_or_more_clears met (LineBegins s 1) Part Within step (indent ∷ newline ∷ t ∷ before) xs items inner each lines

  root_clears : (Within : Feature → Type 0) → LinesClear met Features 1 SpellsTree Within
      → Clears met Between Between SpellsFeatures (λ root. IfSome root Within)
  root_clears Within step before ts root between within No_features = (tt, between)
  root_clears Within step before ts root between within
      (Root t newline indent dedent {xs} {root = tree} is ends opens spelled closes) =
      with_body word.Features Features refl before t newline indent dedent xs between is ends opens closes λ inner.
      step (indent ∷ newline ∷ t ∷ before) xs tree inner within spelled

  -- ---- files

  -- The sections of a file one behind the other, where the parts of each are clear; nothing is asked of the paths.
  module _ (namespace_clear : (xs : List Token) (r : Option Ref) → SpellsNamespace xs r → Clear met [] xs)
      (level_step : LinesClear met Include 1 SpellsLevel (λ level. Unit {0}))
      (import_step : LinesClear met Imports 1 SpellsImport (λ line. Unit {0}))
      (Within : Feature → Type 0) (tree_step : LinesClear met Features 1 SpellsTree Within)
      (RuleWithin : Expr → Type 0) (rule_step : LinesClear met Constraints 1 SpellsRule RuleWithin)
      (finish_clear : (before : List Token) (t : Token) → IsFinish t → met before t ≡ false) where
    pub file_clears : (tokens : List Token) (file : File) → Spells tokens file → IfSome file.root Within
        → All RuleWithin file.rules → Clear met [] tokens
    file_clears tokens file
        (A_file {ns} {ls} {ms} {fs} {rs} finish {namespace} {levels} {imports} {root} {rules} named included imported tree ruled is)
        within each =
        let behind = clear_then met Between Between [] in
        let levels_clear = section_clears word.Include Include refl SpellsLevel (λ level. Unit {0}) level_step in
        let imports_clear = section_clears word.Imports Imports refl SpellsImport (λ line. Unit {0}) import_step in
        let rules_clear = section_clears word.Constraints Constraints refl SpellsRule RuleWithin rule_step in
        let one : ClearUntil met Between [] ns = (namespace_clear ns namespace named, namespace_passed ns namespace named) in
        let two = behind ns ls one λ now. levels_clear (walk [] ns) ls levels now (λ k d less. tt) included in
        let paths = ns ++ ls ++ ms in
        let three = behind (ns ++ ls) ms two λ now.
        imports_clear (walk [] (ns ++ ls)) ms imports now (λ k d less. tt) imported in
        let four = behind paths fs three λ now. root_clears Within tree_step (walk [] paths) fs root now within tree in
        let five = behind (paths ++ fs) rs four λ now. rules_clear (walk [] (paths ++ fs)) rs rules now each ruled in
        let last = finish_clear (walk [] (paths ++ fs ++ rs)) finish is in
        clear_append met [] (paths ++ fs ++ rs) (finish ∷ []) five.0 (last, tt)
