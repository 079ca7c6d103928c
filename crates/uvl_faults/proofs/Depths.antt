-- In a file without named faults features nest no deeper than they may.
use Rattle.std.specs.Prelude.{◌≡◌, ℕ, zero, suc, ◌+◌, ◌≤◌, Bool, true, ◌&&◌, ◌||◌, List, [], ◌∷◌, ◌++◌, Some}
use Rattle.std.proofs.Common.{refl, sym, ap, subst, ◌∙◌, arith, eq-eqb}
use Rattle.std.proofs.lemmas.Bool.{both_ways}
use Rattle.uvl_lexer.specs.declared.token.Token.{Token}
use Rattle.uvl_lexer.specs.declared.token.TokenKind.{TokenKind}
use Rattle.uvl_lexer.specs.declared.token.TokenKind.TheVariants as token
use Rattle.uvl_base.specs.declared.word.Word.TheVariants as word
use Rattle.uvl_ast.specs.declared.names.Ref.{Ref}
use Rattle.uvl_ast.specs.declared.feature.Feature.{Feature}
use Rattle.uvl_profile.specs.declared.section.Section.TheVariants.{Features}
use Rattle.uvl_grammar.specs.steps.Tests.{is_word}
use Rattle.uvl_grammar.specs.Tokens.{name_of}
use Rattle.uvl_grammar.specs.Shapes.{Spelling, Body, No_body, Indented}
use Rattle.uvl_grammar.specs.Refs.{SpellsRef, Reference}
use Rattle.uvl_grammar.specs.Features.{SpellsBoolean, Not_said, Said, SpellsGroup, Members, Line, FeatureWithin}
use Rattle.uvl_profile.specs.Lines.{is_layout, begins_line}
use Rattle.uvl_profile.specs.Sections.{part_of}
use Rattle.uvl_profile.specs.Met.{is_name, names_feature, is_below_most_depth, is_feature_too_deep}
use Rattle.uvl_faults.proofs.Walking.{walk, walk_append, Clear, clear_front, clear_back, in_line_append, in_line_of_body, LineBegins, next_line, deeper_line, outer_line, Passes, one_or_more_passes}
use Rattle.uvl_faults.proofs.Inline.{ref_inline, braces_inline, kind_inline, boolean_inline}

-- a feature at depth 65 is named there
abbrev pub deep : List Token → Token → Bool
deep before t = is_feature_too_deep before t.kind

name_there : (kind : TokenKind) (name : List ℕ) → name_of kind ≡ Some name → is_name kind ≡ true
name_there (token.Name n quoted) name e = refl
name_there (token.Word w) name e = cc
name_there (token.Symbol s) name e = cc
name_there (token.Number value whole) name e = cc
name_there (token.Text text) name e = cc
name_there token.Indent name e = cc
name_there token.Dedent name e = cc
name_there token.Newline name e = cc
name_there token.Finish name e = cc

-- a line that begins, with or without the word Boolean, has its reference there
reference_there : (n : ℕ) (before bs : List Token) → LineBegins Features n before → SpellsBoolean bs → names_feature (walk before bs) ≡ true
reference_there n [] bs here Not_said = let e = here.part in cc
reference_there n (t ∷ before) bs here Not_said = ap (λ b. b || (is_word word.Boolean t.kind && begins_line before)) here.begins
reference_there n before bs here (Said t is) =
    ap (λ kind. is_layout kind || (is_word word.Boolean kind && begins_line before)) is ∙ here.begins

-- so at depth 65 it is named
reference_deep : (n : ℕ) (before bs rs : List Token) (r : Ref) → LineBegins Features n before → SpellsBoolean bs → SpellsRef rs r
    → Clear deep (walk before bs) rs → n ≡ 129 → ⊥
reference_deep n before bs rs r here said (Reference t {name} named names) clear is =
    let b = walk before bs in
    let at = in_line_of_body Features n before bs here.part (boolean_inline bs said) in
    let met : is_feature_too_deep b t.kind ≡ true =
    ap (λ x. x && names_feature b && is_below_most_depth (part_of b)) (name_there t.kind name named)
    ∙ ap (λ x. x && is_below_most_depth (part_of b)) (reference_there n before bs here said)
    ∙ ap is_below_most_depth at ∙ eq-eqb n 129 is in
    both_ways (is_feature_too_deep b t.kind) clear.0 met

-- ---- a body of groups

module _ (met : List Token → Token → Bool) where
  -- what is indented below a line goes over into another such
  pub body_passes : {A : Type 0} (n : ℕ) → 1 ≤ n → (R S : Spelling A) → Passes met (LineBegins Features (n + 1)) R S
      → Passes met (LineBegins Features n) (Body R) (Body S)
  body_passes n some R S step before zs items here clear No_body = (No_body, here)
  body_passes n some R S step before zs items here clear (Indented indent dedent {xs} is parts closes) =
      let inner = deeper_line Features n before indent here.part is in
      let passed = one_or_more_passes met (LineBegins Features (n + 1)) R S step (indent ∷ before) xs items inner (clear_front met before (indent ∷ xs) (dedent ∷ []) clear).1 parts in
      let after = outer_line Features (n + 1) n (walk (indent ∷ before) xs) dedent refl some passed.1.part closes in
      (Indented indent dedent is passed.0 closes, subst (LineBegins Features n) (sym (walk_append before (indent ∷ xs) (dedent ∷ []))) after)

  -- a group
  pub group_passes : (n : ℕ) → (M N : Spelling Feature) → Passes met (LineBegins Features (n + 2)) M N
      → Passes met (LineBegins Features (n + 1)) (SpellsGroup M) (SpellsGroup N)
  group_passes n M N step before zs group here clear (Members {xs} {ys} newline indent dedent kind ends opens members closes) =
      let front = walk before xs in
      let at = in_line_of_body Features (n + 1) before xs here.part (kind_inline xs _ kind) in
      let line = next_line Features (n + 1) front newline at ends in
      let inner : LineBegins Features (n + 2) (indent ∷ newline ∷ front) =
      subst (λ k. LineBegins Features k (indent ∷ newline ∷ front)) (omega arith) (deeper_line Features (n + 1) (newline ∷ front) indent line.part opens) in
      let clear_all = clear_front met before (xs ++ newline ∷ indent ∷ ys) (dedent ∷ []) clear in
      let clear_ys = (clear_back met before xs (newline ∷ indent ∷ ys) clear_all).1.1 in
      let passed = one_or_more_passes met (LineBegins Features (n + 2)) M N step (indent ∷ newline ∷ front) ys _ inner clear_ys members in
      let after = outer_line Features (n + 2) (n + 1) (walk (indent ∷ newline ∷ front) ys) dedent (omega arith) (omega arith) passed.1.part closes in (
        Members newline indent dedent kind ends opens passed.0 closes,
        subst (LineBegins Features (n + 1))
            (sym (walk_append before (xs ++ newline ∷ indent ∷ ys) (dedent ∷ []) ∙ ap (λ b. walk b (dedent ∷ [])) (walk_append before xs (newline ∷ indent ∷ ys)))) after,
      )

-- ---- features

-- A feature at depth j nests less than 66 - j deep.
pub feature_passes : (d m j n : ℕ) → m + j ≡ 65 → n + 1 ≡ j + j → Passes deep (LineBegins Features n) (FeatureWithin d) (FeatureWithin m)
feature_passes zero m j n total indented before ts f here clear spelled = absurd spelled
feature_passes (suc d) zero j n total indented before ts f here clear (Line {bs} {xs} {ys} {zs} newline said r entries ends groups) =
    let clear_front_of = clear_front deep before (bs ++ xs) ys (clear_front deep before (bs ++ xs ++ ys) (newline ∷ zs) clear) in
    absurd (reference_deep n before bs xs _ here said r (clear_back deep before bs xs clear_front_of) (omega arith))
feature_passes (suc d) (suc k) j n total indented before ts f here clear (Line {bs} {xs} {ys} {zs} newline said r entries ends groups) =
    let whole = bs ++ xs ++ ys in
    let inline = in_line_append (bs ++ xs) ys (in_line_append bs xs (boolean_inline bs said) (ref_inline xs _ r)) (braces_inline ys _ entries) in
    let at = in_line_of_body Features n before whole here.part inline in
    let line = next_line Features n (walk before whole) newline at ends in
    let some : 1 ≤ n = omega arith in
    let member = feature_passes d k (j + 1) (n + 2) (omega arith) (omega arith) in
    let group = group_passes deep n (FeatureWithin d) (FeatureWithin k) member in
    let passed = body_passes deep n some (SpellsGroup (FeatureWithin d)) (SpellsGroup (FeatureWithin k)) group (newline ∷ walk before whole) zs _ line
    (clear_back deep before whole (newline ∷ zs) clear).1 groups in
    (Line newline said r entries ends passed.0, subst (LineBegins Features n) (sym (walk_append before whole (newline ∷ zs))) passed.1)
