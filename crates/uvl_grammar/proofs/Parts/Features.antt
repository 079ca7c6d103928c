-- The tree of features is read exactly.
use Rattle.std.specs.Prelude.{◌≡◌, ℕ, zero, suc, ◌<◌, ◌-◌, Bool, true, false, not, List, [], ◌∷◌, ◌++◌}
use Rattle.std.proofs.Common.{refl, sym, ap, subst, ◌∙◌, inl, inr, arith, append_assoc}
use Rattle.uvl_base.specs.declared.place.Place.{Place}
use Rattle.uvl_lexer.specs.declared.token.Token.{Token}
use Rattle.uvl_lexer.specs.declared.token.TokenKind.{TokenKind}
use Rattle.uvl_lexer.specs.declared.token.TokenKind.TheVariants as token
use Rattle.uvl_base.specs.declared.word.Word.TheVariants as word
use Rattle.uvl_lexer.specs.declared.token.Symbol.TheVariants as symbol
use Rattle.uvl_ast.specs.declared.names.Ref.{Ref}
use Rattle.uvl_ast.specs.declared.feature.Feature.{Feature, roll-Feature}
use Rattle.uvl_ast.specs.declared.feature.Group.{Group, roll-Group}
use Rattle.uvl_grammar.specs.steps.Tests.{Test, is_word, is_symbol, is_newline, is_indent, is_dedent, stays}
use Rattle.uvl_grammar.specs.Shapes.{Spelling, OneOrMore, Body, No_body}
use Rattle.uvl_grammar.specs.Refs.{SpellsRef}
use Rattle.uvl_grammar.specs.declared.entry.Entry.{Entry}
use Rattle.uvl_grammar.specs.Braces.{attributes_of, rules_of, SpellsBraces, No_braces, Entries}
use Rattle.uvl_grammar.specs.Groups.{SpellsKind}
use Rattle.uvl_grammar.specs.Features.{SpellsBoolean, Not_said, Said, SpellsGroup, Members, SpellsFeature, Line, FeatureWithin, SpellsTree}
use Rattle.uvl_grammar.specs.steps.Reading.{Reader}
use Rattle.uvl_grammar.specs.steps.Features.{boolean, group_with, feature_with, feature_at, tree}
use Rattle.uvl_grammar.proofs.TokenKinds.{word_kind, kind_word, newline_kind, indent_kind, dedent_kind}
use Rattle.uvl_grammar.proofs.Readers.{Good, Then, Example, IsOne, IsDone, Either, HasToken, then_good, spelled_so, done_good, choose_good, good_closed, Opened, opened, respell}
use Rattle.uvl_grammar.proofs.Completing.{Complete, Anything, Begins, Avoids, PartsBegin, has_token, one_complete, next_complete, then_complete, last_complete, done_complete, spelled_complete, choose_complete, complete_deeper, complete_closed, one_then, part_then, part_last, done_now}
use Rattle.uvl_grammar.proofs.Opened.{good_deeper}
use Rattle.uvl_grammar.proofs.Deeper.{behind_good}
use Rattle.uvl_grammar.proofs.Firsts.{is_name, name_avoids, newline_avoids, dedent_avoids, begins_longer, begins_avoids}
use Rattle.uvl_grammar.proofs.Shaped.{with_nothing, one_or_more_good, one_or_more_complete, body_good, body_complete}
use Rattle.uvl_grammar.proofs.Parts.Samples.{sample, word_good, newline_good, indent_good, dedent_good}
use Rattle.uvl_grammar.proofs.Parts.Refs.{reference_good, reference_complete}
use Rattle.uvl_grammar.proofs.Parts.Beginnings.{reference_begins}
use Rattle.uvl_grammar.proofs.Parts.Groups.{front_good, front_complete, fronts_stay}
use Rattle.uvl_grammar.proofs.Parts.Braces.{braces_good, braces_complete}

-- ---- the word Boolean

abbrev BooleanParts : Spelling (Unit {0})
BooleanParts = Either (Then (IsOne (is_word word.Boolean)) (λ place. IsDone tt)) (IsDone tt)

boolean_good : {d n : ℕ} → Good (λ m. boolean) BooleanParts d n
unfolding boolean
boolean_good = choose_good (is_word word.Boolean) (then_good (word_good word.Boolean) (λ place. done_good)) done_good

boolean_of : (xs : List Token) (u : Unit {0}) → BooleanParts xs u → SpellsBoolean xs
boolean_of xs u (inl t) =
    let said = opened t in
    subst SpellsBoolean (sym (said.joins ∙ ap (λ z. said.token ∷ z) said.second.nothing)) (Said said.token (word_kind word.Boolean said.token.kind said.passes))
boolean_of xs u (inr t) = subst SpellsBoolean (sym t.nothing) Not_said

-- ---- what is read is spelled

-- what begins a feature: a name, or the word Boolean
abbrev begins_feature : Test
begins_feature (token.Name name quoted) = true
begins_feature (token.Word word.Boolean) = true
begins_feature _ = false

name_begins_feature : (kind : TokenKind) → is_name kind ≡ true → begins_feature kind ≡ true
name_begins_feature (token.Name name quoted) e = refl
name_begins_feature (token.Word w) e = cc
name_begins_feature (token.Symbol s) e = cc
name_begins_feature (token.Number n whole) e = cc
name_begins_feature (token.Text text) e = cc
name_begins_feature token.Indent e = cc
name_begins_feature token.Dedent e = cc
name_begins_feature token.Newline e = cc
name_begins_feature token.Finish e = cc

begins_so : (xs : List Token) → Begins is_name xs → Begins begins_feature xs
begins_so [] begins = absurd begins
begins_so (t ∷ ts) begins = name_begins_feature t.kind begins

line_begins : (bs xs : List Token) (ys : List Token) → SpellsBoolean bs → Begins is_name xs → Begins begins_feature ((bs ++ xs) ++ ys)
line_begins bs xs ys Not_said begins = begins_longer begins_feature xs ys (begins_so xs begins)
line_begins bs xs ys (Said t is) begins = ap begins_feature is

feature_begins : (M : Spelling Feature) (xs : List Token) (f : Feature) → SpellsFeature M xs f → Begins begins_feature xs
feature_begins M xs f (Line {bs} {xs = rs} {ys} {zs} newline said r entries is groups) =
    begins_longer begins_feature ((bs ++ rs) ++ ys) (newline ∷ zs) (line_begins bs rs ys said (reference_begins r))

feature_fails : (test : Test) → ((name : List ℕ) (quoted : Bool) → test (token.Name name quoted) ≡ false) → test (token.Word word.Boolean) ≡ false
    → (kind : TokenKind) → begins_feature kind ≡ true → test kind ≡ false
feature_fails test name boolean (token.Name n quoted) e = name n quoted
feature_fails test name boolean (token.Word word.Boolean) e = boolean
feature_fails test name boolean (token.Word w) e = cc
feature_fails test name boolean (token.Symbol s) e = cc
feature_fails test name boolean (token.Number n whole) e = cc
feature_fails test name boolean (token.Text text) e = cc
feature_fails test name boolean token.Indent e = cc
feature_fails test name boolean token.Dedent e = cc
feature_fails test name boolean token.Newline e = cc
feature_fails test name boolean token.Finish e = cc

feature_stays : (kind : TokenKind) → begins_feature kind ≡ true → stays kind ≡ true
feature_stays (token.Name n quoted) e = refl
feature_stays (token.Word w) e = refl
feature_stays (token.Symbol s) e = refl
feature_stays (token.Number n whole) e = refl
feature_stays (token.Text text) e = refl
feature_stays token.Indent e = refl
feature_stays token.Dedent e = cc
feature_stays token.Newline e = refl
feature_stays token.Finish e = refl

stays_so : (xs : List Token) → Begins begins_feature xs → Begins stays xs
stays_so [] begins = absurd begins
stays_so (t ∷ ts) begins = feature_stays t.kind begins

within_begins : (d : ℕ) (xs : List Token) (f : Feature) → FeatureWithin d xs f → Begins begins_feature xs
within_begins zero xs f r = absurd r
within_begins (suc d) xs f r = feature_begins (FeatureWithin d) xs f r

features_stay : (d : ℕ) → PartsBegin stays (FeatureWithin d)
features_stay d xs f r = stays_so xs (within_begins d xs f r)

groups_stay : (M : Spelling Feature) → PartsBegin stays (SpellsGroup M)
groups_stay M xs g (Members {xs = fs} {ys} newline indent dedent front is opens members closes) =
    begins_longer stays (fs ++ newline ∷ indent ∷ ys) (dedent ∷ []) (begins_longer stays fs (newline ∷ indent ∷ ys) (fronts_stay fs _ front))

abbrev GroupParts : Spelling Feature → Spelling Group
GroupParts M = Then SpellsKind (λ front. Then (IsOne is_newline) (λ newline. Then (IsOne is_indent) (λ indent. Then (OneOrMore M) (λ members.
    Then (IsOne is_dedent) (λ dedent. IsDone (roll-Group (record { kind = front.0; members = members; place = front.1 })))))))

group_of : (M : Spelling Feature) (xs : List Token) (g : Group) → GroupParts M xs g → SpellsGroup M xs g
group_of M xs g t =
    let newline = opened t.second in
    let indent = opened newline.second in
    let dedent = opened indent.second.second in
    respell (SpellsGroup M) (Members newline.token indent.token dedent.token t.first (newline_kind newline.token.kind newline.passes)
    (indent_kind indent.token.kind indent.passes) indent.second.first (dedent_kind dedent.token.kind dedent.passes))
    (t.joins ∙ ap (λ z. t.front ++ z) (newline.joins ∙ ap (λ z. newline.token ∷ z) (indent.joins ∙ ap (λ z. indent.token ∷ z) (indent.second.joins
    ∙ ap (λ z. indent.second.front ++ z) (dedent.joins ∙ ap (λ z. dedent.token ∷ z) dedent.second.nothing))))
    ∙ sym (append_assoc t.front (newline.token ∷ indent.token ∷ indent.second.front) (dedent.token ∷ [])))
    dedent.second.gives

group_good : {p : ℕ → Reader Feature} {M : Spelling Feature} {d n : ℕ} → Good p M d n → HasToken M → Good (λ m. group_with (p m)) (SpellsGroup M) d n
unfolding group_with
group_good {p} {M} good has = spelled_so (group_of M) (then_good front_good (λ front. then_good newline_good (λ newline. then_good indent_good (λ indent.
    then_good (one_or_more_good stays good has) (λ members. then_good dedent_good (λ dedent. done_good))))))

-- what is behind the name of a feature
abbrev LineParts : Spelling Feature → Ref → Spelling Feature
LineParts M name = Then SpellsBraces (λ entries. Then (IsOne is_newline) (λ newline. Then (Body (SpellsGroup M)) (λ groups.
    IsDone (roll-Feature (record { name = name; attributes = attributes_of entries; rules = rules_of entries; groups = groups })))))

abbrev FeatureParts : Spelling Feature → Spelling Feature
FeatureParts M = Then BooleanParts (λ said. Then SpellsRef (LineParts M))

four : (a b c d : List Token) → a ++ (b ++ (c ++ d)) ≡ a ++ b ++ c ++ d
four a b c d = sym (append_assoc a b (c ++ d)) ∙ sym (append_assoc (a ++ b) c d)

feature_of : (M : Spelling Feature) (xs : List Token) (f : Feature) → FeatureParts M xs f → SpellsFeature M xs f
feature_of M xs f t =
    let name = t.second in
    let entries = name.second in
    let newline = opened entries.second in
    let groups = newline.second in
    respell (SpellsFeature M) (Line newline.token (boolean_of t.front t.middle t.first) name.first entries.first
    (newline_kind newline.token.kind newline.passes) groups.first)
    (t.joins ∙ ap (λ z. t.front ++ z) (name.joins ∙ ap (λ z. name.front ++ z) (entries.joins ∙ ap (λ z. entries.front ++ z)
    (newline.joins ∙ ap (λ z. newline.token ∷ z) (with_nothing groups.joins groups.second.nothing))))
    ∙ four t.front name.front entries.front (newline.token ∷ groups.front))
    groups.second.gives

references_have : HasToken SpellsRef
references_have = has_token is_name SpellsRef (λ xs r spelled. reference_begins spelled)

line_example : (M : Spelling Feature) (name : Ref) → Example (LineParts M name)
line_example M name = record {
  tokens = sample token.Newline ∷ [];
  value = roll-Feature (record { name = name; attributes = []; rules = []; groups = [] });
  spelled = part_then [] (sample token.Newline ∷ []) [] No_braces (one_then (sample token.Newline) refl (part_then [] [] [] No_body done_now));
}

feature_with_good : {p : ℕ → Reader Feature} {M : Spelling Feature} {d : ℕ} → Good p M d d → PartsBegin stays M → Good (λ m. feature_with (p m)) (SpellsFeature M) d (suc d)
unfolding feature_with
feature_with_good {p} {M} good stay = spelled_so (feature_of M) (then_good boolean_good (λ said. behind_good references_have (line_example M) reference_good (λ name.
    then_good braces_good (λ entries. then_good newline_good (λ newline. then_good (body_good (group_good good (has_token stays M stay)) (has_token stays (SpellsGroup M) (groups_stay M))) (λ groups. done_good))))))

feature_step : (m : ℕ) (us : List Token) → feature_at (suc m) us ≡ feature_with (feature_at m) us
unfolding feature_at
feature_step m us = refl

feature_at_good : (d : ℕ) → Good feature_at (FeatureWithin d) d d
feature_at_good zero = record { at = λ ts h. absurd (omega arith) }
feature_at_good (suc d) = good_deeper feature_at (λ m. feature_with (feature_at m)) (FeatureWithin (suc d)) d (suc d) feature_step
    (feature_with_good (feature_at_good d) (features_stay d))

pub tree_good : {d n : ℕ} → Good (λ m. tree) SpellsTree d n
tree_good {d} {n} = good_closed feature_at FeatureWithin feature_at_good d n

-- ---- what is spelled is read

boolean_complete : {d : ℕ} → Complete (λ m. boolean) BooleanParts (Avoids (is_word word.Boolean)) d
unfolding boolean
boolean_complete = choose_complete (is_word word.Boolean) (next_complete one_complete (λ place. done_complete (Avoids (is_word word.Boolean))))
    (done_complete (Avoids (is_word word.Boolean)))
    (λ xs u rest t avoids. let said = opened t in subst (λ (z : List Token). Begins (is_word word.Boolean) (z ++ rest)) (sym said.joins) said.passes)
    (λ xs u rest t avoids. subst (λ (z : List Token). Avoids (is_word word.Boolean) (z ++ rest)) (sym t.nothing) avoids)

boolean_parts : (xs : List Token) → SpellsBoolean xs → BooleanParts xs tt
boolean_parts xs Not_said = inr done_now
boolean_parts xs (Said t is) = inl (one_then t (kind_word word.Boolean t.kind is) done_now)

module _ {p : ℕ → Reader Feature} {M : Spelling Feature} {d : ℕ} (c : Complete p M (Avoids is_indent) d)
    (begin : (xs : List Token) (f : Feature) → M xs f → Begins begins_feature xs) where
  group_parts : (xs : List Token) (g : Group) → SpellsGroup M xs g → GroupParts M xs g
  group_parts xs g (Members {xs = fs} {ys} newline indent dedent front is opens members closes) =
      respell (GroupParts M) (part_then _ _ _ front (one_then newline (ap is_newline is) (one_then indent (ap is_indent opens)
      (part_then _ _ _ members (one_then dedent (ap is_dedent closes) done_now)))))
      (append_assoc fs (newline ∷ indent ∷ ys) (dedent ∷ [])) refl

  no_indent : (kind : TokenKind) → begins_feature kind ≡ true → is_indent kind ≡ false
  no_indent = feature_fails is_indent (λ name quoted. refl) refl

  group_complete : Complete (λ m. group_with (p m)) (SpellsGroup M) Anything d
  unfolding group_with
  group_complete = spelled_complete group_parts (next_complete front_complete (λ front. next_complete one_complete (λ newline. next_complete one_complete (λ indent.
      then_complete (one_or_more_complete stays c (λ xs f r. stays_so xs (begin xs f r))
      (λ xs f rest r. begins_avoids begins_feature is_indent no_indent (xs ++ rest) (begins_longer begins_feature xs rest (begin xs f r))))
      (λ members. next_complete one_complete (λ dedent. done_complete Anything))
      (λ members ys w rest t any. let dedent = opened t in
      subst (λ (z : List Token). Avoids is_indent (z ++ rest) × Avoids stays (z ++ rest)) (sym dedent.joins)
      (dedent_avoids is_indent refl (dedent.token ∷ dedent.back ++ rest) dedent.passes, ap not dedent.passes))))))

  feature_parts : (xs : List Token) (f : Feature) → SpellsFeature M xs f → FeatureParts M xs f
  feature_parts xs f (Line {bs} {xs = rs} {ys} {zs} newline said r entries is groups) =
      respell (FeatureParts M) (part_then _ _ _ (boolean_parts bs said) (part_then _ _ _ r (part_then _ _ _ entries (one_then newline (ap is_newline is) (part_last _ groups)))))
      (sym (four bs rs ys (newline ∷ zs))) refl

  -- what is behind a name begins with a brace or the end of the line
  line_avoids : (test : Test) → test (token.Symbol symbol.LeftBrace) ≡ false → test token.Newline ≡ false → (name : Ref)
      → (xs : List Token) (f : Feature) (rest : List Token) → LineParts M name xs f → Avoids test (xs ++ rest)
  line_avoids test brace newline name xs f rest t = subst (λ (z : List Token). Avoids test (z ++ rest)) (sym t.joins) (of_braces t.first (opened t.second))
    where
      of_braces : {bs ys : List Token} {entries : List Entry} {S : Place → Spelling Feature} → SpellsBraces bs entries → Opened is_newline S ys f → Avoids test ((bs ++ ys) ++ rest)
      of_braces No_braces o = subst (λ (z : List Token). Avoids test (z ++ rest)) (sym o.joins) (newline_avoids test newline (o.token ∷ o.back ++ rest) o.passes)
      of_braces (Entries left right opens r closes) o = ap test opens ∙ brace

  feature_complete : Complete (λ m. feature_with (p m)) (SpellsFeature M) (Avoids is_indent) d
  unfolding feature_with
  feature_complete = spelled_complete feature_parts (then_complete boolean_complete
      (λ said. then_complete reference_complete
      (λ name. then_complete braces_complete
      (λ entries. next_complete one_complete (λ newline. last_complete (body_complete group_complete (groups_stay M))))
      (λ entries ys f rest t ends. let newline = opened t in
      subst (λ (z : List Token). Avoids (is_symbol symbol.LeftBrace) (z ++ rest)) (sym newline.joins)
      (newline_avoids (is_symbol symbol.LeftBrace) refl (newline.token ∷ newline.back ++ rest) newline.passes)))
      (λ name ys f rest t ends. line_avoids (is_symbol symbol.Dot) refl refl name ys f rest t))
      (λ said ys f rest t ends.
      subst (λ (z : List Token). Avoids (is_word word.Boolean) (z ++ rest)) (sym t.joins)
      (subst (λ (z : List Token). Avoids (is_word word.Boolean) z) (sym (append_assoc t.front t.back rest))
      (name_avoids (is_word word.Boolean) (λ name quoted. refl) (t.front ++ (t.back ++ rest)) (begins_longer is_name t.front (t.back ++ rest) (reference_begins t.first))))))

feature_at_complete : (d : ℕ) → Complete feature_at (FeatureWithin d) (Avoids is_indent) d
feature_at_complete zero = record { reads = λ m le xs f rest r avoids. absurd r }
feature_at_complete (suc d) = complete_deeper feature_at (λ m. feature_with (feature_at m)) (FeatureWithin (suc d)) (Avoids is_indent) d feature_step
    (feature_complete (feature_at_complete d) (within_begins d))

-- a tree stops where no indentation follows
pub tree_complete : {d : ℕ} → Complete (λ m. tree) SpellsTree (Avoids is_indent) d
tree_complete {d} = complete_closed feature_at FeatureWithin (Avoids is_indent) feature_at_good feature_at_complete d

-- one deeper
pub feature_above : (depth : ℕ) (ts : List Token) → 0 < depth → feature_at depth ts ≡ feature_with (feature_at (depth - 1)) ts
unfolding feature_at
feature_above zero ts some = absurd (omega arith)
feature_above (suc depth) ts some = let below : suc depth - 1 ≡ depth = omega arith in ap (λ d. feature_with (feature_at d) ts) (sym below)
