-- The rules in braces have at most 8,192 nodes each where no node is one too many.
use Rattle.std.specs.Prelude.{◌≡◌, ℕ, true, false, not, ◌&&◌, List, [], ◌∷◌}
use Rattle.std.specs.List.{All}
use Rattle.std.proofs.Common.{ap}
use Rattle.std.proofs.lemmas.Bool.{and_from, or_left, or_right}
use Rattle.std.proofs.lemmas.List.Elements.{All-nil, All-cons, All-append}
use Rattle.uvl_lexer.specs.declared.token.Token.{Token}
use Rattle.uvl_base.specs.declared.word.Word.TheVariants as word
use Rattle.uvl_lexer.specs.declared.token.Symbol.TheVariants as symbol
use Rattle.uvl_ast.specs.declared.expression.Expr.{Expr}
use Rattle.uvl_grammar.specs.declared.entry.Entry.{Entry}
use Rattle.uvl_grammar.specs.declared.entry.Entry.TheVariants as entry
use Rattle.uvl_profile.specs.declared.section.Section.TheVariants.{Features}
use Rattle.uvl_profile.specs.declared.section.SectionPart.TheVariants.{Body}
use Rattle.uvl_grammar.specs.steps.Tests.{is_word, is_symbol, begins}
use Rattle.uvl_grammar.specs.Tokens.{IsWord, IsSymbol}
use Rattle.uvl_grammar.specs.Shapes.{Repeated, None_more, One_more, BehindComma, Comma, Separated, Nothing, Parts}
use Rattle.uvl_grammar.specs.Expressions.{SpellsExpr}
use Rattle.uvl_grammar.specs.Braces.{SpellsEntry, Attribute_entry, Constraint, Constraints, SpellsBraces, No_braces, Entries, rules_of}
use Rattle.uvl_profile.specs.Lines.{is_layout}
use Rattle.uvl_profile.specs.Sections.{belongs, part_of, is_in}
use Rattle.uvl_profile.specs.Rules.{in_list, opens_list, rule_behind}
use Rattle.uvl_faults.proofs.Walking.{walk, in_line_of_body, Clear, clear_front, clear_back, Passes, repeated_passes, separated_passes}
use Rattle.uvl_faults.proofs.Inline.{entry_inline}
use Rattle.uvl_faults.proofs.Nodes.Kinds.{stays_in_rule}
use Rattle.uvl_faults.proofs.Nodes.Counting.{AllStay}
use Rattle.uvl_faults.proofs.Nodes.Rules.{begins_by_word, begins_by_list, begins_by_comma, rule_stays}
use Rattle.uvl_faults.proofs.Nodes.Limits.{too_many, rule_within_limit}
use Rattle.uvl_faults.proofs.Nodes.Lines.{HasFewNodes, Few, each_few}

-- what follows stands in a line of the features section
abbrev pub InFeatures : ℕ → List Token → Type 0
InFeatures n before = part_of before ≡ Body Features n

in_features : (n : ℕ) (before : List Token) → InFeatures n before → is_in Features before ≡ true
in_features n before here = ap (belongs Features) here

-- ---- a rule behind `constraint`

pub constraint_behind : (n : ℕ) (before : List Token) (t : Token) → InFeatures n before → IsWord word.Constraint t → rule_behind before t ≡ true
constraint_behind n before t here is = begins_by_word before t (ap (is_word word.Constraint) is) (in_features n before here)

-- ---- rules in the brackets of a list

-- what follows stands in such brackets
abbrev pub InList : List Token → Type 0
InList before = in_list before ≡ true

-- a list goes on behind what doesn't end it
pub list_stays : (before : List Token) (t : Token) → InList before → is_symbol symbol.RightBracket t.kind ≡ false → is_layout t.kind ≡ false
    → InList (t ∷ before)
list_stays before t here bracket mark =
    let unclosed = in_list before && not (is_symbol symbol.RightBracket t.kind) in
    or_right (opens_list before t.kind) (unclosed && not (is_layout t.kind))
    (and_from unclosed (not (is_layout t.kind)) (and_from (in_list before) (not (is_symbol symbol.RightBracket t.kind)) here (ap not bracket)) (ap not mark))

pub rule_in_list : (before xs : List Token) → InList before → AllStay xs → InList (walk before xs)
rule_in_list before [] here stays = here
rule_in_list before (t ∷ ts) here stays =
    let kind = stays_in_rule t.kind stays.0 in
    rule_in_list (t ∷ before) ts (list_stays before t here kind.closes kind.mark) stays.1

-- a rule in a list, behind a token behind which it begins
listed_few : (before : List Token) (t : Token) (xs : List Token) (e : Expr) → rule_behind before t ≡ true → InList (t ∷ before)
    → SpellsExpr xs e → Clear too_many (t ∷ before) xs → HasFewNodes e × InList (walk (t ∷ before) xs)
listed_few before t xs e begins here spelled clear = (
  rule_within_limit before t xs e begins spelled clear,
  rule_in_list (t ∷ before) xs here (rule_stays before t xs e begins spelled),
)

next_few : Passes too_many InList (BehindComma SpellsExpr) Few
next_few before ts e here clear (Comma comma {xs} is spelled) =
    let begins = begins_by_comma before comma (ap (is_symbol symbol.Comma) is) here in
    listed_few before comma xs e begins (list_stays before comma here (ap (is_symbol symbol.RightBracket) is) (ap is_layout is)) spelled clear.1

pub list_opened : (before : List Token) (t : Token) → opens_list before t.kind ≡ true → InList (t ∷ before)
list_opened before t opens =
    or_left (opens_list before t.kind) (in_list before && not (is_symbol symbol.RightBracket t.kind) && not (is_layout t.kind)) opens

list_few : (before : List Token) (left : Token) (xs : List Token) (es : List Expr) → opens_list before left.kind ≡ true
    → Clear too_many (left ∷ before) xs → Separated SpellsExpr xs es → All HasFewNodes es
list_few before left ts es opens clear Nothing = All-nil HasFewNodes
list_few before left ts es opens clear (Parts {xs} {ys} {a} {items} r rs) =
    let here = list_opened before left opens in
    let one = listed_few before left xs a (begins_by_list before left opens) here r (clear_front too_many (left ∷ before) xs ys clear) in
    let more = repeated_passes too_many InList (BehindComma SpellsExpr) Few next_few (walk (left ∷ before) xs) ys items one.1
    (clear_back too_many (left ∷ before) xs ys clear) rs in
    All-cons HasFewNodes a items one.0 (each_few more.0)

-- `constraints` and a bracket in braces open a list
pub list_behind : (n : ℕ) (before : List Token) (t left : Token) → InFeatures n before → IsWord word.Constraints t → IsSymbol symbol.LeftBracket left
    → opens_list (t ∷ before) left.kind ≡ true
list_behind n before t left here is opens =
    let behind = in_line_of_body Features n before (t ∷ []) here (ap is_layout is, tt) in
    let bracket = is_symbol symbol.LeftBracket left.kind in
    let named = begins (is_word word.Constraints) (t ∷ before) in
    and_from (bracket && named) (is_in Features (t ∷ before))
    (and_from bracket named (ap (is_symbol symbol.LeftBracket) opens) (ap (is_word word.Constraints) is)) (in_features n (t ∷ before) behind)

-- ---- entries

-- the rules of an entry are within the limit
abbrev EntryFew : List Token → Entry → Type 0
EntryFew xs (entry.Plain a) = Unit {0}
EntryFew xs (entry.Rule e) = HasFewNodes e
EntryFew xs (entry.Rules es) = All HasFewNodes es

module _ (n : ℕ) where
  entry_few : (before xs : List Token) (v : Entry) → InFeatures n before → Clear too_many before xs → SpellsEntry xs v → EntryFew xs v
  entry_few before xs v here clear (Attribute_entry r) = tt
  entry_few before ts v here clear (Constraint t {xs} {e} is spelled) =
      rule_within_limit before t xs e (constraint_behind n before t here is) spelled clear.1
  entry_few before ts v here clear (Constraints t left right {xs} {es} is opens r closes) =
      list_few (t ∷ before) left xs es (list_behind n before t left here is opens)
      (clear_front too_many before (t ∷ left ∷ xs) (right ∷ []) clear).1.1 r

  entry_passes : Passes too_many (InFeatures n) SpellsEntry EntryFew
  entry_passes before xs v here clear r = (entry_few before xs v here clear r, in_line_of_body Features n before xs here (entry_inline xs v r))

  comma_passes : (before : List Token) (comma : Token) → InFeatures n before → IsSymbol symbol.Comma comma → InFeatures n (comma ∷ before)
  comma_passes before comma here is = in_line_of_body Features n before (comma ∷ []) here (ap is_layout is, tt)

with_entry : (v : Entry) (entries : List Entry) (xs : List Token) → EntryFew xs v → All HasFewNodes (rules_of entries) → All HasFewNodes (rules_of (v ∷ entries))
with_entry (entry.Plain a) entries xs few others = others
with_entry (entry.Rule e) entries xs few others = All-cons HasFewNodes e (rules_of entries) few others
with_entry (entry.Rules es) entries xs few others = All-append HasFewNodes es (rules_of entries) few others

next_entries : {ys : List Token} {entries : List Entry} → Repeated (BehindComma EntryFew) ys entries → All HasFewNodes (rules_of entries)
next_entries None_more = All-nil HasFewNodes
next_entries (One_more {a} {items} (Comma comma {xs} is r) rs) = with_entry a items xs r (next_entries rs)

all_entries : {ys : List Token} {entries : List Entry} → Separated EntryFew ys entries → All HasFewNodes (rules_of entries)
all_entries Nothing = All-nil HasFewNodes
all_entries (Parts {xs} {a} {items} r rs) = with_entry a items xs r (next_entries rs)

-- the rules in the braces of a feature's line
pub braces_few : (n : ℕ) (before ys : List Token) (entries : List Entry) → InFeatures n before → Clear too_many before ys → SpellsBraces ys entries
    → All HasFewNodes (rules_of entries)
braces_few n before ys entries here clear No_braces = All-nil HasFewNodes
braces_few n before ys entries here clear (Entries left right {xs} opens r closes) =
    let inner = in_line_of_body Features n before (left ∷ []) here (ap is_layout opens, tt) in
    let clear_xs = (clear_front too_many before (left ∷ xs) (right ∷ []) clear).1 in
    all_entries (separated_passes too_many (InFeatures n) SpellsEntry EntryFew (entry_passes n) (comma_passes n) (left ∷ before) xs entries inner clear_xs r).0
