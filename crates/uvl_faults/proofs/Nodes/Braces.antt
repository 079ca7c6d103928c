-- Where the rules in braces have at most 8,192 nodes each, none of their nodes is one too many.
use Rattle.std.specs.Prelude.{◌≡◌, ℕ, ◌+◌, ◌≤◌, Bool, true, false, not, ◌&&◌, ◌==◌, List, [], ◌∷◌, ◌++◌, Some}
use Rattle.std.specs.List.{All}
use Rattle.std.proofs.Common.{refl, ap, ◌∙◌, arith}
use Rattle.std.proofs.lemmas.Bool.{and_left, and_right, or_from}
use Rattle.std.proofs.lemmas.Bool.Decides.{nat_tests}
use Rattle.std.proofs.lemmas.List.Elements.{All-nil, All-cons, All-head, All-tail}
use Rattle.uvl_lexer.specs.declared.token.Token.{Token}
use Rattle.uvl_lexer.specs.declared.token.Symbol.TheVariants as symbol
use Rattle.uvl_ast.specs.declared.expression.Expr.{Expr}
use Rattle.uvl_grammar.specs.declared.entry.Entry.{Entry}
use Rattle.uvl_grammar.specs.declared.entry.Entry.TheVariants.{Plain, Rule, Rules}
use Rattle.uvl_profile.specs.declared.section.Section.TheVariants.{Features}
use Rattle.uvl_grammar.specs.steps.Tests.{is_symbol}
use Rattle.uvl_grammar.specs.Tokens.{IsSymbol}
use Rattle.uvl_grammar.specs.Expressions.{SpellsExpr}
use Rattle.uvl_grammar.specs.Braces.{SpellsEntry, Attribute_entry, Constraint, Constraints, SpellsBraces, No_braces, Entries, rules_of}
use Rattle.uvl_profile.specs.Lines.{is_layout}
use Rattle.uvl_profile.specs.Nesting.{one_if}
use Rattle.uvl_profile.specs.Rules.{is_node, in_list, opens_list, rule_behind, rule_nodes}
use Rattle.uvl_profile.specs.Met.{is_full}
use Rattle.uvl_faults.specs.Law.{nodes_among}
use Rattle.uvl_faults.proofs.Walking.{walk, Clear, in_line_of_body}
use Rattle.uvl_faults.proofs.Inline.{plain_lacks, entry_inline}
use Rattle.uvl_faults.proofs.Clearing.{Clears, Spares, clear_then, separated_clears}
use Rattle.uvl_faults.proofs.Nodes.Kinds.{stays_in_rule}
use Rattle.uvl_faults.proofs.Nodes.Counting.{AllStay}
use Rattle.uvl_faults.proofs.Nodes.Rules.{begins_by_list, begins_by_comma, no_opening, node_behind, none_yet, rule_stays, tokens_tell_nodes}
use Rattle.uvl_faults.proofs.Nodes.Limits.{too_many}
use Rattle.uvl_faults.proofs.Nodes.Lines.{HasFewNodes}
use Rattle.uvl_faults.proofs.Nodes.Entries.{InFeatures, constraint_behind, InList, list_stays, rule_in_list, list_opened, list_behind}
use Rattle.uvl_faults.proofs.Nodes.Outside.{no_node, none_counted, NoList, no_list_behind, Quiet, is_mark_or_word, marks_and_words, quiet_clear, comma_quiet}

-- ---- rules

module _ (before : List Token) (t : Token) (n : ℕ) (counted : rule_nodes before ≡ Some n) where
  -- a node of a rule that has fewer than 8,192 in front of it
  node_fits : (node : Bool) → is_node before t.kind ≡ node → n + one_if node ≤ 8192 → too_many before t ≡ false
  node_fits false is few = no_node before t is
  node_fits true is few =
      and_right (is_node before t.kind) (is_full (rule_nodes before)) (ap is_full counted ∙ not_full n few)
    where
      not_full : (k : ℕ) → k + 1 ≤ 8192 → (k == 8192) ≡ false
      not_full k few = grind (arith, nat_tests)

nodes_fit : (before xs : List Token) (n : ℕ) → rule_nodes before ≡ Some n → n + nodes_among before xs ≤ 8192 → AllStay xs
    → Clear too_many before xs
nodes_fit before [] n counted few stays = tt
nodes_fit before (t ∷ ts) n counted few stays = (
  node_fits before t n counted (is_node before t.kind) refl (omega (arith, few)),
  nodes_fit (t ∷ before) ts (n + one_if (is_node before t.kind)) (node_behind before t n counted stays.0)
      (omega (arith, few)) stays.1,
)

-- a rule of at most 8,192 nodes
pub rule_clear : (before : List Token) (t : Token) (xs : List Token) (e : Expr) → rule_behind before t ≡ true
    → SpellsExpr xs e → HasFewNodes e → Clear too_many (t ∷ before) xs
rule_clear before t xs e begins spelled few =
    let told = tokens_tell_nodes before t xs e begins spelled in
    nodes_fit (t ∷ before) xs 0 (none_yet before t begins) (omega (arith, few, told))
    (rule_stays before t xs e begins spelled)

-- ---- rules in the brackets of a list

-- a rule begins in such brackets
abbrev RuleInList : List Token → Type 0
RuleInList [] = ⊥
RuleInList (t ∷ before) = (rule_behind before t ≡ true) × InList (t ∷ before)

listed_clears : Clears too_many RuleInList InList SpellsExpr HasFewNodes
listed_clears [] xs e here few spelled = absurd here
listed_clears (t ∷ before) xs e here few spelled =
    let stays = rule_stays before t xs e here.0 spelled in
    (rule_clear before t xs e here.0 spelled few, rule_in_list (t ∷ before) xs here.1 stays)

none_listed : (before : List Token) → RuleInList before → InList before
none_listed [] here = absurd here
none_listed (t ∷ before) here = here.1

next_listed : Spares too_many InList RuleInList (IsSymbol symbol.Comma)
next_listed before comma here is = (
  no_node before comma (ap (is_node before) is),
  (
    begins_by_comma before comma (ap (is_symbol symbol.Comma) is) here,
    list_stays before comma here (ap (is_symbol symbol.RightBracket) is) (ap is_layout is),
  ),
)

-- ---- entries

-- the rules of an entry are within the limit
abbrev EntryWithin : Entry → Type 0
EntryWithin (Plain a) = Unit {0}
EntryWithin (Rule e) = HasFewNodes e
EntryWithin (Rules es) = All HasFewNodes es

list_closed : (before : List Token) (t : Token) → IsSymbol symbol.RightBracket t → NoList (t ∷ before)
list_closed before t closes =
    let unclosed = not (is_symbol symbol.RightBracket t.kind) in
    let goes_on = in_list before && unclosed in
    or_from (opens_list before t.kind) (goes_on && not (is_layout t.kind))
    (no_opening before t (ap (is_symbol symbol.LeftBracket) closes))
    (and_left goes_on (not (is_layout t.kind))
    (and_right (in_list before) unclosed (ap (λ kind. not (is_symbol symbol.RightBracket kind)) closes)))

-- a rule opens none
rule_no_list : (before xs : List Token) → NoList before → AllStay xs → NoList (walk before xs)
rule_no_list before [] none stays = none
rule_no_list before (t ∷ ts) none stays =
    let opens = no_opening before t (stays_in_rule t.kind stays.0).opens in
    rule_no_list (t ∷ before) ts (no_list_behind before t none opens) stays.1

module _ (n : ℕ) where
  -- an entry begins
  abbrev EntryBegins : List Token → Type 0
  EntryBegins before = Quiet before × InFeatures n before

  -- an entry, and what is open behind it
  entry_clear : Clears too_many EntryBegins NoList SpellsEntry EntryWithin
  entry_clear before xs v here within (Attribute_entry {a} r) =
      let found = quiet_clear before xs here.0 (plain_lacks is_mark_or_word marks_and_words xs a r) in
      (found.0, found.1.idle.no_list)
  entry_clear before ts v here within (Constraint t {xs} {e} is spelled) =
      let begins = constraint_behind n before t here.1 is in
      let opens = no_opening before t (ap (is_symbol symbol.LeftBracket) is) in
      let none = no_list_behind before t here.0.idle.no_list opens in (
        (none_counted before t here.0.idle.none, rule_clear before t xs e begins spelled within),
        rule_no_list (t ∷ before) xs none (rule_stays before t xs e begins spelled),
      )
  entry_clear before ts v here within (Constraints t left right {xs} {es} is opens r closes) =
      let front = left ∷ t ∷ before in
      let begun = list_behind n before t left here.1 is opens in
      let inside : RuleInList front = (begins_by_list (t ∷ before) left begun, list_opened (t ∷ before) left begun) in
      let listed = separated_clears too_many RuleInList InList SpellsExpr HasFewNodes listed_clears none_listed next_listed
      front xs es inside within r in
      let rest = clear_then too_many InList NoList front xs (right ∷ []) listed
      λ now. let last = walk front xs in ((no_node last right (ap (is_node last) closes), tt), list_closed last right closes) in
      let bracket = no_node (t ∷ before) left (ap (is_node (t ∷ before)) opens) in
      ((none_counted before t here.0.idle.none, (bracket, rest.0)), rest.1)

  -- an entry ends
  abbrev EntryEnds : List Token → Type 0
  EntryEnds before = NoList before × InFeatures n before

  entry_clears : Clears too_many EntryBegins EntryEnds SpellsEntry EntryWithin
  entry_clears before xs v here within r =
      let found = entry_clear before xs v here within r in
      (found.0, (found.1, in_line_of_body Features n before xs here.1 (entry_inline xs v r)))

  next_entry : Spares too_many EntryEnds EntryBegins (IsSymbol symbol.Comma)
  next_entry before comma here is = (
    no_node before comma (ap (is_node before) is),
    (comma_quiet before comma here.0 is, in_line_of_body Features n before (comma ∷ []) here.1 (ap is_layout is, tt)),
  )

-- ---- braces

module _ {A : Type 0} (P : A → Type 0) where
  -- what holds of each of two lists one behind the other holds of each of both
  pub each_front : (xs ys : List A) → All P (xs ++ ys) → All P xs
  each_front [] ys each = All-nil P
  each_front (x ∷ xs) ys each =
      All-cons P x xs (All-head P x (xs ++ ys) each) (each_front xs ys (All-tail P x (xs ++ ys) each))

  pub each_back : (xs ys : List A) → All P (xs ++ ys) → All P ys
  each_back [] ys each = each
  each_back (x ∷ xs) ys each = each_back xs ys (All-tail P x (xs ++ ys) each)

entries_within : (entries : List Entry) → All HasFewNodes (rules_of entries) → All EntryWithin entries
entries_within [] each = All-nil EntryWithin
entries_within (Plain a ∷ entries) each = All-cons EntryWithin (Plain a) entries tt (entries_within entries each)
entries_within (Rule e ∷ entries) each =
    All-cons EntryWithin (Rule e) entries (All-head HasFewNodes e (rules_of entries) each)
    (entries_within entries (All-tail HasFewNodes e (rules_of entries) each))
entries_within (Rules es ∷ entries) each =
    All-cons EntryWithin (Rules es) entries (each_front HasFewNodes es (rules_of entries) each)
    (entries_within entries (each_back HasFewNodes es (rules_of entries) each))

-- the braces of a feature's line
pub braces_clear : (n : ℕ) (before ys : List Token) (entries : List Entry) → Quiet before → InFeatures n before
    → All HasFewNodes (rules_of entries) → SpellsBraces ys entries → Clear too_many before ys
braces_clear n before ys entries quiet here each No_braces = tt
braces_clear n before ys entries quiet here each (Entries left right {xs} opens r closes) =
    let front = left ∷ before in
    let first = quiet_clear before (left ∷ []) quiet (ap is_mark_or_word opens, tt) in
    let at = in_line_of_body Features n before (left ∷ []) here (ap is_layout opens, tt) in
    let inside = separated_clears too_many (EntryBegins n) (EntryEnds n) SpellsEntry EntryWithin (entry_clears n)
    (λ b now. (now.0.idle.no_list, now.1)) (next_entry n) front xs entries (first.1, at) (entries_within entries each) r in
    let rest = clear_then too_many (EntryEnds n) (λ b. Unit {0}) front xs (right ∷ []) inside
    (λ now. ((no_node (walk front xs) right (ap (is_node (walk front xs)) closes), tt), tt)) in
    (first.0.0, rest.0)
