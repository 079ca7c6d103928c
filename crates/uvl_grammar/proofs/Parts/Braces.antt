-- Braces are read exactly.
use Rattle.std.specs.Prelude.{◌≡◌, ℕ, List, [], ◌∷◌, ◌++◌}
use Rattle.std.proofs.Common.{refl, sym, ap, subst, ◌∙◌, inl, inr, arith}
use Rattle.uvl_base.specs.declared.place.Place.{Place}
use Rattle.uvl_lexer.specs.declared.token.Token.{Token}
use Rattle.uvl_lexer.specs.declared.token.TokenKind.TheVariants as token
use Rattle.uvl_base.specs.declared.word.Word.{Word}
use Rattle.uvl_base.specs.declared.word.Word.TheVariants as word
use Rattle.uvl_lexer.specs.declared.token.Symbol.{Symbol}
use Rattle.uvl_lexer.specs.declared.token.Symbol.TheVariants as symbol
use Rattle.uvl_ast.specs.declared.expression.Expr.{Expr}
use Rattle.uvl_grammar.specs.steps.Tests.{is_word, is_symbol, is_newline, begins_value}
use Rattle.uvl_grammar.specs.Shapes.{Spelling, Separated}
use Rattle.uvl_grammar.specs.Expressions.{SpellsExpr}
use Rattle.uvl_grammar.specs.Values.{SpellsPlain}
use Rattle.uvl_grammar.specs.declared.entry.Entry.{Entry}
use Rattle.uvl_grammar.specs.declared.entry.Entry.TheVariants.{Plain, Rule, Rules}
use Rattle.uvl_grammar.specs.Braces.{SpellsEntry, Attribute_entry, Constraint, Constraints, SpellsBraces, No_braces, Entries}
use Rattle.uvl_grammar.specs.steps.Braces.{rule_list, entry, braces}
use Rattle.uvl_grammar.proofs.TokenKinds.{word_kind, kind_word, symbol_kind, kind_symbol, newline_kind}
use Rattle.uvl_grammar.proofs.Readers.{Good, Then, IsOne, IsDone, Either, then_good, spelled_so, done_good, choose_good, opened, respell}
use Rattle.uvl_grammar.proofs.Completing.{Complete, Anything, Begins, Avoids, one_complete, next_complete, then_complete, last_complete, done_complete, spelled_complete, stops_complete, choose_complete, one_then, part_then, part_last, done_now}
use Rattle.uvl_grammar.proofs.Firsts.{symbol_avoids, word_avoids, name_avoids, is_name, begins_longer}
use Rattle.uvl_grammar.proofs.Shaped.{with_nothing, separated_good, separated_complete}
use Rattle.uvl_grammar.proofs.Parts.Samples.{word_good, symbol_good}
use Rattle.uvl_grammar.proofs.Parts.Expressions.Read.{binding, Looser}
use Rattle.uvl_grammar.proofs.Parts.Expressions.Whole.{expression_good, expression_complete}
use Rattle.uvl_grammar.proofs.Parts.Beginnings.{expressions_avoid, plain_begins, entries_avoid}
use Rattle.uvl_grammar.proofs.Parts.Values.{plain_good, plain_complete}

-- ---- where an expression stops

pub symbol_looser : (s : Symbol) → binding (token.Symbol s) ≡ 0 → (rest : List Token) → Begins (is_symbol s) rest → Looser 1 rest
symbol_looser s loose [] begins = tt
symbol_looser s loose (t ∷ ts) begins = let e : binding t.kind ≡ 0 = ap binding (symbol_kind s t.kind begins) ∙ loose in omega arith

pub newline_looser : (rest : List Token) → Begins is_newline rest → Looser 1 rest
newline_looser [] begins = tt
newline_looser (t ∷ ts) begins = let e : binding t.kind ≡ 0 = ap binding (newline_kind t.kind begins) in omega arith

-- ---- what is read is spelled

abbrev RuleListParts : Spelling (List Expr)
RuleListParts = Then (IsOne (is_symbol symbol.LeftBracket)) (λ left. Then (Separated SpellsExpr) (λ rules.
    Then (IsOne (is_symbol symbol.RightBracket)) (λ right. IsDone rules)))

rule_list_good : {d n : ℕ} → Good (λ m. rule_list) RuleListParts d n
unfolding rule_list
rule_list_good = then_good (symbol_good symbol.LeftBracket) (λ left. then_good (separated_good (is_symbol symbol.RightBracket) expression_good) (λ rules.
    then_good (symbol_good symbol.RightBracket) (λ right. done_good)))

abbrev EntryParts : Spelling Entry
EntryParts = Either (Then (IsOne (is_word word.Constraint)) (λ place. Then SpellsExpr (λ rule. IsDone (Rule rule))))
    (Either (Then (IsOne (is_word word.Constraints)) (λ place. Then RuleListParts (λ rules. IsDone (Rules rules))))
    (Then SpellsPlain (λ a. IsDone (Plain a))))

rules_of_list : (t : Token) → t.kind ≡ token.Word word.Constraints → (xs : List Token) (rules : List Expr) → RuleListParts xs rules → SpellsEntry (t ∷ xs) (Rules rules)
rules_of_list t is xs rules r =
    let left = opened r in
    let right = opened left.second.second in
    respell SpellsEntry (Constraints t left.token right.token is (symbol_kind symbol.LeftBracket left.token.kind left.passes) left.second.first
    (symbol_kind symbol.RightBracket right.token.kind right.passes))
    (ap (λ z. t ∷ z) (left.joins ∙ ap (λ z. left.token ∷ z) (left.second.joins ∙ ap (λ z. left.second.front ++ z) (right.joins ∙ ap (λ z. right.token ∷ z) right.second.nothing))))
    (ap Rules right.second.gives)

entry_of : (xs : List Token) (e : Entry) → EntryParts xs e → SpellsEntry xs e
entry_of xs e (inl t) =
    let first = opened t in
    respell SpellsEntry (Constraint first.token (word_kind word.Constraint first.token.kind first.passes) first.second.first)
    (first.joins ∙ ap (λ z. first.token ∷ z) (with_nothing first.second.joins first.second.second.nothing)) first.second.second.gives
entry_of xs e (inr (inl t)) =
    let first = opened t in
    respell SpellsEntry (rules_of_list first.token (word_kind word.Constraints first.token.kind first.passes) first.second.front first.second.middle first.second.first)
    (first.joins ∙ ap (λ z. first.token ∷ z) (with_nothing first.second.joins first.second.second.nothing)) first.second.second.gives
entry_of xs e (inr (inr t)) = respell SpellsEntry (Attribute_entry t.first) (with_nothing t.joins t.second.nothing) t.second.gives

entry_good : {d n : ℕ} → Good (λ m. entry) SpellsEntry d n
unfolding entry
entry_good = spelled_so entry_of (choose_good (is_word word.Constraint)
    (then_good (word_good word.Constraint) (λ place. then_good expression_good (λ rule. done_good)))
    (choose_good (is_word word.Constraints) (then_good (word_good word.Constraints) (λ place. then_good rule_list_good (λ rules. done_good)))
    (then_good plain_good (λ a. done_good))))

abbrev BracesParts : Spelling (List Entry)
BracesParts = Either (Then (IsOne (is_symbol symbol.LeftBrace)) (λ left. Then (Separated SpellsEntry) (λ entries.
    Then (IsOne (is_symbol symbol.RightBrace)) (λ right. IsDone entries)))) (IsDone [])

braces_of : (xs : List Token) (entries : List Entry) → BracesParts xs entries → SpellsBraces xs entries
braces_of xs entries (inl t) =
    let left = opened t in
    let right = opened left.second.second in
    respell SpellsBraces (Entries left.token right.token (symbol_kind symbol.LeftBrace left.token.kind left.passes) left.second.first
    (symbol_kind symbol.RightBrace right.token.kind right.passes))
    (left.joins ∙ ap (λ z. left.token ∷ z) (left.second.joins ∙ ap (λ z. left.second.front ++ z) (right.joins ∙ ap (λ z. right.token ∷ z) right.second.nothing)))
    right.second.gives
braces_of xs entries (inr t) = respell SpellsBraces No_braces t.nothing t.gives

pub braces_good : {d n : ℕ} → Good (λ m. braces) SpellsBraces d n
unfolding braces
braces_good = spelled_so braces_of (choose_good (is_symbol symbol.LeftBrace)
    (then_good (symbol_good symbol.LeftBrace) (λ left. then_good (separated_good (is_symbol symbol.RightBrace) entry_good) (λ entries.
    then_good (symbol_good symbol.RightBrace) (λ right. done_good))))
    done_good)

-- ---- what is spelled is read

opens_with_symbol : {B : Type 0} {S : Place → Spelling B} (s : Symbol) (xs : List Token) (v : B) (rest : List Token) → Then (IsOne (is_symbol s)) S xs v → Begins (is_symbol s) (xs ++ rest)
opens_with_symbol s xs v rest t = let left = opened t in subst (λ (z : List Token). Begins (is_symbol s) (z ++ rest)) (sym left.joins) left.passes

opens_with_word : {B : Type 0} {S : Place → Spelling B} (w : Word) (xs : List Token) (v : B) (rest : List Token) → Then (IsOne (is_word w)) S xs v → Begins (is_word w) (xs ++ rest)
opens_with_word w xs v rest t = let first = opened t in subst (λ (z : List Token). Begins (is_word w) (z ++ rest)) (sym first.joins) first.passes

rule_list_complete : {d : ℕ} → Complete (λ m. rule_list) RuleListParts Anything d
unfolding rule_list
rule_list_complete = next_complete one_complete (λ left. then_complete
    (separated_complete (is_symbol symbol.RightBracket) expression_complete expressions_avoid (symbol_looser symbol.Comma refl) (symbol_looser symbol.RightBracket refl)
    (symbol_avoids symbol.RightBracket (is_symbol symbol.Comma) refl))
    (λ rules. next_complete one_complete (λ right. done_complete Anything))
    (λ rules ys w rest t any. opens_with_symbol symbol.RightBracket ys w rest t))

-- an entry stops in front of a comma and of the brace that closes it
pub record StopsEntry (rest : List Token) : Type 0 where
  pub rule : Looser 1 rest
  pub value : Avoids begins_value rest

comma_stops : (rest : List Token) → Begins (is_symbol symbol.Comma) rest → StopsEntry rest
comma_stops rest begins = record { rule = symbol_looser symbol.Comma refl rest begins; value = symbol_avoids symbol.Comma begins_value refl rest begins }

brace_stops : (rest : List Token) → Begins (is_symbol symbol.RightBrace) rest → StopsEntry rest
brace_stops rest begins = record { rule = symbol_looser symbol.RightBrace refl rest begins; value = symbol_avoids symbol.RightBrace begins_value refl rest begins }

entry_parts : (xs : List Token) (e : Entry) → SpellsEntry xs e → EntryParts xs e
entry_parts xs e (Attribute_entry r) = inr (inr (part_last _ r))
entry_parts xs e (Constraint t is r) = inl (one_then t (kind_word word.Constraint t.kind is) (part_last _ r))
entry_parts xs e (Constraints t left right is opens r closes) =
    inr (inl (one_then t (kind_word word.Constraints t.kind is) (part_last _
    (one_then left (kind_symbol symbol.LeftBracket left.kind opens) (part_then _ _ _ r (one_then right (kind_symbol symbol.RightBracket right.kind closes) done_now))))))

plain_avoids : (w : Word) (xs : List Token) (e : Entry) (rest : List Token) → Then SpellsPlain (λ a. IsDone (Plain a)) xs e → Avoids (is_word w) (xs ++ rest)
plain_avoids w xs e rest t =
    subst (λ (z : List Token). Avoids (is_word w) (z ++ rest)) (sym (with_nothing t.joins t.second.nothing))
    (name_avoids (is_word w) (λ name quoted. refl) (t.front ++ rest) (begins_longer is_name t.front rest (plain_begins t.first)))

others_avoid : (xs : List Token) (e : Entry) (rest : List Token)
    → Either (Then (IsOne (is_word word.Constraints)) (λ place. Then RuleListParts (λ rules. IsDone (Rules rules)))) (Then SpellsPlain (λ a. IsDone (Plain a))) xs e
    → StopsEntry rest → Avoids (is_word word.Constraint) (xs ++ rest)
others_avoid xs e rest (inl t) stops = word_avoids word.Constraints (is_word word.Constraint) refl (xs ++ rest) (opens_with_word word.Constraints xs e rest t)
others_avoid xs e rest (inr t) stops = plain_avoids word.Constraint xs e rest t

entry_complete : {d : ℕ} → Complete (λ m. entry) SpellsEntry StopsEntry d
unfolding entry
entry_complete = spelled_complete entry_parts (choose_complete (is_word word.Constraint)
    (next_complete one_complete (λ place. last_complete (stops_complete (λ rest stops. stops.rule) expression_complete)))
    (choose_complete (is_word word.Constraints) (next_complete one_complete (λ place. last_complete (stops_complete (λ rest stops. tt) rule_list_complete)))
    (last_complete (stops_complete (λ rest stops. stops.value) plain_complete))
    (λ xs e rest t stops. opens_with_word word.Constraints xs e rest t) (λ xs e rest t stops. plain_avoids word.Constraints xs e rest t))
    (λ xs e rest t stops. opens_with_word word.Constraint xs e rest t) others_avoid)

braces_parts : (xs : List Token) (entries : List Entry) → SpellsBraces xs entries → BracesParts xs entries
braces_parts xs entries No_braces = inr done_now
braces_parts xs entries (Entries left right opens r closes) =
    inl (one_then left (kind_symbol symbol.LeftBrace left.kind opens) (part_then _ _ _ r (one_then right (kind_symbol symbol.RightBrace right.kind closes) done_now)))

-- braces stop where no brace opens
pub braces_complete : {d : ℕ} → Complete (λ m. braces) SpellsBraces (Avoids (is_symbol symbol.LeftBrace)) d
unfolding braces
braces_complete = spelled_complete braces_parts (choose_complete (is_symbol symbol.LeftBrace)
    (next_complete one_complete (λ left. then_complete
    (separated_complete (is_symbol symbol.RightBrace) entry_complete entries_avoid comma_stops brace_stops (symbol_avoids symbol.RightBrace (is_symbol symbol.Comma) refl))
    (λ entries. next_complete one_complete (λ right. done_complete (Avoids (is_symbol symbol.LeftBrace))))
    (λ entries ys w rest t avoids. opens_with_symbol symbol.RightBrace ys w rest t)))
    (done_complete (Avoids (is_symbol symbol.LeftBrace)))
    (λ xs entries rest t avoids. opens_with_symbol symbol.LeftBrace xs entries rest t)
    (λ xs entries rest t avoids. subst (λ (z : List Token). Avoids (is_symbol symbol.LeftBrace) (z ++ rest)) (sym t.nothing) avoids))
