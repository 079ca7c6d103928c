-- Expressions: what is spelled is read, where no token follows that binds what stands in front of it.
use Rattle.std.specs.Prelude.{◌≡◌, ℕ, zero, suc, ◌<◌, ◌≤◌, ◌==◌, true, false, List, [], ◌∷◌, ◌++◌, Ok, Some, ℤ}
use Rattle.std.proofs.Common.{refl, sym, ap, subst, ◌∙◌, inl, inr, append_assoc, append-nil, arith}
use Rattle.std.proofs.lemmas.Bool.Decides.{nat_tests}
use Rattle.uvl_base.specs.declared.place.Place.{Place}
use Rattle.uvl_lexer.specs.declared.token.Token.{Token}
use Rattle.uvl_lexer.specs.declared.token.TokenKind.{TokenKind}
use Rattle.uvl_lexer.specs.declared.token.TokenKind.TheVariants as token
use Rattle.uvl_base.specs.declared.word.Word.TheVariants as word
use Rattle.uvl_lexer.specs.declared.token.Symbol.TheVariants as symbol
use Rattle.uvl_ast.specs.declared.names.Ref.{Ref}
use Rattle.uvl_ast.specs.declared.expression.BinOp.{BinOp}
use Rattle.uvl_ast.specs.declared.expression.Expr.{Expr}
use Rattle.uvl_grammar.specs.Tokens.{name_of, number_of}
use Rattle.uvl_grammar.specs.steps.Tests.{Test, is_symbol, is_word, is_there}
use Rattle.uvl_grammar.specs.Shapes.{Spelling, Repeated, None_more, One_more}
use Rattle.uvl_grammar.specs.Refs.{SpellsRef}
use Rattle.uvl_grammar.specs.Refs as refs
use Rattle.uvl_grammar.specs.Expressions.{Operators, iff_operator, implies_operator, or_operator, and_operator, comparison_operator, sum_operator, product_operator, Grouped, Alone, Joined, Connected, SpellsPrimary, Parentheses, Literal, Negative, Sum, Reference, SpellsSum, SpellsComparison, Compared, Not_compared, SpellsOperand, Opposite, Comparison, OperandWithin, ExprWithin}
use Rattle.uvl_grammar.specs.steps.Reading.{Reader, bind, one}
use Rattle.uvl_grammar.specs.steps.Expressions.{Operation, is_operator, operation, join, joined, grouped, parenthesized, negative, total, literal, named, is_number, primary_of, compared, sum_of, opposite, connected, operand_of, operand_within, expression_within}
use Rattle.uvl_grammar.proofs.TokenKinds.{kind_symbol, kind_word, symbol_kind}
use Rattle.uvl_grammar.proofs.Readers.{Then, IsOne, IsDone, Either, opened, taken, respell}
use Rattle.uvl_grammar.proofs.Opened.{at_deeper}
use Rattle.uvl_grammar.proofs.Completing.{Rest, Complete, Begins, Avoids, PartsBegin, one_complete, accept_complete, done_complete, then_complete, next_complete, last_complete, spelled_complete, stops_complete, choose_complete, many_complete, one_then, accept_then, part_then, part_last, done_now}
use Rattle.uvl_grammar.proofs.Parts.Refs.{reference_complete}
use Rattle.uvl_grammar.proofs.Parts.Expressions.Spelled.{made, OperationParts, GroupedParts, NegativeParts, TotalParts, LiteralParts, NamedParts, PrimaryParts, ComparedParts, OppositeParts}

-- ---- how strongly a token binds what stands in front of it

-- 0 where it doesn't
abbrev pub binding : TokenKind → ℕ
binding (token.Symbol symbol.Dot) = 8
binding (token.Symbol symbol.Star) = 7
binding (token.Symbol symbol.Plus) = 6
binding (token.Symbol symbol.Minus) = 6
binding (token.Symbol symbol.Equal) = 5
binding (token.Symbol symbol.Differs) = 5
binding (token.Symbol symbol.Less) = 5
binding (token.Symbol symbol.AtMost) = 5
binding (token.Symbol symbol.Greater) = 5
binding (token.Symbol symbol.AtLeast) = 5
binding (token.Symbol symbol.Amp) = 4
binding (token.Symbol symbol.Bar) = 3
binding (token.Symbol symbol.Implies) = 2
binding (token.Symbol symbol.Iff) = 1
binding (token.Symbol _) = 0
binding _ = 0

-- the next token binds less
abbrev pub Looser : ℕ → Rest
Looser n [] = Unit {0}
Looser n (t ∷ ts) = binding t.kind < n

-- the operators of a precedence are the tokens that bind so strongly
abbrev Binds : Operators → ℕ → Type 0
Binds operators n = (kind : TokenKind) → is_operator operators kind ≡ (binding kind == n)

iff_binds : Binds iff_operator 1
iff_binds (token.Symbol symbol.Iff) = refl
iff_binds (token.Symbol _) = refl
iff_binds _ = refl

implies_binds : Binds implies_operator 2
implies_binds (token.Symbol symbol.Implies) = refl
implies_binds (token.Symbol _) = refl
implies_binds _ = refl

or_binds : Binds or_operator 3
or_binds (token.Symbol symbol.Bar) = refl
or_binds (token.Symbol _) = refl
or_binds _ = refl

and_binds : Binds and_operator 4
and_binds (token.Symbol symbol.Amp) = refl
and_binds (token.Symbol _) = refl
and_binds _ = refl

comparison_binds : Binds comparison_operator 5
comparison_binds (token.Symbol symbol.Equal) = refl
comparison_binds (token.Symbol _) = refl
comparison_binds _ = refl

sum_binds : Binds sum_operator 6
sum_binds (token.Symbol symbol.Plus) = refl
sum_binds (token.Symbol _) = refl
sum_binds _ = refl

product_binds : Binds product_operator 7
product_binds (token.Symbol symbol.Star) = refl
product_binds (token.Symbol _) = refl
product_binds _ = refl

dot_binds : (kind : TokenKind) → is_symbol symbol.Dot kind ≡ (binding kind == 8)
dot_binds (token.Symbol symbol.Dot) = refl
dot_binds (token.Symbol _) = refl
dot_binds _ = refl

test_less : (m n : ℕ) → m < n → (m == n) ≡ false
test_less m n h = grind (arith, nat_tests)

test_same : (m n : ℕ) → (m == n) ≡ true → m ≡ n
test_same m n h = grind (arith, nat_tests)

looser_more : (m n : ℕ) → m ≤ n → (rest : List Token) → Looser m rest → Looser n rest
looser_more m n le [] h = tt
looser_more m n le (t ∷ ts) h = omega arith

looser_avoids : (test : Test) (n : ℕ) → ((kind : TokenKind) → test kind ≡ (binding kind == n)) → (rest : List Token) → Looser n rest → Avoids test rest
looser_avoids test n binds [] h = tt
looser_avoids test n binds (t ∷ ts) h = binds t.kind ∙ test_less (binding t.kind) n h

begins_looser : (test : Test) (n : ℕ) → ((kind : TokenKind) → test kind ≡ (binding kind == n)) → (rest : List Token) → Begins test rest → Looser (suc n) rest
begins_looser test n binds [] h = absurd h
begins_looser test n binds (t ∷ ts) h = let e : binding t.kind ≡ n = test_same (binding t.kind) n (sym (binds t.kind) ∙ h) in omega arith

begins_more : (test : Test) (xs rest : List Token) → Begins test xs → Begins test (xs ++ rest)
begins_more test [] rest h = absurd h
begins_more test (t ∷ xs) rest h = h

-- ---- one precedence

repeated_more : {A : Type 0} (R : Spelling A) (ys : List Token) (a : A) → R ys a → {xs : List Token} {items : List A} → Repeated R xs items
    → Repeated R (xs ++ ys) (items ++ a ∷ [])
repeated_more R ys a r None_more = subst (λ z. Repeated R z (a ∷ [])) (append-nil ys) (One_more r None_more)
repeated_more R ys a r (One_more {xs = us} {ys = vs} {a = b} {items = items} s rs) =
    subst (λ z. Repeated R z (b ∷ items ++ a ∷ [])) (sym (append_assoc us vs ys)) (One_more s (repeated_more R ys a r rs))

joined_more : (left : Expr) (os : List Operation) (o : Operation) → joined left (os ++ o ∷ []) ≡ join (joined left os) o
joined_more left [] o = refl
joined_more left (x ∷ os) o = joined_more (join left x) os o

operation_parts : (operators : Operators) (R : Spelling Expr) (ys : List Token) (e : Expr) (t : Token) (o : BinOp) → operators t.kind ≡ Some o → R ys e
    → OperationParts operators R (t ∷ ys) (o, t.place, e)
operation_parts operators R ys e t o is r = accept_then t is (part_last e r)

grouped_parts : (operators : Operators) (R : Spelling Expr) (xs : List Token) (e : Expr) → Grouped operators R xs e → GroupedParts operators R xs e
grouped_parts operators R xs e (Alone r) = subst (λ z. GroupedParts operators R z e) (append-nil xs) (part_then xs [] e r (part_last [] None_more))
grouped_parts operators R xs e (Joined {xs = us} {ys = vs} t {o} {left} {right} g is r) =
    let front = grouped_parts operators R us left g in
    let os = made front.second in
    let step : Operation = (o, t.place, right) in
    let all = repeated_more (OperationParts operators R) (t ∷ vs) step (operation_parts operators R vs right t o is r) os.spelled in
    let whole = part_then front.front (front.back ++ t ∷ vs) front.middle front.first (part_last (os.part ++ step ∷ []) all) in
    respell (GroupedParts operators R) whole
    (ap (λ z. z ++ t ∷ vs) front.joins ∙ append_assoc front.front front.back (t ∷ vs))
    (ap (λ z. join z step) os.gives ∙ sym (joined_more front.middle os.part step))

operation_begins : (operators : Operators) (R : Spelling Expr) → PartsBegin (is_operator operators) (OperationParts operators R)
operation_begins operators R xs o t =
    let front = taken t in
    subst (λ z. Begins (is_operator operators) z) (sym front.joins) (ap is_there front.gives)

operation_complete : {operators : Operators} {p : ℕ → Reader Expr} {R : Spelling Expr} {Stops : Rest} {d : ℕ} → Complete p R Stops d
    → Complete (λ m. operation operators (p m)) (OperationParts operators R) Stops d
unfolding operation
operation_complete c = next_complete accept_complete (λ o. last_complete c)

-- behind a first part stand operators, or what stands behind the whole
operations_stop : (operators : Operators) (n : ℕ) → Binds operators n → (R : Spelling Expr) (rest : List Token) → Looser n rest
    → {ys : List Token} {os : List Operation} → Repeated (OperationParts operators R) ys os → Looser (suc n) (ys ++ rest)
operations_stop operators n binds R rest looser None_more = looser_more n (suc n) (omega arith) rest looser
operations_stop operators n binds R rest looser (One_more {xs} {ys} {a} {items} r rs) =
    begins_looser (is_operator operators) n binds ((xs ++ ys) ++ rest)
    (begins_more (is_operator operators) (xs ++ ys) rest (begins_more (is_operator operators) xs ys (operation_begins operators R xs a r)))

pub grouped_complete : {operators : Operators} (n : ℕ) {p : ℕ → Reader Expr} {R : Spelling Expr} {d : ℕ} → Binds operators n
    → Complete p R (Looser (suc n)) d → Complete (λ m. grouped operators (p m)) (Grouped operators R) (Looser n) d
unfolding grouped
grouped_complete {operators} n {p} {R} {d} binds c =
    spelled_complete (grouped_parts operators R)
    (then_complete c
    (λ left. last_complete
    (stops_complete (λ rest looser. (looser_more n (suc n) (omega arith) rest looser, looser_avoids (is_operator operators) n binds rest looser))
    (many_complete (is_operator operators) (operation_complete c) (operation_begins operators R) (begins_looser (is_operator operators) n binds))))
    (λ left ys e rest t looser. operations_more left ys e rest t looser))
  where
    operations_more : (left : Expr) (ys : List Token) (e : Expr) (rest : List Token)
        → Then (Repeated (OperationParts operators R)) (λ os. IsDone (joined left os)) ys e → Looser n rest → Looser (suc n) (ys ++ rest)
    operations_more left ys e rest t looser = let os = made t in operations_stop operators n binds R rest looser os.spelled

-- ---- what a primary begins with

-- each kind of token that begins one by a number of its own below 5
abbrev front : TokenKind → ℕ
front (token.Symbol symbol.LeftParen) = 0
front (token.Symbol symbol.Minus) = 1
front (token.Symbol _) = 5
front (token.Word word.Sum) = 2
front (token.Word _) = 5
front (token.Number value whole) = 3
front (token.Name name quoted) = 4
front _ = 5

abbrev Opens : Test → ℕ → Type 0
Opens test n = (kind : TokenKind) → test kind ≡ (front kind == n)

parenthesis_opens : Opens (is_symbol symbol.LeftParen) 0
parenthesis_opens (token.Symbol symbol.LeftParen) = refl
parenthesis_opens (token.Symbol _) = refl
parenthesis_opens (token.Word word.Sum) = refl
parenthesis_opens (token.Word _) = refl
parenthesis_opens _ = refl

minus_opens : Opens (is_symbol symbol.Minus) 1
minus_opens (token.Symbol symbol.Minus) = refl
minus_opens (token.Symbol _) = refl
minus_opens (token.Word word.Sum) = refl
minus_opens (token.Word _) = refl
minus_opens _ = refl

sum_opens : Opens (is_word word.Sum) 2
sum_opens (token.Symbol symbol.Minus) = refl
sum_opens (token.Symbol _) = refl
sum_opens (token.Word word.Sum) = refl
sum_opens (token.Word _) = refl
sum_opens _ = refl

number_opens : Opens is_number 3
number_opens (token.Symbol symbol.Minus) = refl
number_opens (token.Symbol _) = refl
number_opens (token.Word word.Sum) = refl
number_opens (token.Word _) = refl
number_opens _ = refl

number_front : (kind : TokenKind) (value : ℤ) → number_of kind ≡ Some value → front kind ≡ 3
number_front kind value e = test_same (front kind) 3 (sym (number_opens kind) ∙ ap is_there e)

name_front : (kind : TokenKind) (name : List ℕ) → name_of kind ≡ Some name → front kind ≡ 4
name_front (token.Name name quoted) v e = refl
name_front (token.Symbol s) v e = absurd (cc)
name_front (token.Word w) v e = absurd (cc)
name_front (token.Number value whole) v e = absurd (cc)
name_front (token.Text text) v e = absurd (cc)
name_front _ v e = absurd (cc)

bang_front : (kind : TokenKind) → front kind < 5 → is_symbol symbol.Bang kind ≡ false
bang_front (token.Symbol symbol.Bang) h = absurd (omega arith)
bang_front (token.Symbol _) h = refl
bang_front _ h = refl

-- the tokens begin so
abbrev FrontIs : ℕ → List Token → Type 0
FrontIs n [] = ⊥
FrontIs n (t ∷ ts) = front t.kind ≡ n

same_number : (n : ℕ) → (n == n) ≡ true
same_number n = grind (arith, nat_tests)

front_begins : (test : Test) (n : ℕ) → Opens test n → (xs rest : List Token) → FrontIs n xs → Begins test (xs ++ rest)
front_begins test n opens [] rest h = absurd h
front_begins test n opens (t ∷ xs) rest h = opens t.kind ∙ ap (λ z. z == n) h ∙ same_number n

front_avoids : (test : Test) (m n : ℕ) → Opens test m → (n == m) ≡ false → (xs rest : List Token) → FrontIs n xs → Avoids test (xs ++ rest)
front_avoids test m n opens e [] rest h = absurd h
front_avoids test m n opens e (t ∷ xs) rest h = opens t.kind ∙ ap (λ z. z == m) h ∙ e

test_front : (test : Test) (n : ℕ) → Opens test n → (kind : TokenKind) → test kind ≡ true → front kind ≡ n
test_front test n opens kind e = test_same (front kind) n (sym (opens kind) ∙ e)

opened_front : {B : Type 0} (test : Test) (n : ℕ) → Opens test n → {S : Place → Spelling B} (xs : List Token) (w : B) → Then (IsOne test) S xs w → FrontIs n xs
opened_front test n opens xs w t = let o = opened t in subst (λ z. FrontIs n z) (sym o.joins) (test_front test n opens o.token.kind o.passes)

literal_front : (xs : List Token) (e : Expr) → LiteralParts xs e → FrontIs 3 xs
literal_front xs e t = let o = taken t in subst (λ z. FrontIs 3 z) (sym o.joins) (number_front o.token.kind o.value o.gives)

reference_front : (xs : List Token) (r : Ref) → SpellsRef xs r → FrontIs 4 xs
reference_front xs r (refs.Reference t {name} is names) = name_front t.kind name is

named_front : (xs : List Token) (e : Expr) → NamedParts xs e → FrontIs 4 xs
named_front xs e t = let r = made t in reference_front xs r.part r.spelled

-- ---- primaries

primary_parts : (Inner : Spelling Expr) (xs : List Token) (e : Expr) → SpellsPrimary Inner xs e → PrimaryParts Inner xs e
primary_parts Inner xs e (Parentheses left right {xs = ys} is inner closes) =
    inl (one_then left (kind_symbol symbol.LeftParen left.kind is) (part_then ys (right ∷ []) e inner (one_then right (kind_symbol symbol.RightParen right.kind closes) done_now)))
primary_parts Inner xs e (Literal t is) = inr (inr (inr (inl (accept_then t is done_now))))
primary_parts Inner xs e (Negative minus t is gives) = inr (inl (one_then minus (kind_symbol symbol.Minus minus.kind is) (accept_then t gives done_now)))
primary_parts Inner xs e (Sum t left key right is opens gives closes) =
    inr (inr (inl (one_then t (kind_word word.Sum t.kind is) (one_then left (kind_symbol symbol.LeftParen left.kind opens) (accept_then key gives (one_then right (kind_symbol symbol.RightParen right.kind closes) done_now))))))
primary_parts Inner xs e (Reference {r} spelled) = inr (inr (inr (inr (part_last r spelled))))

parenthesis_stops : (e : Expr) (ys : List Token) (w : Expr) (rest : List Token)
    → Then (IsOne (is_symbol symbol.RightParen)) (λ right. IsDone e) ys w → Looser 8 rest → Looser 1 (ys ++ rest)
parenthesis_stops e ys w rest t looser =
    let right = opened t in
    let kind = symbol_kind symbol.RightParen right.token.kind right.passes in
    let none : binding right.token.kind ≡ 0 = ap binding kind in
    subst (λ z. Looser 1 (z ++ rest)) (sym right.joins) (omega (arith, none))

parenthesized_complete : {p : ℕ → Reader Expr} {Inner : Spelling Expr} {d : ℕ} → Complete p Inner (Looser 1) d
    → Complete (λ m. parenthesized (p m)) (Then Inner (λ e. Then (IsOne (is_symbol symbol.RightParen)) (λ right. IsDone e))) (Looser 8) d
unfolding parenthesized
parenthesized_complete c = then_complete c (λ e. next_complete one_complete (λ right. done_complete (Looser 8))) parenthesis_stops

negative_complete : {d : ℕ} → Complete (λ m. bind (one (is_symbol symbol.Minus)) negative) NegativeParts (Looser 8) d
unfolding negative
negative_complete = next_complete one_complete (λ place. next_complete accept_complete (λ value. done_complete (Looser 8)))

total_complete : {d : ℕ} → Complete (λ m. bind (one (is_word word.Sum)) total) TotalParts (Looser 8) d
unfolding total
total_complete = next_complete one_complete (λ place. next_complete one_complete (λ left. next_complete accept_complete (λ key.
    next_complete one_complete (λ right. done_complete (Looser 8)))))

literal_complete : {d : ℕ} → Complete (λ m. literal) LiteralParts (Looser 8) d
unfolding literal
literal_complete = next_complete accept_complete (λ value. done_complete (Looser 8))

named_complete : {d : ℕ} → Complete (λ m. named) NamedParts (Looser 8) d
unfolding named
named_complete = last_complete (stops_complete (looser_avoids (is_symbol symbol.Dot) 8 dot_binds) reference_complete)

pub primary_complete : {p : ℕ → Reader Expr} {Inner : Spelling Expr} {d : ℕ} → Complete p Inner (Looser 1) d
    → Complete (λ m. primary_of (p m)) (SpellsPrimary Inner) (Looser 8) d
unfolding primary_of
primary_complete {Inner} c =
    spelled_complete (primary_parts Inner)
    (choose_complete (is_symbol symbol.LeftParen) (next_complete one_complete (λ left. parenthesized_complete c))
    (choose_complete (is_symbol symbol.Minus) negative_complete
    (choose_complete (is_word word.Sum) total_complete
    (choose_complete is_number literal_complete named_complete
    (λ xs v rest t looser. front_begins is_number 3 number_opens xs rest (literal_front xs v t))
    (λ xs v rest t looser. front_avoids is_number 3 4 number_opens refl xs rest (named_front xs v t)))
    (λ xs v rest t looser. front_begins (is_word word.Sum) 2 sum_opens xs rest (opened_front (is_word word.Sum) 2 sum_opens xs v t))
    not_sum)
    (λ xs v rest t looser. front_begins (is_symbol symbol.Minus) 1 minus_opens xs rest (opened_front (is_symbol symbol.Minus) 1 minus_opens xs v t))
    not_minus)
    (λ xs v rest t looser. front_begins (is_symbol symbol.LeftParen) 0 parenthesis_opens xs rest (opened_front (is_symbol symbol.LeftParen) 0 parenthesis_opens xs v t))
    not_parenthesis)
  where
    not_sum : (xs : List Token) (v : Expr) (rest : List Token) → Either LiteralParts NamedParts xs v → Looser 8 rest → Avoids (is_word word.Sum) (xs ++ rest)
    not_sum xs v rest (inl t) looser = front_avoids (is_word word.Sum) 2 3 sum_opens refl xs rest (literal_front xs v t)
    not_sum xs v rest (inr t) looser = front_avoids (is_word word.Sum) 2 4 sum_opens refl xs rest (named_front xs v t)

    not_minus : (xs : List Token) (v : Expr) (rest : List Token) → Either TotalParts (Either LiteralParts NamedParts) xs v → Looser 8 rest → Avoids (is_symbol symbol.Minus) (xs ++ rest)
    not_minus xs v rest (inl t) looser = front_avoids (is_symbol symbol.Minus) 1 2 minus_opens refl xs rest (opened_front (is_word word.Sum) 2 sum_opens xs v t)
    not_minus xs v rest (inr (inl t)) looser = front_avoids (is_symbol symbol.Minus) 1 3 minus_opens refl xs rest (literal_front xs v t)
    not_minus xs v rest (inr (inr t)) looser = front_avoids (is_symbol symbol.Minus) 1 4 minus_opens refl xs rest (named_front xs v t)

    not_parenthesis : (xs : List Token) (v : Expr) (rest : List Token) → Either NegativeParts (Either TotalParts (Either LiteralParts NamedParts)) xs v → Looser 8 rest
        → Avoids (is_symbol symbol.LeftParen) (xs ++ rest)
    not_parenthesis xs v rest (inl t) looser = front_avoids (is_symbol symbol.LeftParen) 0 1 parenthesis_opens refl xs rest (opened_front (is_symbol symbol.Minus) 1 minus_opens xs v t)
    not_parenthesis xs v rest (inr (inl t)) looser = front_avoids (is_symbol symbol.LeftParen) 0 2 parenthesis_opens refl xs rest (opened_front (is_word word.Sum) 2 sum_opens xs v t)
    not_parenthesis xs v rest (inr (inr (inl t))) looser = front_avoids (is_symbol symbol.LeftParen) 0 3 parenthesis_opens refl xs rest (literal_front xs v t)
    not_parenthesis xs v rest (inr (inr (inr t))) looser = front_avoids (is_symbol symbol.LeftParen) 0 4 parenthesis_opens refl xs rest (named_front xs v t)

-- ---- sums and comparisons

pub sum_complete : {p : ℕ → Reader Expr} {Inner : Spelling Expr} {d : ℕ} → Complete p Inner (Looser 1) d
    → Complete (λ m. sum_of (p m)) (SpellsSum Inner) (Looser 6) d
sum_complete c = grouped_complete 6 sum_binds (grouped_complete 7 product_binds (primary_complete c))

compared_parts : (Inner : Spelling Expr) (xs : List Token) (e : Expr) → SpellsComparison Inner xs e → ComparedParts (SpellsSum Inner) xs e
compared_parts Inner xs e (Compared {xs = us} {ys = vs} t {o} {left} {right} l is r) =
    let step : Operation = (o, t.place, right) in
    part_then us (t ∷ vs) left l (inl (part_last step (operation_parts comparison_operator (SpellsSum Inner) vs right t o is r)))
compared_parts Inner xs e (Not_compared s) = subst (λ z. ComparedParts (SpellsSum Inner) z e) (append-nil xs) (part_then xs [] e s (inr done_now))

-- what may stand behind the first sum
abbrev Comparing : Spelling Expr → Expr → Spelling Expr
Comparing Part left = Either (Then (OperationParts comparison_operator Part) (λ o. IsDone (join left o))) (IsDone left)

comparing_begins : (Part : Spelling Expr) (left : Expr) (xs : List Token) (v : Expr) (rest : List Token)
    → Then (OperationParts comparison_operator Part) (λ o. IsDone (join left o)) xs v → Looser 5 rest
    → Begins (is_operator comparison_operator) (xs ++ rest)
comparing_begins Part left xs v rest t looser =
    let o = made t in
    begins_more (is_operator comparison_operator) xs rest (operation_begins comparison_operator Part xs o.part o.spelled)

nothing_avoids : (test : Test) (left : Expr) (xs : List Token) (v : Expr) (rest : List Token) → IsDone left xs v → Avoids test rest → Avoids test (xs ++ rest)
nothing_avoids test left xs v rest t avoids = subst (λ z. Avoids test (z ++ rest)) (sym t.nothing) avoids

comparing_stops : (Part : Spelling Expr) (left : Expr) (ys : List Token) (w : Expr) (rest : List Token) → Comparing Part left ys w → Looser 5 rest → Looser 6 (ys ++ rest)
comparing_stops Part left ys w rest (inl t) looser =
    begins_looser (is_operator comparison_operator) 5 comparison_binds (ys ++ rest) (comparing_begins Part left ys w rest t looser)
comparing_stops Part left ys w rest (inr t) looser =
    subst (λ z. Looser 6 (z ++ rest)) (sym t.nothing) (looser_more 5 6 (omega arith) rest looser)

pub compared_complete : {p : ℕ → Reader Expr} {Inner : Spelling Expr} {d : ℕ} → Complete p (SpellsSum Inner) (Looser 6) d
    → Complete (λ m. compared (p m)) (SpellsComparison Inner) (Looser 5) d
unfolding compared
compared_complete {Inner} c =
    spelled_complete (compared_parts Inner)
    (then_complete c
    (λ left. choose_complete (is_operator comparison_operator)
    (last_complete (stops_complete (looser_more 5 6 (omega arith)) (operation_complete c)))
    (done_complete (Looser 5))
    (comparing_begins (SpellsSum Inner) left)
    (λ xs v rest t looser. nothing_avoids (is_operator comparison_operator) left xs v rest t (looser_avoids (is_operator comparison_operator) 5 comparison_binds rest looser)))
    (comparing_stops (SpellsSum Inner)))

-- ---- operands of the connectives

-- they begin as a primary does, but for a `!`
abbrev Fronts : List Token → Type 0
Fronts [] = ⊥
Fronts (t ∷ ts) = front t.kind < 5

front_below : (n : ℕ) → n < 5 → (xs : List Token) → FrontIs n xs → Fronts xs
front_below n h [] f = f
front_below n h (t ∷ xs) f = omega arith

fronts_more : (xs rest : List Token) → Fronts xs → Fronts (xs ++ rest)
fronts_more [] rest f = absurd f
fronts_more (t ∷ xs) rest f = f

parts_front : (Inner : Spelling Expr) (xs : List Token) (e : Expr) → PrimaryParts Inner xs e → Fronts xs
parts_front Inner xs e (inl t) = front_below 0 (omega arith) xs (opened_front (is_symbol symbol.LeftParen) 0 parenthesis_opens xs e t)
parts_front Inner xs e (inr (inl t)) = front_below 1 (omega arith) xs (opened_front (is_symbol symbol.Minus) 1 minus_opens xs e t)
parts_front Inner xs e (inr (inr (inl t))) = front_below 2 (omega arith) xs (opened_front (is_word word.Sum) 2 sum_opens xs e t)
parts_front Inner xs e (inr (inr (inr (inl t)))) = front_below 3 (omega arith) xs (literal_front xs e t)
parts_front Inner xs e (inr (inr (inr (inr t)))) = front_below 4 (omega arith) xs (named_front xs e t)

grouped_front : (operators : Operators) (R : Spelling Expr) → ((xs : List Token) (e : Expr) → R xs e → Fronts xs)
    → (xs : List Token) (e : Expr) → Grouped operators R xs e → Fronts xs
grouped_front operators R fronts xs e (Alone r) = fronts xs e r
grouped_front operators R fronts xs e (Joined {xs = us} {ys = vs} t {left} g is r) = fronts_more us (t ∷ vs) (grouped_front operators R fronts us left g)

sum_front : (Inner : Spelling Expr) (xs : List Token) (e : Expr) → SpellsSum Inner xs e → Fronts xs
sum_front Inner =
    grouped_front sum_operator (Grouped product_operator (SpellsPrimary Inner))
    (grouped_front product_operator (SpellsPrimary Inner) (λ xs e s. parts_front Inner xs e (primary_parts Inner xs e s)))

comparison_front : (Inner : Spelling Expr) (xs : List Token) (e : Expr) → SpellsComparison Inner xs e → Fronts xs
comparison_front Inner xs e (Compared {xs = us} {ys = vs} t {left} l is r) = fronts_more us (t ∷ vs) (sum_front Inner us left l)
comparison_front Inner xs e (Not_compared s) = sum_front Inner xs e s

fronts_avoid : (xs rest : List Token) → Fronts xs → Avoids (is_symbol symbol.Bang) (xs ++ rest)
fronts_avoid [] rest f = absurd f
fronts_avoid (t ∷ xs) rest f = bang_front t.kind f

operand_parts : (Deeper : Spelling Expr) (xs : List Token) (e : Expr) → SpellsOperand Deeper xs e
    → Either (OppositeParts Deeper) (SpellsComparison (Connected Deeper)) xs e
operand_parts Deeper xs e (Opposite bang {xs = ys} {e = inner} is r) = inl (one_then bang (kind_symbol symbol.Bang bang.kind is) (part_last inner r))
operand_parts Deeper xs e (Comparison r) = inr r

opposite_begins : (Deeper : Spelling Expr) (xs : List Token) (v : Expr) (rest : List Token) → OppositeParts Deeper xs v → Looser 5 rest
    → Begins (is_symbol symbol.Bang) (xs ++ rest)
opposite_begins Deeper xs v rest t looser =
    let bang = opened t in subst (λ z. Begins (is_symbol symbol.Bang) (z ++ rest)) (sym bang.joins) bang.passes

pub connected_complete : {p : ℕ → Reader Expr} {R : Spelling Expr} {d : ℕ} → Complete p R (Looser 5) d
    → Complete (λ m. connected (p m)) (Connected R) (Looser 1) d
connected_complete c =
    grouped_complete 1 iff_binds (grouped_complete 2 implies_binds (grouped_complete 3 or_binds (grouped_complete 4 and_binds c)))

opposite_complete : {p : ℕ → Reader Expr} {Deeper : Spelling Expr} {d : ℕ} → Complete p Deeper (Looser 5) d
    → Complete (λ m. bind (one (is_symbol symbol.Bang)) (opposite (p m))) (OppositeParts Deeper) (Looser 5) d
unfolding opposite
opposite_complete c = next_complete one_complete (λ place. last_complete c)

pub operand_of_complete : {p : ℕ → Reader Expr} {Deeper : Spelling Expr} {d : ℕ} → Complete p Deeper (Looser 5) d
    → Complete (λ m. operand_of (p m)) (SpellsOperand Deeper) (Looser 5) d
unfolding operand_of
operand_of_complete {p} {Deeper} c =
    spelled_complete (operand_parts Deeper)
    (choose_complete (is_symbol symbol.Bang) (opposite_complete c) (compared_complete (sum_complete (connected_complete c)))
    (opposite_begins Deeper)
    (λ xs v rest t looser. fronts_avoid xs rest (comparison_front (Connected Deeper) xs v t)))

-- ---- all depths

operand_is : (m : ℕ) (us : List Token) → operand_within (suc m) us ≡ operand_of (operand_within m) us
unfolding operand_within
operand_is m us = refl

pub operand_complete : (d : ℕ) → Complete operand_within (OperandWithin d) (Looser 5) d
operand_complete zero = record { reads = λ m le xs v rest r stops. absurd r }
operand_complete (suc d) =
    let deeper : Complete (λ m. operand_of (operand_within m)) (SpellsOperand (OperandWithin d)) (Looser 5) d = operand_of_complete (operand_complete d) in
    record {
      reads = λ m le xs v rest r stops.
          at_deeper operand_within (λ k. operand_of (operand_within k)) d m le (xs ++ rest) (Ok (v, rest)) operand_is (λ k below. deeper.reads k below xs v rest r stops);
    }

pub expression_within_complete : (d : ℕ) → Complete expression_within (ExprWithin d) (Looser 1) d
expression_within_complete d = connected_complete (operand_complete d)
