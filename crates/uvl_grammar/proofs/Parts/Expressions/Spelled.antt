-- Expressions: what is read is spelled, and reading stops at the first token at which nothing can go on.
use Rattle.std.specs.Prelude.{◌≡◌, ℕ, zero, suc, List, [], ◌∷◌, ◌++◌, length, Some, neg_ℤ}
use Rattle.std.proofs.Common.{refl, sym, ap, subst, ◌∙◌, inl, inr, append_assoc, append-nil, arith}
use Rattle.uvl_base.specs.declared.place.Place.{Place}
use Rattle.uvl_lexer.specs.declared.token.Token.{Token}
use Rattle.uvl_lexer.specs.declared.token.TokenKind.{TokenKind}
use Rattle.uvl_lexer.specs.declared.token.TokenKind.TheVariants as token
use Rattle.uvl_base.specs.declared.word.Word.TheVariants as word
use Rattle.uvl_lexer.specs.declared.token.Symbol.TheVariants as symbol
use Rattle.uvl_ast.specs.declared.expression.Expr.{Expr}
use Rattle.uvl_ast.specs.declared.expression.Expr.TheVariants as expr
use Rattle.uvl_ast.specs.declared.expression.BinOp.{BinOp}
use Rattle.uvl_ast.specs.declared.expression.BinOp.TheVariants as op
use Rattle.uvl_grammar.specs.Tokens.{name_of, number_of}
use Rattle.uvl_grammar.specs.steps.Tests.{is_symbol, is_word}
use Rattle.uvl_grammar.specs.Shapes.{Spelling, Repeated, None_more, One_more}
use Rattle.uvl_grammar.specs.Refs.{SpellsRef}
use Rattle.uvl_grammar.specs.Refs as refs
use Rattle.uvl_grammar.specs.Expressions.{Operators, iff_operator, implies_operator, or_operator, and_operator, comparison_operator, sum_operator, product_operator, Grouped, Alone, Joined, Connected, SpellsPrimary, Parentheses, Literal, Negative, Sum, Reference, SpellsSum, SpellsComparison, Compared, Not_compared, SpellsOperand, Opposite, Comparison, OperandWithin, ExprWithin}
use Rattle.uvl_grammar.specs.steps.Reading.{Reader}
use Rattle.uvl_grammar.specs.steps.Expressions.{Operation, is_operator, operation, join, joined, grouped, parenthesized, negative, total, literal, named, is_number, primary_of, compared, sum_of, opposite, connected, operand_of, operand_within, expression_within, primary_within}
use Rattle.uvl_grammar.proofs.TokenKinds.{symbol_kind, word_kind}
use Rattle.uvl_grammar.proofs.Readers.{Good, Then, IsOne, IsAccepted, IsDone, Either, HasToken, then_good, spelled_so, done_good, choose_good, many_good, good_accept, opened, taken, respell}
use Rattle.uvl_grammar.proofs.Opened.{good_opened, good_deeper}
use Rattle.uvl_grammar.proofs.Parts.Samples.{sample, symbol_good, name_good, number_good}
use Rattle.uvl_grammar.proofs.Parts.Refs.{reference_good}

-- what is made of a part
pub record Made {A B : Type 0} (g : A → B) (R : Spelling A) (xs : List Token) (w : B) : Type 0 where
  pub part : A
  pub spelled : R xs part
  pub gives : w ≡ g part

pub made : {A B : Type 0} {g : A → B} {R : Spelling A} {xs : List Token} {w : B} → Then R (λ v. IsDone (g v)) xs w → Made g R xs w
made {R} t = record {
  part = t.middle;
  spelled = subst (λ z. R z t.middle) (sym (t.joins ∙ ap (λ z. t.front ++ z) t.second.nothing ∙ append-nil t.front)) t.first;
  gives = t.second.gives;
}

-- ---- operations

abbrev pub OperationParts : Operators → Spelling Expr → Spelling Operation
OperationParts operators R = Then (IsAccepted operators) (λ o. Then R (λ e. IsDone (o.0, o.1, e)))

-- an operator that there is
pub record Has (operators : Operators) : Type 0 where
  pub kind : TokenKind
  pub named : BinOp
  pub is : operators kind ≡ Some named

pub operation_good : {operators : Operators} {p : ℕ → Reader Expr} {R : Spelling Expr} {d n : ℕ} → Has operators → Good p R d n
    → Good (λ m. operation operators (p m)) (OperationParts operators R) d n
unfolding operation
operation_good {operators} {p} {R} {d} {n} has good =
    then_good (good_accept operators (sample has.kind) has.named has.is d n) (λ o. then_good good (λ e. done_good))

operation_has_token : {operators : Operators} {R : Spelling Expr} → HasToken (OperationParts operators R)
operation_has_token xs v t = let front = taken t in omega (arith, ap length front.joins)

operations_joined : (operators : Operators) (R : Spelling Expr) (us : List Token) (left : Expr) → Grouped operators R us left
    → {vs : List Token} {os : List Operation} → Repeated (OperationParts operators R) vs os → Grouped operators R (us ++ vs) (joined left os)
operations_joined operators R us left g None_more = subst (λ z. Grouped operators R z left) (sym (append-nil us)) g
operations_joined operators R us left g (One_more {xs} {ys} {a} {items} r rs) =
    let o = taken r in
    let e = made o.second in
    let next : Grouped operators R (us ++ xs) (join left a) =
    respell (Grouped operators R) (Joined o.token g o.gives e.spelled) (ap (λ z. us ++ z) o.joins) (ap (join left) e.gives) in
    subst (λ z. Grouped operators R z (joined left (a ∷ items))) (append_assoc us xs ys)
    (operations_joined operators R (us ++ xs) (join left a) next rs)

-- ---- one precedence

abbrev pub GroupedParts : Operators → Spelling Expr → Spelling Expr
GroupedParts operators R = Then R (λ left. Then (Repeated (OperationParts operators R)) (λ os. IsDone (joined left os)))

grouped_so : (operators : Operators) (R : Spelling Expr) (xs : List Token) (e : Expr) → GroupedParts operators R xs e → Grouped operators R xs e
grouped_so operators R xs e t =
    let os = made t.second in
    respell (Grouped operators R) (operations_joined operators R t.front t.middle (Alone t.first) os.spelled) t.joins os.gives

pub grouped_good : {operators : Operators} {p : ℕ → Reader Expr} {R : Spelling Expr} {d n : ℕ} → Has operators → Good p R d n
    → Good (λ m. grouped operators (p m)) (Grouped operators R) d n
unfolding grouped
grouped_good {operators} {p} {R} {d} {n} has good =
    spelled_so (grouped_so operators R)
    (then_good good (λ left. then_good (many_good (is_operator operators) (operation_good has good) operation_has_token) (λ os. done_good)))

-- ---- an operand of numbers

abbrev pub Bracketed : Spelling Expr → Spelling Expr
Bracketed Inner = Then (IsOne (is_symbol symbol.LeftParen)) (λ left. Then Inner (λ e. Then (IsOne (is_symbol symbol.RightParen)) (λ right. IsDone e)))

abbrev pub NegativeParts : Spelling Expr
NegativeParts = Then (IsOne (is_symbol symbol.Minus)) (λ place. Then (IsAccepted number_of) (λ value. IsDone (expr.Number (neg_ℤ value.0) place)))

abbrev pub TotalParts : Spelling Expr
TotalParts = Then (IsOne (is_word word.Sum)) (λ place. Then (IsOne (is_symbol symbol.LeftParen)) (λ left. Then (IsAccepted name_of) (λ key.
    Then (IsOne (is_symbol symbol.RightParen)) (λ right. IsDone (expr.Sum key.0 place)))))

abbrev pub LiteralParts : Spelling Expr
LiteralParts = Then (IsAccepted number_of) (λ value. IsDone (expr.Number value.0 value.1))

reference_has_token : HasToken SpellsRef
reference_has_token xs r (refs.Reference t is names) = omega arith

abbrev pub NamedParts : Spelling Expr
NamedParts = Then SpellsRef (λ r. IsDone (expr.Name r))

-- a token alone
alone : {xs : List Token} {t : Token} {ys : List Token} → xs ≡ t ∷ ys → ys ≡ [] → xs ≡ t ∷ []
alone {t} e f = e ∙ ap (λ z. t ∷ z) f

bracketed_so : (Inner : Spelling Expr) (xs : List Token) (e : Expr) → Bracketed Inner xs e → SpellsPrimary Inner xs e
bracketed_so Inner xs e t =
    let left = opened t in
    let inner = left.second in
    let right = opened inner.second in
    respell (SpellsPrimary Inner)
    (Parentheses left.token right.token (symbol_kind symbol.LeftParen left.token.kind left.passes) inner.first (symbol_kind symbol.RightParen right.token.kind right.passes))
    (left.joins ∙ ap (λ z. left.token ∷ z) (inner.joins ∙ ap (λ z. inner.front ++ z) (alone right.joins right.second.nothing)))
    right.second.gives

negative_so : (Inner : Spelling Expr) (xs : List Token) (e : Expr) → NegativeParts xs e → SpellsPrimary Inner xs e
negative_so Inner xs e t =
    let minus = opened t in
    let value = taken minus.second in
    respell (SpellsPrimary Inner) (Negative minus.token value.token (symbol_kind symbol.Minus minus.token.kind minus.passes) value.gives)
    (minus.joins ∙ ap (λ z. minus.token ∷ z) (alone value.joins value.second.nothing)) value.second.gives

total_so : (Inner : Spelling Expr) (xs : List Token) (e : Expr) → TotalParts xs e → SpellsPrimary Inner xs e
total_so Inner xs e t =
    let sum = opened t in
    let left = opened sum.second in
    let key = taken left.second in
    let right = opened key.second in
    respell (SpellsPrimary Inner)
    (Sum sum.token left.token key.token right.token (word_kind word.Sum sum.token.kind sum.passes) (symbol_kind symbol.LeftParen left.token.kind left.passes) key.gives (symbol_kind symbol.RightParen right.token.kind right.passes))
    (sum.joins ∙ ap (λ z. sum.token ∷ z) (left.joins ∙ ap (λ z. left.token ∷ z) (key.joins ∙ ap (λ z. key.token ∷ z) (alone right.joins right.second.nothing))))
    right.second.gives

literal_so : (Inner : Spelling Expr) (xs : List Token) (e : Expr) → LiteralParts xs e → SpellsPrimary Inner xs e
literal_so Inner xs e t =
    let value = taken t in
    respell (SpellsPrimary Inner) (Literal value.token value.gives) (alone value.joins value.second.nothing) value.second.gives

named_so : (Inner : Spelling Expr) (xs : List Token) (e : Expr) → NamedParts xs e → SpellsPrimary Inner xs e
named_so Inner xs e t = let r = made t in respell (SpellsPrimary Inner) (Reference r.spelled) refl r.gives

abbrev pub PrimaryParts : Spelling Expr → Spelling Expr
PrimaryParts Inner = Either (Bracketed Inner) (Either NegativeParts (Either TotalParts (Either LiteralParts NamedParts)))

primary_so : (Inner : Spelling Expr) (xs : List Token) (e : Expr) → PrimaryParts Inner xs e → SpellsPrimary Inner xs e
primary_so Inner xs e (inl t) = bracketed_so Inner xs e t
primary_so Inner xs e (inr (inl t)) = negative_so Inner xs e t
primary_so Inner xs e (inr (inr (inl t))) = total_so Inner xs e t
primary_so Inner xs e (inr (inr (inr (inl t)))) = literal_so Inner xs e t
primary_so Inner xs e (inr (inr (inr (inr t)))) = named_so Inner xs e t

parenthesized_good : {p : ℕ → Reader Expr} {Inner : Spelling Expr} {d n : ℕ} → Good p Inner d n
    → Good (λ m. parenthesized (p m)) (Then Inner (λ e. Then (IsOne (is_symbol symbol.RightParen)) (λ right. IsDone e))) d n
unfolding parenthesized
parenthesized_good good = then_good good (λ e. then_good (symbol_good symbol.RightParen) (λ right. done_good))

pub negative_good : (place : Place) {d n : ℕ} → Good (λ m. negative place) (Then (IsAccepted number_of) (λ value. IsDone (expr.Number (neg_ℤ value.0) place))) d n
unfolding negative
negative_good place = then_good number_good (λ value. done_good)

pub total_good : (place : Place) {d n : ℕ} → Good (λ m. total place) (Then (IsOne (is_symbol symbol.LeftParen)) (λ left. Then (IsAccepted name_of) (λ key.
    Then (IsOne (is_symbol symbol.RightParen)) (λ right. IsDone (expr.Sum key.0 place))))) d n
unfolding total
total_good place = then_good (symbol_good symbol.LeftParen) (λ left. then_good name_good (λ key. then_good (symbol_good symbol.RightParen) (λ right. done_good)))

literal_good : {d n : ℕ} → Good (λ m. literal) LiteralParts d n
unfolding literal
literal_good = then_good number_good (λ value. done_good)

pub named_has_token : HasToken NamedParts
named_has_token xs e t = let r = made t in reference_has_token xs r.part r.spelled

pub named_good : {d n : ℕ} → Good (λ m. named) NamedParts d n
unfolding named
named_good = then_good reference_good (λ r. done_good)

pub primary_good : {p : ℕ → Reader Expr} {Inner : Spelling Expr} {d n : ℕ} → Good p Inner d n
    → Good (λ m. primary_of (p m)) (SpellsPrimary Inner) d (suc n)
unfolding primary_of
primary_good {p} {Inner} {d} {n} good =
    spelled_so (primary_so Inner)
    (good_opened (is_symbol symbol.LeftParen) (λ m left. parenthesized (p m)) _ _ _ d n (λ left. parenthesized_good good)
    (good_opened (is_symbol symbol.Minus) (λ m. negative) _ _ _ d n (λ place. negative_good place)
    (good_opened (is_word word.Sum) (λ m. total) _ _ _ d n (λ place. total_good place)
    (choose_good is_number literal_good named_good))))

-- ---- sums and comparisons

pub iff_has : Has iff_operator
iff_has = record { kind = token.Symbol symbol.Iff; named = op.Iff; is = refl }

pub implies_has : Has implies_operator
implies_has = record { kind = token.Symbol symbol.Implies; named = op.Implies; is = refl }

pub or_has : Has or_operator
or_has = record { kind = token.Symbol symbol.Bar; named = op.Or; is = refl }

pub and_has : Has and_operator
and_has = record { kind = token.Symbol symbol.Amp; named = op.And; is = refl }

comparison_has : Has comparison_operator
comparison_has = record { kind = token.Symbol symbol.Less; named = op.Less; is = refl }

pub sum_has : Has sum_operator
sum_has = record { kind = token.Symbol symbol.Plus; named = op.Plus; is = refl }

pub product_has : Has product_operator
product_has = record { kind = token.Symbol symbol.Star; named = op.Times; is = refl }

pub sum_good : {p : ℕ → Reader Expr} {Inner : Spelling Expr} {d n : ℕ} → Good p Inner d n → Good (λ m. sum_of (p m)) (SpellsSum Inner) d (suc n)
sum_good good = grouped_good sum_has (grouped_good product_has (primary_good good))

abbrev pub ComparedParts : Spelling Expr → Spelling Expr
ComparedParts Part = Then Part (λ left. Either (Then (OperationParts comparison_operator Part) (λ o. IsDone (join left o))) (IsDone left))

compared_so : (Inner : Spelling Expr) (xs : List Token) (e : Expr) → ComparedParts (SpellsSum Inner) xs e → SpellsComparison Inner xs e
compared_so Inner xs e t = cases t.second
  where
    cases : Either (Then (OperationParts comparison_operator (SpellsSum Inner)) (λ o. IsDone (join t.middle o))) (IsDone t.middle) t.back e
        → SpellsComparison Inner xs e
    cases (inl more) =
        let whole = made more in
        let o = taken whole.spelled in
        let right = made o.second in
        respell (SpellsComparison Inner) (Compared o.token t.first o.gives right.spelled)
        (t.joins ∙ ap (λ z. t.front ++ z) o.joins) (whole.gives ∙ ap (join t.middle) right.gives)
    cases (inr nothing) =
        respell (SpellsComparison Inner) (Not_compared t.first)
        (t.joins ∙ ap (λ z. t.front ++ z) nothing.nothing ∙ append-nil t.front) nothing.gives

pub compared_good : {p : ℕ → Reader Expr} {Inner : Spelling Expr} {d n : ℕ} → Good p (SpellsSum Inner) d n
    → Good (λ m. compared (p m)) (SpellsComparison Inner) d n
unfolding compared
compared_good {Inner} good =
    spelled_so (compared_so Inner)
    (then_good good (λ left. choose_good (is_operator comparison_operator) (then_good (operation_good comparison_has good) (λ o. done_good)) done_good))

-- ---- operands of the connectives

pub connected_good : {p : ℕ → Reader Expr} {R : Spelling Expr} {d n : ℕ} → Good p R d n → Good (λ m. connected (p m)) (Connected R) d n
connected_good good = grouped_good iff_has (grouped_good implies_has (grouped_good or_has (grouped_good and_has good)))

abbrev pub OppositeParts : Spelling Expr → Spelling Expr
OppositeParts Deeper = Then (IsOne (is_symbol symbol.Bang)) (λ place. Then Deeper (λ e. IsDone (expr.Not e place)))

opposite_good : (place : Place) {p : ℕ → Reader Expr} {Deeper : Spelling Expr} {d n : ℕ} → Good p Deeper d n
    → Good (λ m. opposite (p m) place) (Then Deeper (λ e. IsDone (expr.Not e place))) d n
unfolding opposite
opposite_good place good = then_good good (λ e. done_good)

operand_so : (Deeper : Spelling Expr) (xs : List Token) (e : Expr) → Either (OppositeParts Deeper) (SpellsComparison (Connected Deeper)) xs e
    → SpellsOperand Deeper xs e
operand_so Deeper xs e (inl t) =
    let bang = opened t in
    let inner = made bang.second in
    respell (SpellsOperand Deeper) (Opposite bang.token (symbol_kind symbol.Bang bang.token.kind bang.passes) inner.spelled)
    bang.joins inner.gives
operand_so Deeper xs e (inr t) = Comparison t

pub operand_of_good : {p : ℕ → Reader Expr} {Deeper : Spelling Expr} {d n : ℕ} → Good p Deeper d n
    → Good (λ m. operand_of (p m)) (SpellsOperand Deeper) d (suc n)
unfolding operand_of
operand_of_good {p} {Deeper} {d} {n} good =
    spelled_so (operand_so Deeper)
    (good_opened (is_symbol symbol.Bang) (λ m. opposite (p m)) _ _ _ d n (λ place. opposite_good place good)
    (compared_good (sum_good (connected_good good))))

-- ---- all depths

operand_is : (m : ℕ) (us : List Token) → operand_within (suc m) us ≡ operand_of (operand_within m) us
unfolding operand_within
operand_is m us = refl

-- The readers keep to what is spelled, on lists that have fewer tokens than they may nest deep.
pub operand_within_good : (d : ℕ) → Good operand_within (OperandWithin d) d d
operand_within_good zero = record { at = λ ts h. absurd (omega arith) }
operand_within_good (suc d) = good_deeper operand_within (λ m. operand_of (operand_within m)) (SpellsOperand (OperandWithin d)) d (suc d) operand_is (operand_of_good (operand_within_good d))

pub expression_within_good : (d : ℕ) → Good expression_within (ExprWithin d) d d
expression_within_good d = connected_good (operand_within_good d)

primary_is : (m : ℕ) (us : List Token) → primary_within (suc m) us ≡ primary_of (expression_within m) us
unfolding primary_within
primary_is m us = refl

-- what stands in the parentheses of a primary
abbrev pub PrimaryWithin : ℕ → Spelling Expr
PrimaryWithin zero xs e = ⊥
PrimaryWithin (suc d) xs e = SpellsPrimary (ExprWithin d) xs e

pub primary_within_good : (d : ℕ) → Good primary_within (PrimaryWithin d) d d
primary_within_good zero = record { at = λ ts h. absurd (omega arith) }
primary_within_good (suc d) = good_deeper primary_within (λ m. primary_of (expression_within m)) (SpellsPrimary (ExprWithin d)) d (suc d) primary_is (primary_good (expression_within_good d))
