-- Expressions: the steps of reading them, each in the words of the readers that need no depth.
use Rattle.std.specs.Prelude.{◌≡◌, ℕ, zero, suc, ◌<◌, ◌≤◌, Bool, true, false, cond, List, [], ◌∷◌, ◌++◌, length, Result, Ok, Err, IfOk, Option, Some, None}
use Rattle.std.specs.Borrow.{Bor}
use Rattle.uvl_parser.specs.declared.reading.Stop.{Stop}
use Rattle.std.specs.Result.{result_ok}
use Rattle.std.proofs.Common.{ℤ, refl, sym, ap, subst, ◌∙◌, arith, length-append}
use Rattle.uvl_base.specs.declared.place.Place.{Place}
use Rattle.uvl_lexer.specs.declared.token.Token.{Token}
use Rattle.uvl_lexer.specs.declared.token.TokenKind.{TokenKind}
use Rattle.uvl_lexer.specs.declared.token.TokenKind.TheVariants as token
use Rattle.uvl_base.specs.declared.word.Word.TheVariants as word
use Rattle.uvl_lexer.specs.declared.token.Symbol.TheVariants as symbol
use Rattle.uvl_ast.specs.declared.expression.Expr.{Expr}
use Rattle.uvl_ast.specs.declared.expression.Expr.TheVariants as expr
use Rattle.uvl_ast.specs.declared.expression.BinOp.{BinOp}
use Rattle.uvl_parser.specs.declared.expression.precedence.Precedence.{Precedence}
use Rattle.uvl_parser.specs.declared.expression.precedence.Precedence.TheVariants as precedence
use Rattle.uvl_parser.specs.declared.expression.opening.Opening.{Opening}
use Rattle.uvl_parser.specs.declared.expression.opening.Opening.TheVariants as opens
use Rattle.uvl_parser.specs.steps.Openings.{opening_of}
use Rattle.uvl_grammar.specs.steps.Tests.{Test, is_symbol, begins, is_there}
use Rattle.uvl_grammar.specs.Shapes.{Spelling}
use Rattle.uvl_grammar.specs.Expressions.{Operators, implies_operator, or_operator, and_operator, comparison_operator, sum_operator, product_operator, Grouped, OperandWithin}
use Rattle.uvl_grammar.specs.steps.Reading.{Read, Reader, ◌>>=◌, done, bind, one, accept, accepted, choose, repeat, closed}
use Rattle.uvl_parser.specs.steps.Gives.{Gives}
use Rattle.uvl_grammar.specs.steps.Refs.{reference}
use Rattle.uvl_grammar.specs.steps.Expressions.{Operation, is_operator, operation, join, joined, parenthesized, negative, total, literal, named, primary_of, compared, opposite, operand_of, operand_within, expression_within, primary_within, comparison_within, comparison, operand, primary, expression}
use Rattle.uvl_parser.specs.steps.Precedence.{part_within, precedence_within, of_precedence, part_of}
use Rattle.uvl_grammar.proofs.Readers.{Good, Outcome, settle}
use Rattle.uvl_grammar.proofs.Parts.Expressions.Spelled.{NamedParts, negative_good, total_good, named_good, named_has_token, PrimaryWithin, grouped_good, operand_within_good, primary_within_good, implies_has, or_has, and_has, sum_has, product_has}

-- ---- how many tokens are left

ok_rest : {A : Type 0} (x y : A × List Token) → ◌≡◌ {A = Read A} (Ok x) (Ok y) → x.1 ≡ y.1
ok_rest x y e = let same : x ≡ y = cc in ap (λ z. z.1) same

pub one_takes : (test : Test) (ts : List Token) (place : Place) (rest : List Token) → one test ts ≡ Ok (place, rest) → length ts ≡ suc (length rest)
unfolding one
one_takes test [] place rest e = absurd (cc)
one_takes test (t ∷ ts) place rest e = by_test (test t.kind) e
  where
    by_test : (b : Bool) → cond {A = Read Place} b (Ok (t.place, ts)) (Err (suc (length ts))) ≡ Ok (place, rest) → suc (length ts) ≡ suc (length rest)
    by_test true e = ap (λ z. suc (length z)) (ok_rest (t.place, ts) (place, rest) e)
    by_test false e = absurd (cc)

pub accept_takes : {A : Type 0} (f : TokenKind → Option A) (ts : List Token) (v : A × Place) (rest : List Token) → accept f ts ≡ Ok (v, rest)
    → length ts ≡ suc (length rest)
unfolding accept
accept_takes f [] v rest e = absurd (cc)
accept_takes {A} f (t ∷ ts) v rest e = by_value (f t.kind) e
  where
    by_value : (o : Option A) → accepted o t ts ≡ Ok (v, rest) → suc (length ts) ≡ suc (length rest)
    by_value (Some a) e = ap (λ z. suc (length z)) (ok_rest ((a, t.place), ts) (v, rest) e)
    by_value None e = absurd (cc)

-- ---- at every depth that suffices

-- what stands between the operators of a precedence, where it nests less than so deep
abbrev PartWithin : Precedence → ℕ → Spelling Expr
PartWithin precedence.Iff d = Grouped implies_operator (Grouped or_operator (Grouped and_operator (OperandWithin d)))
PartWithin precedence.Implies d = Grouped or_operator (Grouped and_operator (OperandWithin d))
PartWithin precedence.Or d = Grouped and_operator (OperandWithin d)
PartWithin precedence.And d = OperandWithin d
PartWithin precedence.Sum d = Grouped product_operator (PrimaryWithin d)
PartWithin precedence.Product d = PrimaryWithin d

part_good : (l : Precedence) (d : ℕ) → Good (part_within l) (PartWithin l d) d d
part_good precedence.Iff d = grouped_good implies_has (grouped_good or_has (grouped_good and_has (operand_within_good d)))
part_good precedence.Implies d = grouped_good or_has (grouped_good and_has (operand_within_good d))
part_good precedence.Or d = grouped_good and_has (operand_within_good d)
part_good precedence.And d = operand_within_good d
part_good precedence.Sum d = grouped_good product_has (primary_within_good d)
part_good precedence.Product d = primary_within_good d

-- a deeper reader reads a part as the reader without a depth does
pub part_settled : (l : Precedence) (ts : List Token) (m : ℕ) → length ts < m → part_within l m ts ≡ part_of l ts
unfolding part_of closed
part_settled l ts m h = settle (part_within l) (PartWithin l) (part_good l) ts (suc (length ts)) m (omega arith) (omega arith)

sum_settled : (ts : List Token) (m : ℕ) → length ts < m → precedence_within precedence.Sum m ts ≡ of_precedence precedence.Sum ts
unfolding of_precedence closed
sum_settled ts m h =
    settle (precedence_within precedence.Sum) (λ d. Grouped sum_operator (Grouped product_operator (PrimaryWithin d)))
    (λ d. grouped_good sum_has (grouped_good product_has (primary_within_good d))) ts (suc (length ts)) m (omega arith) (omega arith)

-- ---- operators

-- there is an operator in front exactly where one is accepted
pub no_operator : (operators : Operators) (ts : List Token) → None ≡ result_ok (accept operators ts) → begins (is_operator operators) ts ≡ false
unfolding accept
no_operator operators [] e = refl
no_operator operators (t ∷ ts) e = by_value (operators t.kind) e
  where
    by_value : (o : Option BinOp) → None ≡ result_ok (accepted o t ts) → is_there o ≡ false
    by_value (Some a) e = absurd (cc)
    by_value None e = refl

pub some_operator : (operators : Operators) (ts : List Token) (v : BinOp × Place) (rest : List Token)
    → Some (v, rest) ≡ result_ok (accept operators ts) → accept operators ts ≡ Ok (v, rest)
some_operator operators ts v rest e = by_result (accept operators ts) e
  where
    by_result : (r : Read (BinOp × Place)) → Some (v, rest) ≡ result_ok r → r ≡ Ok (v, rest)
    by_result (Ok x) e = cc
    by_result (Err left) e = absurd (cc)

pub operator_begins : (operators : Operators) (ts : List Token) (v : BinOp × Place) (rest : List Token)
    → accept operators ts ≡ Ok (v, rest) → begins (is_operator operators) ts ≡ true
unfolding accept
operator_begins operators [] v rest e = absurd (cc)
operator_begins operators (t ∷ ts) v rest e = by_value (operators t.kind) e
  where
    by_value : (o : Option BinOp) → accepted o t ts ≡ Ok (v, rest) → is_there o ≡ true
    by_value (Some a) e = refl
    by_value None e = absurd (cc)

-- an operator and its operand
operation_reads : (operators : Operators) (p : Reader Expr) (ts : List Token) (o : BinOp × Place) (behind : List Token)
    → accept operators ts ≡ Ok (o, behind) → operation operators p ts ≡ (p behind >>= λ r. Ok ((o.0, o.1, r.0), r.1))
unfolding operation bind done
operation_reads operators p ts o behind e = ap (λ r. r >>= λ z. p z.1 >>= λ y. Ok ((z.0.0, z.0.1, y.0), y.1)) e

-- ---- the turns of a loop over the operators of a precedence

-- operations behind a first operand
abbrev pub behind_left : Expr → Read (List Operation) → Read Expr
behind_left left r = r >>= λ z. Ok (joined left z.0, z.1)

module _ (operators : Operators) (p : Reader Expr) where
  abbrev pub Turns : ℕ → Reader (List Operation)
  Turns n = repeat n (is_operator operators) (operation operators p)

  pub turns_end : (left : Expr) (n : ℕ) (ts : List Token) → begins (is_operator operators) ts ≡ false → behind_left left (Turns n ts) ≡ Ok (left, ts)
  unfolding repeat choose bind done
  turns_end left zero ts e = refl
  turns_end left (suc n) [] e = refl
  turns_end left (suc n) (t ∷ ts) e =
      ap (λ b. behind_left left (cond b (bind (operation operators p) (λ a. bind (Turns n) (λ items. done (a ∷ items))) (t ∷ ts)) (Ok ([], t ∷ ts)))) e

  turn_open : (left : Expr) (n : ℕ) (ts : List Token) → begins (is_operator operators) ts ≡ true
      → behind_left left (Turns (suc n) ts) ≡ behind_left left (operation operators p ts >>= λ z. Turns n z.1 >>= λ y. Ok (z.0 ∷ y.0, y.1))
  unfolding repeat choose bind done
  turn_open left n [] e = absurd (cc)
  turn_open left n (t ∷ ts) e =
      ap (λ b. behind_left left (cond b (bind (operation operators p) (λ a. bind (Turns n) (λ items. done (a ∷ items))) (t ∷ ts)) (Ok ([], t ∷ ts)))) e

  turn_joins : (left : Expr) (o : Operation) (r : Read (List Operation))
      → behind_left left (r >>= λ y. Ok (o ∷ y.0, y.1)) ≡ behind_left (join left o) r
  turn_joins left o (Ok r) = refl
  turn_joins left o (Err left_over) = refl

  -- a turn joins an operand
  pub turn_reads : (left : Expr) (n : ℕ) (ts : List Token) (o : BinOp × Place) (behind : List Token) (right : Expr) (after : List Token)
      → accept operators ts ≡ Ok (o, behind) → p behind ≡ Ok (right, after)
      → behind_left left (Turns (suc n) ts) ≡ behind_left (expr.Binary o.0 left right o.1) (Turns n after)
  turn_reads left n ts o behind right after e reads =
      turn_open left n ts (operator_begins operators ts o behind e)
      ∙ ap (λ r. behind_left left (r >>= λ z. Turns n z.1 >>= λ y. Ok (z.0 ∷ y.0, y.1)))
      (operation_reads operators p ts o behind e ∙ ap (λ r. r >>= λ y. Ok ((o.0, o.1, y.0), y.1)) reads)
      ∙ turn_joins left (o.0, o.1, right) (Turns n after)

  -- or stops
  pub turn_stops : (left : Expr) (n : ℕ) (ts : List Token) (o : BinOp × Place) (behind : List Token) (left_over : ℕ)
      → accept operators ts ≡ Ok (o, behind) → p behind ≡ Err left_over → behind_left left (Turns (suc n) ts) ≡ Err left_over
  turn_stops left n ts o behind left_over e stops =
      turn_open left n ts (operator_begins operators ts o behind e)
      ∙ ap (λ r. behind_left left (r >>= λ z. Turns n z.1 >>= λ y. Ok (z.0 ∷ y.0, y.1)))
      (operation_reads operators p ts o behind e ∙ ap (λ r. r >>= λ y. Ok ((o.0, o.1, y.0), y.1)) stops)

-- ---- comparisons

-- what stands behind a first sum
compared_behind : Reader Expr → Expr → Reader Expr
compared_behind sum left = choose (is_operator comparison_operator) (bind (operation comparison_operator sum) (λ o. done (join left o))) (done left)

abbrev Sums : List Token → Reader Expr
Sums tokens = precedence_within precedence.Sum (suc (length tokens))

comparison_is : (tokens : List Token) (left : Expr) (rest : List Token) → of_precedence precedence.Sum tokens ≡ Ok (left, rest)
    → comparison tokens ≡ compared_behind (Sums tokens) left rest
unfolding comparison compared of_precedence closed bind compared_behind
comparison_is tokens left rest e = ap (λ r. r >>= λ z. compared_behind (Sums tokens) z.0 z.1) e

pub comparison_fails : (tokens : List Token) (left : ℕ) → of_precedence precedence.Sum tokens ≡ Err left → comparison tokens ≡ Err left
unfolding comparison compared of_precedence closed bind compared_behind
comparison_fails tokens left e = ap (λ r. r >>= λ z. compared_behind (Sums tokens) z.0 z.1) e

behind_none : (sum : Reader Expr) (left : Expr) (rest : List Token) → begins (is_operator comparison_operator) rest ≡ false
    → compared_behind sum left rest ≡ Ok (left, rest)
unfolding compared_behind choose done
behind_none sum left [] e = refl
behind_none sum left (t ∷ ts) e =
    ap (λ b. cond b (bind (operation comparison_operator sum) (λ o. done (join left o)) (t ∷ ts)) (Ok (left, t ∷ ts))) e

pub comparison_ends : (tokens : List Token) (left : Expr) (rest : List Token) → of_precedence precedence.Sum tokens ≡ Ok (left, rest)
    → None ≡ result_ok (accept comparison_operator rest) → comparison tokens ≡ Ok (left, rest)
comparison_ends tokens left rest e f =
    comparison_is tokens left rest e ∙ behind_none (Sums tokens) left rest (no_operator comparison_operator rest f)

behind_some : (sum : Reader Expr) (left : Expr) (rest : List Token) → begins (is_operator comparison_operator) rest ≡ true
    → compared_behind sum left rest ≡ (operation comparison_operator sum rest >>= λ z. Ok (join left z.0, z.1))
unfolding compared_behind choose bind done
behind_some sum left [] e = absurd (cc)
behind_some sum left (t ∷ ts) e =
    ap (λ b. cond b (operation comparison_operator sum (t ∷ ts) >>= λ z. Ok (join left z.0, z.1)) (Ok (left, t ∷ ts))) e

-- the second sum is read in its own words
comparison_more : (tokens : List Token) (left : Expr) (rest : List Token) (o : BinOp) (place : Place) (behind : List Token)
    → of_precedence precedence.Sum tokens ≡ Ok (left, rest) → length rest < length tokens
    → Some ((o, place), behind) ≡ result_ok (accept comparison_operator rest)
    → comparison tokens ≡ (of_precedence precedence.Sum behind >>= λ r. Ok (expr.Binary o left r.0 place, r.1))
comparison_more tokens left rest o place behind e h f =
    let is = some_operator comparison_operator rest (o, place) behind f in
    let fewer : length rest ≡ suc (length behind) = accept_takes comparison_operator rest (o, place) behind is in
    let within : length behind < suc (length tokens) = omega arith in
    comparison_is tokens left rest e
    ∙ behind_some (Sums tokens) left rest (operator_begins comparison_operator rest (o, place) behind is)
    ∙ ap (λ r. r >>= λ z. Ok (join left z.0, z.1)) (operation_reads comparison_operator (Sums tokens) rest (o, place) behind is)
    ∙ ap (λ r. (r >>= λ y. Ok ((o, place, y.0), y.1)) >>= λ z. Ok (join left z.0, z.1)) (sum_settled behind (suc (length tokens)) within)
    ∙ two_steps (of_precedence precedence.Sum behind)
  where
    two_steps : (r : Read Expr) → ((r >>= λ y. Ok ((o, place, y.0), y.1)) >>= λ z. Ok (join left z.0, z.1)) ≡ (r >>= λ y. Ok (expr.Binary o left y.0 place, y.1))
    two_steps (Ok r) = refl
    two_steps (Err left_over) = refl

pub comparison_reads : (tokens : List Token) (left : Expr) (rest : List Token) (o : BinOp) (place : Place) (behind : List Token) (right : Expr) (after : List Token)
    → of_precedence precedence.Sum tokens ≡ Ok (left, rest) → length rest < length tokens
    → Some ((o, place), behind) ≡ result_ok (accept comparison_operator rest) → of_precedence precedence.Sum behind ≡ Ok (right, after)
    → (whole : Expr) → whole ≡ expr.Binary o left right place → comparison tokens ≡ Ok (whole, after)
comparison_reads tokens left rest o place behind right after e h f g whole joins =
    comparison_more tokens left rest o place behind e h f ∙ ap (λ r. r >>= λ y. Ok (expr.Binary o left y.0 place, y.1)) g
    ∙ ap (λ z. Ok (z, after)) (sym joins)

pub comparison_stops : (tokens : List Token) (left : Expr) (rest : List Token) (o : BinOp) (place : Place) (behind : List Token) (left_over : ℕ)
    → of_precedence precedence.Sum tokens ≡ Ok (left, rest) → length rest < length tokens
    → Some ((o, place), behind) ≡ result_ok (accept comparison_operator rest) → of_precedence precedence.Sum behind ≡ Err left_over
    → comparison tokens ≡ Err left_over
comparison_stops tokens left rest o place behind left_over e h f g =
    comparison_more tokens left rest o place behind e h f ∙ ap (λ r. r >>= λ y. Ok (expr.Binary o left y.0 place, y.1)) g

-- ---- operands

pub operand_plain : (tokens : List Token) → begins (is_symbol symbol.Bang) tokens ≡ false → operand tokens ≡ comparison tokens
unfolding operand comparison closed operand_within operand_of primary_within choose
operand_plain [] e = refl
operand_plain (t ∷ ts) e =
    ap (λ b. cond b (bind (one (is_symbol symbol.Bang)) (opposite (operand_within (suc (length ts)))) (t ∷ ts)) (comparison (t ∷ ts))) e

operand_opens : (tokens : List Token) → begins (is_symbol symbol.Bang) tokens ≡ true
    → operand tokens ≡ (one (is_symbol symbol.Bang) tokens >>= λ z. opposite (operand_within (length tokens)) z.0 z.1)
unfolding operand closed operand_within operand_of choose bind primary_within
operand_opens [] e = absurd (cc)
operand_opens (t ∷ ts) e =
    ap (λ b. cond b (one (is_symbol symbol.Bang) (t ∷ ts) >>= λ z. opposite (operand_within (suc (length ts))) z.0 z.1) (comparison_within (suc (suc (length ts))) (t ∷ ts))) e

pub operand_fails : (tokens : List Token) (left : ℕ) → begins (is_symbol symbol.Bang) tokens ≡ true → one (is_symbol symbol.Bang) tokens ≡ Err left
    → operand tokens ≡ Err left
operand_fails tokens left e f = operand_opens tokens e ∙ ap (λ r. r >>= λ z. opposite (operand_within (length tokens)) z.0 z.1) f

operand_more : (tokens : List Token) (place : Place) (rest : List Token) → begins (is_symbol symbol.Bang) tokens ≡ true
    → one (is_symbol symbol.Bang) tokens ≡ Ok (place, rest) → operand tokens ≡ (operand rest >>= λ z. Ok (expr.Not z.0 place, z.1))
unfolding opposite bind done operand closed
operand_more tokens place rest e f =
    operand_opens tokens e
    ∙ ap (λ r. r >>= λ z. opposite (operand_within (length tokens)) z.0 z.1) f
    ∙ ap (λ n. operand_within n rest >>= λ z. Ok (expr.Not z.0 place, z.1)) (one_takes (is_symbol symbol.Bang) tokens place rest f)

pub operand_reads : (tokens : List Token) (place : Place) (rest : List Token) (inner : Expr) (after : List Token)
    → begins (is_symbol symbol.Bang) tokens ≡ true → one (is_symbol symbol.Bang) tokens ≡ Ok (place, rest) → operand rest ≡ Ok (inner, after)
    → (whole : Expr) → whole ≡ expr.Not inner place → operand tokens ≡ Ok (whole, after)
operand_reads tokens place rest inner after e f g whole negates =
    operand_more tokens place rest e f ∙ ap (λ r. r >>= λ z. Ok (expr.Not z.0 place, z.1)) g ∙ ap (λ z. Ok (z, after)) (sym negates)

pub operand_stops : (tokens : List Token) (place : Place) (rest : List Token) (left : ℕ)
    → begins (is_symbol symbol.Bang) tokens ≡ true → one (is_symbol symbol.Bang) tokens ≡ Ok (place, rest) → operand rest ≡ Err left
    → operand tokens ≡ Err left
operand_stops tokens place rest left e f g = operand_more tokens place rest e f ∙ ap (λ r. r >>= λ z. Ok (expr.Not z.0 place, z.1)) g

-- ---- primaries

-- how a primary goes on behind what its first token says
abbrev pub Opened : Opening → Reader Expr → Token → List Token → Read Expr
Opened opens.Parenthesis inner t rest = parenthesized inner rest
Opened opens.Minus inner t rest = negative t.place rest
Opened opens.Sum inner t rest = total t.place rest
Opened (opens.Number value) inner t rest = Ok (expr.Number value t.place, rest)
Opened opens.Other inner t rest = named (t ∷ rest)

primary_opened : (inner : Reader Expr) (kind : TokenKind) (place : Place) (from to : ℕ) (rest : List Token)
    → primary_of inner (record { kind = kind; place = place; from = from; to = to } ∷ rest) ≡ Opened (opening_of kind) inner (record { kind = kind; place = place; from = from; to = to }) rest
unfolding primary_of choose bind one literal accept done
primary_opened inner (token.Symbol symbol.LeftParen) place from to rest = refl
primary_opened inner (token.Symbol symbol.Minus) place from to rest = refl
primary_opened inner (token.Symbol _) place from to rest = refl
primary_opened inner (token.Word word.Sum) place from to rest = refl
primary_opened inner (token.Word _) place from to rest = refl
primary_opened inner (token.Number value whole) place from to rest = refl
primary_opened inner _ place from to rest = refl

primary_opens : (t : Token) (rest : List Token) → primary (t ∷ rest) ≡ Opened (opening_of t.kind) expression t rest
unfolding primary closed primary_within expression parenthesized bind
primary_opens t rest = primary_opened (expression_within (suc (length rest))) t.kind t.place t.from t.to rest ∙ along (opening_of t.kind)
  where
    along : (o : Opening) → Opened o (expression_within (suc (length rest))) t rest ≡ Opened o expression t rest
    along opens.Parenthesis = refl
    along opens.Minus = refl
    along opens.Sum = refl
    along (opens.Number value) = refl
    along opens.Other = refl

-- by what the first token says
pub primary_by : (tokens : List Token) (t : Token) (rest : List Token) (opening : Opening) → tokens ≡ t ∷ rest → opening ≡ opening_of t.kind
    → primary tokens ≡ Opened opening expression t rest
primary_by tokens t rest opening e f = ap primary e ∙ primary_opens t rest ∙ ap (λ o. Opened o expression t rest) (sym f)

pub primary_is_literal : (tokens : List Token) (t : Token) (rest : List Token) (value : ℤ) → tokens ≡ t ∷ rest
    → opens.Number value ≡ opening_of t.kind → (whole : Expr) → whole ≡ expr.Number value t.place → primary tokens ≡ Ok (whole, rest)
primary_is_literal tokens t rest value e f whole same =
    primary_by tokens t rest (opens.Number value) e f ∙ ap (λ z. Ok (z, rest)) (sym same)

pub primary_of_nothing : (tokens : List Token) → length tokens ≡ 0 → primary tokens ≡ Err 0
unfolding primary closed primary_within primary_of choose named bind reference accept
primary_of_nothing [] e = refl
primary_of_nothing (t ∷ ts) e = absurd (omega arith)

-- ---- what the readers of parts leave

outcome_leaves : {A : Type 0} (p : ℕ → Reader A) (R : Spelling A) (d : ℕ) (ts : List Token) (r : Read A) → Outcome p R d ts r
    → (v : A) (rest : List Token) → r ≡ Ok (v, rest) → (front : List Token) × (ts ≡ front ++ rest) × R front v
outcome_leaves p R d ts (Ok x) o v rest e =
    let same : x ≡ (v, rest) = cc in
    (o.front, o.splits ∙ ap (λ z. o.front ++ z.1) same, subst (λ z. R o.front z) (ap (λ z. z.0) same) o.spelled)
outcome_leaves p R d ts (Err left) o v rest e = absurd (cc)

-- what is read leaves no more tokens
pub no_longer : {A : Type 0} (p : ℕ → Reader A) (R : Spelling A) (d : ℕ) (ts : List Token) → Good p R d (suc (length ts))
    → (v : A) (rest : List Token) → p d ts ≡ Ok (v, rest) → length rest ≤ length ts
no_longer p R d ts good v rest e =
    let parts = outcome_leaves p R d ts (p d ts) (good.at ts (omega arith)) v rest e in
    omega (arith, ap length parts.1, length-append parts.0 rest)

pub negative_shorter : (place : Place) (ts : List Token) (v : Expr) (rest : List Token) → negative place ts ≡ Ok (v, rest) → length rest ≤ length ts
negative_shorter place ts v rest e = no_longer (λ m. negative place) _ 0 ts (negative_good place) v rest e

pub total_shorter : (place : Place) (ts : List Token) (v : Expr) (rest : List Token) → total place ts ≡ Ok (v, rest) → length rest ≤ length ts
total_shorter place ts v rest e = no_longer (λ m. total place) _ 0 ts (total_good place) v rest e

pub named_shorter : (ts : List Token) (v : Expr) (rest : List Token) → named ts ≡ Ok (v, rest) → length rest < length ts
named_shorter ts v rest e =
    let n = suc (length ts) in
    let good : Good (λ m. named) NamedParts 0 n = named_good in
    let parts = outcome_leaves (λ m. named) NamedParts 0 ts (named ts) (good.at ts (omega arith)) v rest e in
    let some = named_has_token parts.0 v parts.2 in
    omega (arith, ap length parts.1, length-append parts.0 rest)

-- a clause on what is left, from what is read
pub leaves : {X : Type 0} (n : ℕ) (result : Result (X × Bor (List Token)) Stop) (reading : Read X) → Gives (λ r. (r.0, r.1.now)) result reading
    → ((v : X) (rest : List Token) → reading ≡ Ok (v, rest) → length rest < n) → IfOk result (λ r. length r.1.now < n)
leaves n (Ok r) reading gives shorter = shorter r.0 r.1.now gives
leaves n (Err e) reading gives shorter = tt
