-- Shapes of productions, gone through with the scopes of brackets and `!` that stand around them.
use Rattle.std.specs.Prelude.{◌≡◌, ℕ, suc, ◌+◌, ◌-◌, ◌≤◌, List, [], ◌∷◌, ◌++◌, map}
use Rattle.std.specs.List.{All}
use Rattle.std.proofs.Common.{sym, ap, subst, ◌∙◌, arith}
use Rattle.std.proofs.lemmas.List.Elements.{All-nil, All-cons, All-head, All-tail}
use Rattle.uvl_lexer.specs.declared.token.Token.{Token}
use Rattle.uvl_lexer.specs.declared.token.TokenKind.TheVariants as token
use Rattle.uvl_lexer.specs.declared.token.Symbol.{Symbol}
use Rattle.uvl_ast.specs.Depth.{greatest}
use Rattle.uvl_grammar.specs.Tokens.{IsSymbol}
use Rattle.uvl_grammar.specs.Shapes.{Spelling, Repeated, None_more, One_more, OneOrMore, First, BehindComma, Comma, Separated, Nothing, Parts}
use Rattle.uvl_profile.specs.steps.Depth.{depth_around, depth_of}
use Rattle.uvl_profile.specs.steps.Scan.{scopes_of}
use Rattle.uvl_faults.proofs.Walking.{walk, walk_append, Clear, clear_front, clear_back}
use Rattle.uvl_faults.proofs.Nesting.Tokens.{scopes_after, scopes_at, Inside, behind_comma}
use Rattle.uvl_faults.proofs.Nesting.Limit.{over, not_over}

-- A part leads from a place of one sort to a place of another, and what it spells is of some sort.
abbrev pub Leads : {A : Type 0} → (List Token → Type 0) → (List Token → Type 0) → Spelling A → (A → Type 0) → Type 0
Leads {A} At After R P = (before xs : List Token) (a : A) → At before → Clear over before xs → R xs a → P a × After (walk before xs)

-- ---- repeated parts

module _ {A : Type 0} (At : List Token → Type 0) (R : Spelling A) (P : A → Type 0) (step : Leads At At R P) where
  pub repeated_leads : Leads At At (Repeated R) (All P)
  repeated_leads before ts items here clear None_more = (All-nil P, here)
  repeated_leads before ts items here clear (One_more {xs} {ys} {a} {items = rest} r rs) =
      let one = step before xs a here (clear_front over before xs ys clear) r in
      let more = repeated_leads (walk before xs) ys rest one.1 (clear_back over before xs ys clear) rs in
      (All-cons P a rest one.0 more.0, subst At (sym (walk_append before xs ys)) more.1)

  pub one_or_more_leads : Leads At At (OneOrMore R) (All P)
  one_or_more_leads before ts items here clear (First {xs} {ys} {a} {items = rest} r rs) =
      let one = step before xs a here (clear_front over before xs ys clear) r in
      let more = repeated_leads (walk before xs) ys rest one.1 (clear_back over before xs ys clear) rs in
      (All-cons P a rest one.0 more.0, subst At (sym (walk_append before xs ys)) more.1)

-- ---- with commas between them

module _ {A : Type 0} (bs : List ℕ) (R : Spelling A) (P : A → Type 0) (step : Leads (Inside 0 bs) (Inside 0 bs) R P) where
  comma_leads : Leads (Inside 0 bs) (Inside 0 bs) (BehindComma R) P
  comma_leads before ts a here clear (Comma comma {xs} is r) = step (comma ∷ before) xs a (behind_comma before comma here is) clear.1 r

  pub separated_leads : Leads (Inside 0 bs) (Inside 0 bs) (Separated R) (All P)
  separated_leads before ts items here clear Nothing = (All-nil P, here)
  separated_leads before ts items here clear (Parts {xs} {ys} {a} {items = rest} r rs) =
      let one = step before xs a here (clear_front over before xs ys clear) r in
      let more = repeated_leads (Inside 0 bs) (BehindComma R) P comma_leads (walk before xs) ys rest one.1 (clear_back over before xs ys clear) rs in
      (All-cons P a rest one.0 more.0, subst (Inside 0 bs) (sym (walk_append before xs ys)) more.1)

-- ---- in brackets

-- what a bracket does to the scopes
abbrev pub Opens : Symbol → Type 0
Opens s = (b : ℕ) (bs : List ℕ) → scopes_after (b ∷ bs) (token.Symbol s) ≡ 0 ∷ b ∷ bs

abbrev pub Closes : Symbol → Type 0
Closes s = (c b : ℕ) (bs : List ℕ) → scopes_after (c ∷ b ∷ bs) (token.Symbol s) ≡ b ∷ bs

-- What stands in brackets has one fewer, where m more make 128.
module _ {A : Type 0} (R : Spelling A) (P : ℕ → A → Type 0) (n m : ℕ) (bs : List ℕ) (room : 128 ≤ n + depth_around bs + m)
    (inner : (b k : ℕ) → 128 ≤ depth_around (b ∷ bs) + k → Leads (Inside 0 (b ∷ bs)) (Inside 0 (b ∷ bs)) R (P k)) where
  pub bracketed : (l r : Symbol) → Opens l → Closes r → (before xs : List Token) (left right : Token) (a : A) → Inside n bs before
      → Clear over before (left ∷ xs ++ right ∷ []) → IsSymbol l left → R xs a → IsSymbol r right
      → ((k : ℕ) × (m ≡ suc k) × P k a) × Inside n bs (walk before (left ∷ xs ++ right ∷ []))
  bracketed l r opens closes before xs left right a here clear is_left spelled is_right =
      let b = here.0 in
      let enough : n ≤ b = here.2 in
      let behind : scopes_of (left ∷ before) ≡ 0 ∷ b ∷ bs = scopes_at before left (b ∷ bs) (token.Symbol l) here.1 is_left ∙ opens b bs in
      let low = not_over before left clear.0 in
      let within : b + 1 + depth_around bs ≤ 128 = omega (arith, low, ap depth_of behind) in
      let some : m ≡ suc (m - 1) = omega arith in
      let inside : Inside 0 (b ∷ bs) (left ∷ before) = (0, behind, omega arith) in
      let found = inner b (m - 1) (omega arith) (left ∷ before) xs a inside (clear_front over (left ∷ before) xs (right ∷ []) clear.1) spelled in
      let front = walk (left ∷ before) xs in
      let after : scopes_of (right ∷ front) ≡ b ∷ bs = scopes_at front right (found.1.0 ∷ b ∷ bs) (token.Symbol r) found.1.1 is_right ∙ closes found.1.0 b bs in
      let outside : Inside n bs (right ∷ front) = (b, after, enough) in
      ((m - 1, some, found.0), subst (Inside n bs) (sym (walk_append before (left ∷ xs) (right ∷ []))) outside)

-- ---- the deepest of them

pub greatest_within : {A : Type 0} (f : A → ℕ) (k : ℕ) (items : List A) → All (λ a. f a ≤ k) items → greatest (map f items) ≤ k
greatest_within f k [] each = omega arith
greatest_within f k (a ∷ items) each =
    let here = All-head (λ a. f a ≤ k) a items each in
    let others = greatest_within f k items (All-tail (λ a. f a ≤ k) a items each) in
    omega (arith, here, others)
