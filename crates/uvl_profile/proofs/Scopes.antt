-- The scopes of brackets that a scan keeps make the nesting of the line.
use Rattle.std.specs.Prelude.{◌≡◌, ℕ, zero, suc, ◌+◌, ◌-◌, ◌≤◌, Bool, true, false, not, ◌&&◌, ◌||◌, cond, List, [], ◌∷◌, ◌++◌, length, reverse}
use Rattle.std.proofs.Common.{refl, sym, ap, ◌∙◌, arith}
use Rattle.std.proofs.lemmas.List.{reverse-append}
use Rattle.uvl_lexer.specs.declared.token.Token.{Token}
use Rattle.uvl_lexer.specs.declared.token.TokenKind.{TokenKind}
use Rattle.uvl_lexer.specs.declared.token.Symbol.TheVariants as symbol
use Rattle.uvl_lexer.specs.Kinds.{Test, is_symbol}
use Rattle.uvl_profile.specs.Lines.{is_layout, back_in_line, line_of}
use Rattle.uvl_profile.specs.Nesting.{opens_bracket, closes_bracket, ends_operand, open_behind, ends_outside, goes_on, one_if, open_brackets, nesting}
use Rattle.uvl_profile.specs.steps.Depth.{depth_around, depth_of}
use Rattle.uvl_profile.specs.steps.Scan.{outer_scopes, scopes_behind, scopes_of}
use Rattle.uvl_profile.proofs.Sorts.{Sort, Opening, Closing, Ending, Negating, Plain, sort_of}

-- ---- what goes on behind one more token in front

-- a token that ends nothing there and is no bracket is passed by
module _ (ends : Test) (t : Token) (ts : List Token) where
  passed : (n : ℕ) → opens_bracket t.kind ≡ false → closes_bracket t.kind ≡ false → ends_outside ends n t.kind ≡ false
      → goes_on ends n (t ∷ ts) ≡ goes_on ends n ts
  passed n o c e =
      ap (λ b. not b && goes_on ends (open_behind n t.kind) ts) e
      ∙ ap (λ b. goes_on ends (cond b (suc n) (cond (closes_bracket t.kind) (n - 1) n)) ts) o
      ∙ ap (λ b. goes_on ends (cond b (n - 1) n) ts) c

  entered : (n : ℕ) → opens_bracket t.kind ≡ true → ends_outside ends n t.kind ≡ false
      → goes_on ends n (t ∷ ts) ≡ goes_on ends (suc n) ts
  entered n o e =
      ap (λ b. not b && goes_on ends (open_behind n t.kind) ts) e
      ∙ ap (λ b. goes_on ends (cond b (suc n) (cond (closes_bracket t.kind) (n - 1) n)) ts) o

  left_inner : (n : ℕ) → opens_bracket t.kind ≡ false → closes_bracket t.kind ≡ true → goes_on ends (suc n) (t ∷ ts) ≡ goes_on ends n ts
  left_inner n o c =
      ap (λ b. goes_on ends (cond b (suc (suc n)) (cond (closes_bracket t.kind) (suc n - 1) (suc n))) ts) o
      ∙ ap (λ b. goes_on ends (cond b (suc n - 1) (suc n)) ts) c
      ∙ ap (λ k. goes_on ends k ts) (let e : suc n - 1 ≡ n = omega arith in e)

  ended : ends t.kind ≡ true → goes_on ends 0 (t ∷ ts) ≡ false
  ended e = ap (λ b. not b && goes_on ends (open_behind 0 t.kind) ts) e

none_outside : (ends : Test) (n : ℕ) (kind : TokenKind) → ends kind ≡ false → ends_outside ends n kind ≡ false
none_outside ends zero kind e = e
none_outside ends (suc n) kind e = refl

-- ---- what is left of scopes behind tokens

-- so many, if they go on
abbrev kept : ℕ → Bool → ℕ
kept b true = b
kept b false = 0

-- the brackets around a scope, and the `!` that apply to them, of which something is left behind tokens
abbrev left_around : ℕ → List ℕ → List Token → ℕ
left_around n [] ts = 0
left_around n (c ∷ cs) ts =
    one_if (goes_on closes_bracket n ts) + kept c (goes_on ends_operand (suc n) ts) + left_around (suc n) cs ts

abbrev left_of : List ℕ → List Token → ℕ
left_of [] ts = 0
left_of (b ∷ bs) ts = kept b (goes_on ends_operand 0 ts) + left_around 0 bs ts

-- the brackets alone
abbrev brackets_around : ℕ → List ℕ → List Token → ℕ
brackets_around n [] ts = 0
brackets_around n (c ∷ cs) ts = one_if (goes_on closes_bracket n ts) + brackets_around (suc n) cs ts

abbrev brackets_of : List ℕ → List Token → ℕ
brackets_of [] ts = 0
brackets_of (b ∷ bs) ts = brackets_around 0 bs ts

-- a token under which scopes go on as others do
module _ (t : Token) (ts : List Token) where
  around_passed : (n : ℕ) (cs : List ℕ) → opens_bracket t.kind ≡ false → closes_bracket t.kind ≡ false
      → left_around n cs (t ∷ ts) ≡ left_around n cs ts
  around_passed n [] o c = refl
  around_passed n (b ∷ cs) o c =
      ap (λ g. one_if g + kept b (goes_on ends_operand (suc n) (t ∷ ts)) + left_around (suc n) cs (t ∷ ts))
      (passed closes_bracket t ts n o c (none_outside closes_bracket n t.kind c))
      ∙ ap (λ g. one_if (goes_on closes_bracket n ts) + kept b g + left_around (suc n) cs (t ∷ ts)) (passed ends_operand t ts (suc n) o c refl)
      ∙ ap (λ k. one_if (goes_on closes_bracket n ts) + kept b (goes_on ends_operand (suc n) ts) + k) (around_passed (suc n) cs o c)

  around_entered : (n : ℕ) (cs : List ℕ) → opens_bracket t.kind ≡ true → closes_bracket t.kind ≡ false
      → left_around n cs (t ∷ ts) ≡ left_around (suc n) cs ts
  around_entered n [] o c = refl
  around_entered n (b ∷ cs) o c =
      ap (λ g. one_if g + kept b (goes_on ends_operand (suc n) (t ∷ ts)) + left_around (suc n) cs (t ∷ ts))
      (entered closes_bracket t ts n o (none_outside closes_bracket n t.kind c))
      ∙ ap (λ g. one_if (goes_on closes_bracket (suc n) ts) + kept b g + left_around (suc n) cs (t ∷ ts)) (entered ends_operand t ts (suc n) o refl)
      ∙ ap (λ k. one_if (goes_on closes_bracket (suc n) ts) + kept b (goes_on ends_operand (suc (suc n)) ts) + k) (around_entered (suc n) cs o c)

  around_left : (n : ℕ) (cs : List ℕ) → opens_bracket t.kind ≡ false → closes_bracket t.kind ≡ true
      → left_around (suc n) cs (t ∷ ts) ≡ left_around n cs ts
  around_left n [] o c = refl
  around_left n (b ∷ cs) o c =
      ap (λ g. one_if g + kept b (goes_on ends_operand (suc (suc n)) (t ∷ ts)) + left_around (suc (suc n)) cs (t ∷ ts)) (left_inner closes_bracket t ts n o c)
      ∙ ap (λ g. one_if (goes_on closes_bracket n ts) + kept b g + left_around (suc (suc n)) cs (t ∷ ts)) (left_inner ends_operand t ts (suc n) o c)
      ∙ ap (λ k. one_if (goes_on closes_bracket n ts) + kept b (goes_on ends_operand (suc n) ts) + k) (around_left (suc n) cs o c)

  brackets_passed : (n : ℕ) (cs : List ℕ) → opens_bracket t.kind ≡ false → closes_bracket t.kind ≡ false
      → brackets_around n cs (t ∷ ts) ≡ brackets_around n cs ts
  brackets_passed n [] o c = refl
  brackets_passed n (b ∷ cs) o c =
      ap (λ g. one_if g + brackets_around (suc n) cs (t ∷ ts)) (passed closes_bracket t ts n o c (none_outside closes_bracket n t.kind c))
      ∙ ap (λ k. one_if (goes_on closes_bracket n ts) + k) (brackets_passed (suc n) cs o c)

  brackets_entered : (n : ℕ) (cs : List ℕ) → opens_bracket t.kind ≡ true → closes_bracket t.kind ≡ false
      → brackets_around n cs (t ∷ ts) ≡ brackets_around (suc n) cs ts
  brackets_entered n [] o c = refl
  brackets_entered n (b ∷ cs) o c =
      ap (λ g. one_if g + brackets_around (suc n) cs (t ∷ ts)) (entered closes_bracket t ts n o (none_outside closes_bracket n t.kind c))
      ∙ ap (λ k. one_if (goes_on closes_bracket (suc n) ts) + k) (brackets_entered (suc n) cs o c)

  brackets_left : (n : ℕ) (cs : List ℕ) → opens_bracket t.kind ≡ false → closes_bracket t.kind ≡ true
      → brackets_around (suc n) cs (t ∷ ts) ≡ brackets_around n cs ts
  brackets_left n [] o c = refl
  brackets_left n (b ∷ cs) o c =
      ap (λ g. one_if g + brackets_around (suc (suc n)) cs (t ∷ ts)) (left_inner closes_bracket t ts n o c)
      ∙ ap (λ k. one_if (goes_on closes_bracket n ts) + k) (brackets_left (suc n) cs o c)

none_kept : (g : Bool) → kept 0 g ≡ 0
none_kept true = refl
none_kept false = refl

one_more : (b : ℕ) (g : Bool) → kept (b + 1) g ≡ one_if g + kept b g
one_more b true = omega arith
one_more b false = refl

-- ---- the scopes behind a token, by its sort

module _ (kind : TokenKind) (b : ℕ) (bs : List ℕ) where
  pub opened_scopes : opens_bracket kind ≡ true → scopes_behind (b ∷ bs) kind ≡ 0 ∷ b ∷ bs
  opened_scopes o = ap (λ x. cond x (0 ∷ b ∷ bs) (cond (closes_bracket kind) (outer_scopes bs) (cond (ends_operand kind) (0 ∷ bs) (cond (is_symbol symbol.Bang kind) ((b + 1) ∷ bs) (b ∷ bs))))) o

  not_opened : opens_bracket kind ≡ false
      → scopes_behind (b ∷ bs) kind ≡ cond (closes_bracket kind) (outer_scopes bs) (cond (ends_operand kind) (0 ∷ bs) (cond (is_symbol symbol.Bang kind) ((b + 1) ∷ bs) (b ∷ bs)))
  not_opened o = ap (λ x. cond x (0 ∷ b ∷ bs) (cond (closes_bracket kind) (outer_scopes bs) (cond (ends_operand kind) (0 ∷ bs) (cond (is_symbol symbol.Bang kind) ((b + 1) ∷ bs) (b ∷ bs))))) o

  pub closed_scopes : opens_bracket kind ≡ false → closes_bracket kind ≡ true → scopes_behind (b ∷ bs) kind ≡ outer_scopes bs
  closed_scopes o c = not_opened o ∙ ap (λ x. cond x (outer_scopes bs) (cond (ends_operand kind) (0 ∷ bs) (cond (is_symbol symbol.Bang kind) ((b + 1) ∷ bs) (b ∷ bs)))) c

  not_closed : opens_bracket kind ≡ false → closes_bracket kind ≡ false
      → scopes_behind (b ∷ bs) kind ≡ cond (ends_operand kind) (0 ∷ bs) (cond (is_symbol symbol.Bang kind) ((b + 1) ∷ bs) (b ∷ bs))
  not_closed o c = not_opened o ∙ ap (λ x. cond x (outer_scopes bs) (cond (ends_operand kind) (0 ∷ bs) (cond (is_symbol symbol.Bang kind) ((b + 1) ∷ bs) (b ∷ bs)))) c

  pub ended_scopes : opens_bracket kind ≡ false → closes_bracket kind ≡ false → ends_operand kind ≡ true → scopes_behind (b ∷ bs) kind ≡ 0 ∷ bs
  ended_scopes o c e = not_closed o c ∙ ap (λ x. cond x (0 ∷ bs) (cond (is_symbol symbol.Bang kind) ((b + 1) ∷ bs) (b ∷ bs))) e

  pub not_ended : opens_bracket kind ≡ false → closes_bracket kind ≡ false → ends_operand kind ≡ false
      → scopes_behind (b ∷ bs) kind ≡ cond (is_symbol symbol.Bang kind) ((b + 1) ∷ bs) (b ∷ bs)
  not_ended o c e = not_closed o c ∙ ap (λ x. cond x (0 ∷ bs) (cond (is_symbol symbol.Bang kind) ((b + 1) ∷ bs) (b ∷ bs))) e

-- ---- one token

module _ (t : Token) (ts : List Token) (b : ℕ) (bs : List ℕ) where
  -- what is left of scopes and what the tokens add, with this token in front, is the same behind it
  abbrev Same : Type 0
  Same = left_of (b ∷ bs) (t ∷ ts) + nesting (t ∷ ts) ≡ left_of (scopes_behind (b ∷ bs) t.kind) ts + nesting ts

  abbrev SameBrackets : Type 0
  SameBrackets = brackets_of (b ∷ bs) (t ∷ ts) + open_brackets (t ∷ ts) ≡ brackets_of (scopes_behind (b ∷ bs) t.kind) ts + open_brackets ts

  -- what it adds itself
  adds_bracket : opens_bracket t.kind ≡ true → one_if (opens_bracket t.kind && goes_on closes_bracket 0 ts) ≡ one_if (goes_on closes_bracket 0 ts)
  adds_bracket o = ap (λ y. one_if (y && goes_on closes_bracket 0 ts)) o

  adds_none : opens_bracket t.kind ≡ false → one_if (opens_bracket t.kind && goes_on closes_bracket 0 ts) ≡ 0
  adds_none o = ap (λ y. one_if (y && goes_on closes_bracket 0 ts)) o

  applies : is_symbol symbol.Bang t.kind ≡ true → one_if (is_symbol symbol.Bang t.kind && goes_on ends_operand 0 ts) ≡ one_if (goes_on ends_operand 0 ts)
  applies g = ap (λ y. one_if (y && goes_on ends_operand 0 ts)) g

  applies_none : is_symbol symbol.Bang t.kind ≡ false → one_if (is_symbol symbol.Bang t.kind && goes_on ends_operand 0 ts) ≡ 0
  applies_none g = ap (λ y. one_if (y && goes_on ends_operand 0 ts)) g

  same_behind : Sort t.kind → Same
  same_behind (Opening o c e g) =
      let inner = ap (kept b) (entered ends_operand t ts 0 o e) in
      let around = around_entered t ts 0 bs o c in
      let none = none_kept (goes_on ends_operand 0 ts) in
      let scopes = ap (λ ls. left_of ls ts + nesting ts) (opened_scopes t.kind b bs o) in
      omega (arith, inner, around, none, scopes, adds_bracket o, applies_none g)
  same_behind (Closing o c e g) =
      let inner = ap (kept b) (ended ends_operand t ts e) in
      let scopes = ap (λ ls. left_of ls ts + nesting ts) (closed_scopes t.kind b bs o c) in
      closing bs (adds_none o) (applies_none g) inner scopes o c
    where
      closing : (cs : List ℕ) → one_if (opens_bracket t.kind && goes_on closes_bracket 0 ts) ≡ 0
          → one_if (is_symbol symbol.Bang t.kind && goes_on ends_operand 0 ts) ≡ 0 → kept b (goes_on ends_operand 0 (t ∷ ts)) ≡ 0
          → left_of (scopes_behind (b ∷ bs) t.kind) ts + nesting ts ≡ left_of (outer_scopes cs) ts + nesting ts
          → opens_bracket t.kind ≡ false → closes_bracket t.kind ≡ true
          → left_of (b ∷ cs) (t ∷ ts) + nesting (t ∷ ts) ≡ left_of (scopes_behind (b ∷ bs) t.kind) ts + nesting ts
      closing [] a1 a2 inner scopes o c = let none = none_kept (goes_on ends_operand 0 ts) in omega (arith, a1, a2, inner, scopes, none)
      closing (d ∷ cs) a1 a2 inner scopes o c =
          let bracket = ap one_if (ended closes_bracket t ts c) in
          let applied = ap (kept d) (left_inner ends_operand t ts 0 o c) in
          let around = around_left t ts 0 cs o c in
          omega (arith, a1, a2, inner, scopes, bracket, applied, around)
  same_behind (Ending o c e g) =
      let inner = ap (kept b) (ended ends_operand t ts e) in
      let around = around_passed t ts 0 bs o c in
      let none = none_kept (goes_on ends_operand 0 ts) in
      let scopes = ap (λ ls. left_of ls ts + nesting ts) (ended_scopes t.kind b bs o c e) in
      omega (arith, inner, around, none, scopes, adds_none o, applies_none g)
  same_behind (Negating o c e g) =
      let inner = ap (kept b) (passed ends_operand t ts 0 o c e) in
      let around = around_passed t ts 0 bs o c in
      let more = one_more b (goes_on ends_operand 0 ts) in
      let scopes = ap (λ ls. left_of ls ts + nesting ts) (not_ended t.kind b bs o c e ∙ ap (λ x. cond x ((b + 1) ∷ bs) (b ∷ bs)) g) in
      omega (arith, inner, around, more, scopes, adds_none o, applies g)
  same_behind (Plain o c e g) =
      let inner = ap (kept b) (passed ends_operand t ts 0 o c e) in
      let around = around_passed t ts 0 bs o c in
      let scopes = ap (λ ls. left_of ls ts + nesting ts) (not_ended t.kind b bs o c e ∙ ap (λ x. cond x ((b + 1) ∷ bs) (b ∷ bs)) g) in
      omega (arith, inner, around, scopes, adds_none o, applies_none g)

  same_brackets : Sort t.kind → SameBrackets
  same_brackets (Opening o c e g) =
      let around = brackets_entered t ts 0 bs o c in
      let scopes = ap (λ ls. brackets_of ls ts + open_brackets ts) (opened_scopes t.kind b bs o) in
      omega (arith, around, scopes, adds_bracket o)
  same_brackets (Closing o c e g) =
      closing bs (adds_none o) (ap (λ ls. brackets_of ls ts + open_brackets ts) (closed_scopes t.kind b bs o c)) o c
    where
      closing : (cs : List ℕ) → one_if (opens_bracket t.kind && goes_on closes_bracket 0 ts) ≡ 0
          → brackets_of (scopes_behind (b ∷ bs) t.kind) ts + open_brackets ts ≡ brackets_of (outer_scopes cs) ts + open_brackets ts
          → opens_bracket t.kind ≡ false → closes_bracket t.kind ≡ true
          → brackets_of (b ∷ cs) (t ∷ ts) + open_brackets (t ∷ ts) ≡ brackets_of (scopes_behind (b ∷ bs) t.kind) ts + open_brackets ts
      closing [] a1 scopes o c = omega (arith, a1, scopes)
      closing (d ∷ cs) a1 scopes o c =
          let bracket = ap one_if (ended closes_bracket t ts c) in
          let around = brackets_left t ts 0 cs o c in
          omega (arith, a1, scopes, bracket, around)
  same_brackets (Ending o c e g) =
      let around = brackets_passed t ts 0 bs o c in
      let scopes = ap (λ ls. brackets_of ls ts + open_brackets ts) (ended_scopes t.kind b bs o c e) in
      omega (arith, around, scopes, adds_none o)
  same_brackets (Negating o c e g) =
      let around = brackets_passed t ts 0 bs o c in
      let scopes = ap (λ ls. brackets_of ls ts + open_brackets ts) (not_ended t.kind b bs o c e ∙ ap (λ x. cond x ((b + 1) ∷ bs) (b ∷ bs)) g) in
      omega (arith, around, scopes, adds_none o)
  same_brackets (Plain o c e g) =
      let around = brackets_passed t ts 0 bs o c in
      let scopes = ap (λ ls. brackets_of ls ts + open_brackets ts) (not_ended t.kind b bs o c e ∙ ap (λ x. cond x ((b + 1) ∷ bs) (b ∷ bs)) g) in
      omega (arith, around, scopes, adds_none o)

-- ---- a line

-- the scopes behind tokens of a line
abbrev run : List ℕ → List Token → List ℕ
run ls [] = ls
run ls (t ∷ ts) = run (scopes_behind ls t.kind) ts

-- there is always a scope
abbrev pub Some_scope : List ℕ → Type 0
Some_scope [] = ⊥
Some_scope (b ∷ bs) = Unit {0}

outer_there : (bs : List ℕ) → Some_scope (outer_scopes bs)
outer_there [] = tt
outer_there (c ∷ cs) = tt

some_behind : (ls : List ℕ) (kind : TokenKind) → Some_scope ls → Some_scope (scopes_behind ls kind)
some_behind [] kind there = absurd there
some_behind (b ∷ bs) kind there =
    picked (opens_bracket kind) (0 ∷ b ∷ bs) _ tt
    (picked (closes_bracket kind) (outer_scopes bs) _ (outer_there bs)
    (picked (ends_operand kind) (0 ∷ bs) _ tt (picked (is_symbol symbol.Bang kind) ((b + 1) ∷ bs) (b ∷ bs) tt tt)))
  where
    picked : (x : Bool) (ls ms : List ℕ) → Some_scope ls → Some_scope ms → Some_scope (cond x ls ms)
    picked true ls ms l m = l
    picked false ls ms l m = m

around_all : (n : ℕ) (bs : List ℕ) → left_around n bs [] ≡ depth_around bs
around_all n [] = refl
around_all n (c ∷ cs) = omega (arith, around_all (suc n) cs)

run_depth : (ts : List Token) (ls : List ℕ) → Some_scope ls → depth_of (run ls ts) ≡ left_of ls ts + nesting ts
run_depth ts [] there = absurd there
run_depth [] (b ∷ bs) there = omega (arith, around_all 0 bs)
run_depth (t ∷ ts) (b ∷ bs) there =
    run_depth ts (scopes_behind (b ∷ bs) t.kind) (some_behind (b ∷ bs) t.kind there) ∙ sym (same_behind t ts b bs (sort_of t.kind))

brackets_all : (n : ℕ) (bs : List ℕ) → brackets_around n bs [] ≡ length bs
brackets_all n [] = refl
brackets_all n (c ∷ cs) = omega (arith, brackets_all (suc n) cs)

run_length : (ts : List Token) (ls : List ℕ) → Some_scope ls → length (run ls ts) ≡ 1 + (brackets_of ls ts + open_brackets ts)
run_length ts [] there = absurd there
run_length [] (b ∷ bs) there = omega (arith, brackets_all 0 bs)
run_length (t ∷ ts) (b ∷ bs) there =
    run_length ts (scopes_behind (b ∷ bs) t.kind) (some_behind (b ∷ bs) t.kind there)
    ∙ ap (λ n. 1 + n) (sym (same_brackets t ts b bs (sort_of t.kind)))

run_more : (ls : List ℕ) (ts : List Token) (t : Token) → run ls (ts ++ t ∷ []) ≡ scopes_behind (run ls ts) t.kind
run_more ls [] t = refl
run_more ls (u ∷ ts) t = run_more (scopes_behind ls u.kind) ts t

-- the scopes that are kept are those of the line
scopes_run : (before : List Token) → scopes_of before ≡ run (0 ∷ []) (line_of before)
scopes_run [] = refl
scopes_run (t ∷ before) = by_mark (is_layout t.kind) (scopes_run before)
  where
    by_mark : (mark : Bool) → scopes_of before ≡ run (0 ∷ []) (line_of before)
        → cond mark (0 ∷ []) (scopes_behind (scopes_of before) t.kind) ≡ run (0 ∷ []) (reverse (cond mark [] (t ∷ back_in_line before)))
    by_mark true so_far = refl
    by_mark false so_far =
        ap (λ ls. scopes_behind ls t.kind) so_far
        ∙ sym (run_more (0 ∷ []) (line_of before) t)
        ∙ ap (run (0 ∷ [])) (sym (reverse-append (t ∷ []) (back_in_line before)))

-- they make the nesting of what follows
pub nesting_is : (before : List Token) → depth_of (scopes_of before) ≡ nesting (line_of before)
nesting_is before =
    let none = none_kept (goes_on ends_operand 0 (line_of before)) in
    let there : Some_scope (0 ∷ []) = tt in
    omega (arith, ap depth_of (scopes_run before), run_depth (line_of before) (0 ∷ []) there, none)

-- and one of them is outside all brackets
pub brackets_are : (before : List Token) → length (scopes_of before) ≡ 1 + open_brackets (line_of before)
brackets_are before =
    let there : Some_scope (0 ∷ []) = tt in
    omega (arith, ap length (scopes_run before), run_length (line_of before) (0 ∷ []) there)

pub some_scope : (before : List Token) → Some_scope (scopes_of before)
some_scope [] = tt
some_scope (t ∷ before) = by_mark (is_layout t.kind) (some_behind (scopes_of before) t.kind (some_scope before))
  where
    by_mark : (mark : Bool) → Some_scope (scopes_behind (scopes_of before) t.kind)
        → Some_scope (cond mark (0 ∷ []) (scopes_behind (scopes_of before) t.kind))
    by_mark true there = tt
    by_mark false there = there

-- ---- a bracket or `!` more

pub deepens_scopes : (ls : List ℕ) (kind : TokenKind) → Sort kind → Some_scope ls → (opens_bracket kind || is_symbol symbol.Bang kind) ≡ true
    → depth_of (scopes_behind ls kind) ≡ depth_of ls + 1
deepens_scopes [] kind sort there d = absurd there
deepens_scopes (b ∷ bs) kind (Opening o c e g) there d =
    ap depth_of (opened_scopes kind b bs o) ∙ omega arith
deepens_scopes (b ∷ bs) kind (Closing o c e g) there d = cc
deepens_scopes (b ∷ bs) kind (Ending o c e g) there d = cc
deepens_scopes (b ∷ bs) kind (Negating o c e g) there d =
    ap depth_of (not_ended kind b bs o c e ∙ ap (λ x. cond x ((b + 1) ∷ bs) (b ∷ bs)) g) ∙ omega arith
deepens_scopes (b ∷ bs) kind (Plain o c e g) there d = cc

-- no token makes more
pub depth_behind : (ls : List ℕ) (kind : TokenKind) → Sort kind → Some_scope ls → depth_of (scopes_behind ls kind) ≤ depth_of ls + 1
depth_behind [] kind sort there = absurd there
depth_behind (b ∷ bs) kind (Opening o c e g) there =
    let is = ap depth_of (opened_scopes kind b bs o) in omega (arith, is)
depth_behind (b ∷ bs) kind (Closing o c e g) there = outer bs (ap depth_of (closed_scopes kind b bs o c))
  where
    outer : (cs : List ℕ) → depth_of (scopes_behind (b ∷ bs) kind) ≡ depth_of (outer_scopes cs) → depth_of (scopes_behind (b ∷ bs) kind) ≤ depth_of (b ∷ cs) + 1
    outer [] is = omega (arith, is)
    outer (d ∷ cs) is = omega (arith, is)
depth_behind (b ∷ bs) kind (Ending o c e g) there = let is = ap depth_of (ended_scopes kind b bs o c e) in omega (arith, is)
depth_behind (b ∷ bs) kind (Negating o c e g) there =
    let is = ap depth_of (not_ended kind b bs o c e ∙ ap (λ x. cond x ((b + 1) ∷ bs) (b ∷ bs)) g) in omega (arith, is)
depth_behind (b ∷ bs) kind (Plain o c e g) there =
    let is = ap depth_of (not_ended kind b bs o c e ∙ ap (λ x. cond x ((b + 1) ∷ bs) (b ∷ bs)) g) in omega (arith, is)
