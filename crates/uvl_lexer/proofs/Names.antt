-- Identifiers and what stands in quotes are names.
use Rattle.std.proofs.Common.{◌≡◌, ℕ, suc, ◌-◌, ◌≤◌, ◌==◌, Bool, true, false, not, ◌||◌, List, [], ◌∷◌, ◌++◌, length, take, refl, sym, ap, ◌∙◌, subst, inl, inr, arith, length-append}
use Rattle.std.specs.List.{list_all, prefix_len}
use Rattle.std.proofs.Math.Seq.{take-append_seam}
use Rattle.std.proofs.lemmas.Bool.{cases_Bool, eqb-true, and_parts, and_from}
use Rattle.std.proofs.lemmas.Bool.Decides.{nat_tests}
use Rattle.unicode_ident.proofs.IdentLemmas.{is_xid_start-ascii, is_xid_continue-ascii}
use Rattle.uvl_base.specs.Identifier.{begins_identifier, continues_identifier}
use Rattle.uvl_base.specs.Name.{may_stand_in_name, is_name}
use Rattle.uvl_lexer.specs.Forms.{IsIdentifier, IsQuotedName}
use Rattle.uvl_lexer.specs.Layout.{inner}

-- a character is none of the three that a name doesn't hold, where those three fail a test that it passes
none_of_three : (p : ℕ → Bool) → p 34 ≡ false → p 10 ≡ false → p 13 ≡ false → (c : ℕ) → p c ≡ true → may_stand_in_name c ≡ true
none_of_three p quote lf cr c passes =
    elim (cases_Bool (c == 34)) [
      | inl is ↦ absurd (clash 34 (eqb-true c 34 is) quote)
      | inr not_quote ↦ elim (cases_Bool (c == 10)) [
        | inl is ↦ absurd (clash 10 (eqb-true c 10 is) lf)
        | inr not_lf ↦ elim (cases_Bool (c == 13)) [
          | inl is ↦ absurd (clash 13 (eqb-true c 13 is) cr)
          | inr not_cr ↦ all_three (c == 34) (c == 10) (c == 13) not_quote not_lf not_cr
        ]
      ]
    ]
  where
    clash : (k : ℕ) → c ≡ k → p k ≡ false → ⊥
    clash k same fails = let e : true ≡ false = sym passes ∙ ap p same ∙ fails in cc

    all_three : (x y z : Bool) → x ≡ false → y ≡ false → z ≡ false → not (x || y || z) ≡ true
    all_three x y z a b d = rw (a, b, d) refl

begins_quote : begins_identifier 34 ≡ false
begins_quote = ap (λ b. b || (34 == 95)) (is_xid_start-ascii 34 (omega arith))

begins_lf : begins_identifier 10 ≡ false
begins_lf = ap (λ b. b || (10 == 95)) (is_xid_start-ascii 10 (omega arith))

begins_cr : begins_identifier 13 ≡ false
begins_cr = ap (λ b. b || (13 == 95)) (is_xid_start-ascii 13 (omega arith))

continues_quote : continues_identifier 34 ≡ false
continues_quote = ap (λ b. b || (34 == 35 || 34 == 37 || 34 == 63)) (is_xid_continue-ascii 34 (omega arith))

continues_lf : continues_identifier 10 ≡ false
continues_lf = ap (λ b. b || (10 == 35 || 10 == 37 || 10 == 63)) (is_xid_continue-ascii 10 (omega arith))

continues_cr : continues_identifier 13 ≡ false
continues_cr = ap (λ b. b || (13 == 35 || 13 == 37 || 13 == 63)) (is_xid_continue-ascii 13 (omega arith))

pub begins-may_stand : (c : ℕ) → begins_identifier c ≡ true → may_stand_in_name c ≡ true
begins-may_stand = none_of_three begins_identifier begins_quote begins_lf begins_cr

pub continues-may_stand : (c : ℕ) → continues_identifier c ≡ true → may_stand_in_name c ≡ true
continues-may_stand = none_of_three continues_identifier continues_quote continues_lf continues_cr

-- characters that all pass a test all pass a weaker one
all_weaker : (p q : ℕ → Bool) → ((c : ℕ) → p c ≡ true → q c ≡ true) → (cs : List ℕ) → list_all p cs ≡ true → list_all q cs ≡ true
all_weaker p q weaker [] all = refl
all_weaker p q weaker (c ∷ cs) all =
    let parts = and_parts (p c) (list_all p cs) all in
    and_from (q c) (list_all q cs) (weaker c parts.0) (all_weaker p q weaker cs parts.1)

-- the characters in front that are counted pass the test
pub front_passes : (p : ℕ → Bool) (cs : List ℕ) → list_all p (take (prefix_len p cs) cs) ≡ true
front_passes p [] = refl
front_passes p (c ∷ cs) =
    elim (cases_Bool (p c)) [
      | inl passes ↦
          let one_more : prefix_len p (c ∷ cs) ≡ suc (prefix_len p cs) = rw passes (omega arith) in
          subst (λ (n : ℕ). list_all p (take n (c ∷ cs)) ≡ true) (sym one_more) (and_from (p c) _ passes (front_passes p cs))
      | inr fails ↦
          let none : prefix_len p (c ∷ cs) ≡ 0 = rw fails refl in
          subst (λ (n : ℕ). list_all p (take n (c ∷ cs)) ≡ true) (sym none) refl
    ]

some_there : (x : ℕ) (xs : List ℕ) → not (length (x ∷ xs) == 0) ≡ true
some_there x xs = grind (arith, nat_tests)

-- an identifier is a name
pub identifier-is_name : (cs : List ℕ) → IsIdentifier cs → is_name cs ≡ true
identifier-is_name cs (first, others, is, begins, all) =
    let stand = all_weaker continues_identifier may_stand_in_name continues-may_stand others all in
    subst (λ (t : List ℕ). is_name t ≡ true) (sym is) (and_from _ _ (some_there first others) (and_from (may_stand_in_name first) _ (begins-may_stand first begins) stand))

-- characters between quotes
pub inner_is : (k : ℕ) (inside : List ℕ) → inner (k ∷ inside ++ k ∷ []) ≡ inside
inner_is k inside =
    ap (λ (n : ℕ). take n (inside ++ k ∷ [])) (let size : length (k ∷ inside ++ k ∷ []) - 2 ≡ length inside = omega (arith, length-append inside (k ∷ [])) in size)
    ∙ take-append_seam inside (k ∷ [])

-- the quotes are two characters
pub quotes_there : (k : ℕ) (inside cs : List ℕ) → cs ≡ k ∷ inside ++ k ∷ [] → 2 ≤ length cs
quotes_there k inside cs is = omega (arith, ap length is, length-append inside (k ∷ []))

-- what stands in the quotes of a quoted name is a name
pub quoted-is_name : (cs : List ℕ) → IsQuotedName cs → is_name (inner cs) ≡ true
quoted-is_name cs (name, is, fits) = subst (λ (t : List ℕ). is_name t ≡ true) (sym (ap inner is ∙ inner_is 34 name)) fits
