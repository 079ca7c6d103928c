-- Two numbers compare as their difference does with 0, which is a sum over the variables of the features.
use Rattle.std.proofs.Common.{◌≡◌, ℕ, suc, ◌+◌, ◌^◌, ◌<◌, ◌≤◌, ◌==◌, Bool, true, false, not, ◌&&◌, if◌then◌else◌, cond, List, [], ◌∷◌, ◌++◌, length, Result, Ok, Err, IfOk, IfErr, refl, ap, sym, ◌∙◌, subst, inl, inr, arith, lit<}
use Rattle.std.specs.Prelude.{ℤ, pos, negsuc, ◌+ℤ◌, ◌-ℤ◌, int_le, int_lt, unsigned_abs}
use Rattle.std.specs.List.{All, sum_by}
use Rattle.std.proofs.lemmas.Int.{ints}
use Rattle.std.proofs.lemmas.List.Elements.{All-cons, All-nil, All-head, All-tail}
use Rattle.std.proofs.lemmas.List.Sums.{sum_by-cons}
use Rattle.dd_store.specs.declared.refusal.Refusal.{Refusal}
use Rattle.dd_store.specs.declared.refusal.Refusal.TheVariants.{OverBudget, OutOfMemory}
use Rattle.dd_store.specs.declared.row.Var.{Var}
use Rattle.dd_store.specs.Changes.{Keeps}
use Rattle.dd_store.specs.Exhausted.{value_at}
use Rattle.dd_store.specs.Handles.{GainsHandle}
use Rattle.dd_store.specs.Order.{IsDistinct, level_in}
use Rattle.dd_store.specs.Size.{Function}
use Rattle.dd_store.specs.Table.{Table, IsVariable, value_of}
use Rattle.dd_store.proofs.SizeLemmas.{In}
use Rattle.uvl_functions.specs.Cause.{IsShortFor}
use Rattle.uvl_functions.specs.RuleParts.{group_of, opposite}
use Rattle.uvl_functions.specs.Variables.{marks_under}
use Rattle.uvl_functions.proofs.ShortLemmas.{AreCovered, IsBeside, IsCovered, cause-behind, cause-covered, short-for}
use Rattle.uvl_linear.specs.declared.form.LinearForm.{LinearForm}
use Rattle.uvl_linear.specs.Forms.{form_value, largest_form, marked_weight, size_of_form}
use Rattle.uvl_model.specs.declared.rows.FeatureRow.{FeatureRow}
use Rattle.uvl_model.specs.declared.rule.Cmp.{Cmp}
use Rattle.uvl_model.specs.declared.rule.Cmp.TheVariants as cmp
use Rattle.uvl_model.specs.declared.rule.Number.{Number}
use Rattle.uvl_model.specs.Amounts.{amount_of, counted}
use Rattle.uvl_sums.specs.declared.linear.Cmp3.{Cmp3}
use Rattle.uvl_sums.specs.declared.linear.Cmp3.TheVariants as cmp3
use Rattle.uvl_sums.specs.Sums.{Term, IsCauseOfSum, IsSum, comparison, size_of, total, variables_of}
use Rattle.uvl_sums.specs.Sums as sums
use Rattle.uvl_functions.specs.Functions.{comparison_function}
use Rattle.uvl_rule.specs.Comparisons.{difference_function, weighed}

-- ---- a term that may be left out

no-weight : (w : ℤ) → (int_le w (pos 0) && int_le (pos 0) w) ≡ true → w ≡ pos 0
no-weight (pos n) is = grind (arith, ints)
no-weight (negsuc n) is = grind (arith, ints)

-- what is left where the weight is 0
abbrev kept : Bool → Var → ℤ → List Term
kept left_out v w = if left_out then [] else (v, w) ∷ []

counted-none : (b : Bool) (w : ℤ) → w ≡ pos 0 → counted b w ≡ pos 0
counted-none true w is = is
counted-none false w is = refl

kept-total : (b : Bool) (v : Var) (w : ℤ) (rest : List Term) (a : ℕ → Bool) → (b ≡ true → w ≡ pos 0)
    → total (kept b v w ++ rest) a ≡ counted (a v.0) w +ℤ total rest a
kept-total true v w rest a none = let no = counted-none (a v.0) w (none refl) in omega (arith, ints)
kept-total false v w rest a none = refl

kept-size : (b : Bool) (v : Var) (w : ℤ) (rest : List Term) → size_of (kept b v w ++ rest) ≤ unsigned_abs w + size_of rest
kept-size true v w rest = omega arith
kept-size false v w rest = let one = sum_by-cons (λ (term : Term). unsigned_abs term.1) (v, w) rest in omega arith

kept-there : (P : Var → Type 0) (b : Bool) (v : Var) (w : ℤ) (rest : List Term) → P v → All P (variables_of rest) → All P (variables_of (kept b v w ++ rest))
kept-there P true v w rest one all = all
kept-there P false v w rest one all = All-cons P v (variables_of rest) one all

-- a variable that isn't among some isn't among those that are left
abbrev IsAbsent : List Var → ℕ → Type 0
IsAbsent vs n = level_in vs n ≡ length vs

absent-parts : (b : Bool) (l m : ℕ) → cond b 0 (suc l) ≡ suc m → (b ≡ false) × (l ≡ m)
absent-parts true l m is = absurd (omega arith)
absent-parts false l m is = (refl, omega arith)

absent-from : (b : Bool) (l m : ℕ) → b ≡ false → l ≡ m → cond b 0 (suc l) ≡ suc m
absent-from true l m is same = absurd (cc)
absent-from false l m is same = omega arith

kept-absent : (b : Bool) (v : Var) (w : ℤ) (rest : List Term) (n : ℕ) → (v.0 == n) ≡ false → IsAbsent (variables_of rest) n
    → IsAbsent (variables_of (kept b v w ++ rest)) n
kept-absent true v w rest n other absent = absent
kept-absent false v w rest n other absent = absent-from (v.0 == n) (level_in (variables_of rest) n) (length (variables_of rest)) other absent

weighed-absent : (vars : List Var) (weights : List ℤ) (n : ℕ) → IsAbsent vars n → IsAbsent (variables_of (weighed vars weights)) n
weighed-absent [] weights n absent = refl
weighed-absent (v ∷ vs) [] n absent = refl
weighed-absent (v ∷ vs) (w ∷ ws) n absent =
    let (other, rest) = absent-parts (v.0 == n) (level_in vs n) (length vs) absent in
    kept-absent (int_le w (pos 0) && int_le (pos 0) w) v w (weighed vs ws) n other (weighed-absent vs ws n rest)

kept-distinct : (b : Bool) (v : Var) (w : ℤ) (rest : List Term) → IsAbsent (variables_of rest) v.0 → IsDistinct (variables_of rest)
    → IsDistinct (variables_of (kept b v w ++ rest))
kept-distinct true v w rest absent distinct = distinct
kept-distinct false v w rest absent distinct = (absent, distinct)

-- ---- the terms of variables and weights

weighed-total : (vars : List Var) (weights : List ℤ) (a : ℕ → Bool) → total (weighed vars weights) a ≡ marked_weight (marks_under vars a) weights
weighed-total [] weights a = refl
weighed-total (v ∷ vs) [] a = refl
weighed-total (v ∷ vs) (w ∷ ws) a =
    kept-total (int_le w (pos 0) && int_le (pos 0) w) v w (weighed vs ws) a (no-weight w)
    ∙ ap (λ (z : ℤ). counted (a v.0) w +ℤ z) (weighed-total vs ws a)

weighed-size : (vars : List Var) (weights : List ℤ) → size_of (weighed vars weights) ≤ sum_by (λ weight. unsigned_abs weight) weights
weighed-size [] weights = omega arith
weighed-size (v ∷ vs) [] = omega arith
weighed-size (v ∷ vs) (w ∷ ws) =
    let one = kept-size (int_le w (pos 0) && int_le (pos 0) w) v w (weighed vs ws) in
    let rest = weighed-size vs ws in
    let more = sum_by-cons (λ (weight : ℤ). unsigned_abs weight) w ws in
    omega arith

weighed-there : (P : Var → Type 0) (vars : List Var) (weights : List ℤ) → All P vars → All P (variables_of (weighed vars weights))
weighed-there P [] weights all = All-nil P
weighed-there P (v ∷ vs) [] all = All-nil P
weighed-there P (v ∷ vs) (w ∷ ws) all =
    kept-there P (int_le w (pos 0) && int_le (pos 0) w) v w (weighed vs ws) (All-head P v vs all) (weighed-there P vs ws (All-tail P v vs all))

weighed-distinct : (vars : List Var) (weights : List ℤ) → IsDistinct vars → IsDistinct (variables_of (weighed vars weights))
weighed-distinct [] weights distinct = tt
weighed-distinct (v ∷ vs) [] distinct = tt
weighed-distinct (v ∷ vs) (w ∷ ws) distinct =
    kept-distinct (int_le w (pos 0) && int_le (pos 0) w) v w (weighed vs ws) (weighed-absent vs ws v.0 distinct.0) (weighed-distinct vs ws distinct.1)

below : (x y z : ℕ) → x ≤ y → y < z → x < z
below x y z p q = omega arith

-- ---- the sum of a form

module _ (vars : List Var) (form : LinearForm) (terms : List Term) (constant : ℤ) (terms_are : terms ≡ weighed vars form.weights.items)
    (constant_is : constant ≡ form.constant) where
  pub is-sum : (t : Table) → All (λ v. IsVariable t v.0) vars → IsDistinct vars → size_of_form form ≤ largest_form → IsSum t terms constant
  is-sum t there distinct small =
      subst (λ (z : ℤ). IsSum t terms z) (sym constant_is)
      (subst (λ (ts : List Term). IsSum t ts form.constant) (sym terms_are) (record {
        variables = record {
          there = weighed-there (λ v. IsVariable t v.0) vars form.weights.items there;
          distinct = weighed-distinct vars form.weights.items distinct;
        };
        size = below (unsigned_abs form.constant + size_of (weighed vars form.weights.items)) largest_form (2 ^ 126)
            (let less = weighed-size vars form.weights.items in omega arith) (lit< tt);
      }))

  -- the sum of the terms is the difference that the form is
  pub sum-is : (rows : List FeatureRow) (how : Cmp3) (first second : Number)
      → ((marks : List Bool) → form_value marks form ≡ (amount_of rows marks first).value -ℤ (amount_of rows marks second).value)
      → comparison how terms constant ≡ difference_function vars rows how first second
  sum-is rows how first second value = λ i a. sums.compares how (each a i)
    where
      each : (a : ℕ → Bool) → constant +ℤ total terms a
          ≡ (amount_of rows (marks_under vars a) first).value -ℤ (amount_of rows (marks_under vars a) second).value
      each a =
          ap (λ (z : ℤ). z +ℤ total terms a) constant_is
          ∙ ap (λ (ts : List Term). form.constant +ℤ total ts a) terms_are
          ∙ ap (λ (z : ℤ). form.constant +ℤ z) (weighed-total vars form.weights.items a)
          ∙ value (marks_under vars a)

-- the value of a sum's handle, told in another way
pub sum-told : (t : Table) (f g : Function) (result : Result ℕ Refusal) → f ≡ g → IfOk result (λ h. (a : ℕ → Bool) → value_of t h a ≡ f a)
    → IfOk result (λ h. value_at t h ≡ g)
sum-told t f g (Ok h) is value = (λ i a. value a i) ∙ is
sum-told t f g (Err r) is value = tt

-- why a sum is refused
pub sum-cause : (t u : Table) (f g : Function) (result : Result ℕ Refusal) → f ≡ g → IfErr result (IsCauseOfSum t u f)
    → IfErr result (IsShortFor t (group_of g [] [] ∷ []))
sum-cause t u f g (Ok h) is cause = tt
sum-cause t u f g (Err (OverBudget nodes roots)) is cause =
    short-for t f (group_of g [] []) (λ held. inr (inr (inl (inl (sym is))))) cause.size
sum-cause t u f g (Err OutOfMemory) is cause = tt

-- ---- changing sides

le-is : (x y : ℤ) → int_le (x -ℤ y) (pos 0) ≡ int_le x y
le-is x y = grind (arith, ints)

ge-is : (x y : ℤ) → int_le (pos 0) (x -ℤ y) ≡ int_le y x
ge-is x y = grind (arith, ints)

lt-is : (x y : ℤ) → int_lt (x -ℤ y) (pos 0) ≡ int_lt x y
lt-is x y = grind (arith, ints)

equal-is : (x y : ℤ) → (int_le (x -ℤ y) (pos 0) && int_le (pos 0) (x -ℤ y)) ≡ (int_le x y && int_le y x)
equal-is x y = ap (λ (b : Bool). b && int_le (pos 0) (x -ℤ y)) (le-is x y) ∙ ap (λ (b : Bool). int_le x y && b) (ge-is x y)

module _ (vars : List Var) (rows : List FeatureRow) (left right : Number) where
  abbrev value-of : (ℕ → Bool) → Number → ℤ
  value-of a number = (amount_of rows (marks_under vars a) number).value

  named : (how how' : Cmp) → how ≡ how' → comparison_function vars rows how' left right ≡ comparison_function vars rows how left right
  named how how' is = ap (λ (k : Cmp). comparison_function vars rows k left right) (sym is)

  pub same-Equal : (how : Cmp) → how ≡ cmp.Equal → difference_function vars rows cmp3.Equal left right ≡ comparison_function vars rows how left right
  same-Equal how is = (λ i a. equal-is (value-of a left) (value-of a right) i) ∙ named how cmp.Equal is

  pub same-Differs : (how : Cmp) → how ≡ cmp.Differs → opposite (difference_function vars rows cmp3.Equal left right) ≡ comparison_function vars rows how left right
  same-Differs how is = (λ i a. not (equal-is (value-of a left) (value-of a right) i)) ∙ named how cmp.Differs is

  pub same-Less : (how : Cmp) → how ≡ cmp.Less → difference_function vars rows cmp3.Less left right ≡ comparison_function vars rows how left right
  same-Less how is = (λ i a. lt-is (value-of a left) (value-of a right) i) ∙ named how cmp.Less is

  pub same-AtMost : (how : Cmp) → how ≡ cmp.AtMost → difference_function vars rows cmp3.AtMost left right ≡ comparison_function vars rows how left right
  same-AtMost how is = (λ i a. le-is (value-of a left) (value-of a right) i) ∙ named how cmp.AtMost is

  pub same-Greater : (how : Cmp) → how ≡ cmp.Greater → difference_function vars rows cmp3.Less right left ≡ comparison_function vars rows how left right
  same-Greater how is = (λ i a. lt-is (value-of a right) (value-of a left) i) ∙ named how cmp.Greater is

  pub same-AtLeast : (how : Cmp) → how ≡ cmp.AtLeast → difference_function vars rows cmp3.AtMost right left ≡ comparison_function vars rows how left right
  same-AtLeast how is = (λ i a. le-is (value-of a right) (value-of a left) i) ∙ named how cmp.AtLeast is

-- a value and a cause, by another name of the function
pub told-same : (t : Table) (f g : Function) (result : Result ℕ Refusal) → f ≡ g → IfOk result (λ h. value_at t h ≡ f) → IfOk result (λ h. value_at t h ≡ g)
told-same t f g result is value = subst (λ (k : Function). IfOk result (λ h. value_at t h ≡ k)) is value

pub cause-same : (t : Table) (f g : Function) (result : Result ℕ Refusal) → f ≡ g → IfErr result (IsShortFor t (group_of f [] [] ∷ []))
    → IfErr result (IsShortFor t (group_of g [] [] ∷ []))
cause-same t f g result is cause = subst (λ (k : Function). IfErr result (IsShortFor t (group_of k [] [] ∷ []))) is cause

-- ---- the opposite

not-not : (b : Bool) → not (not b) ≡ b
not-not true = refl
not-not false = refl

twice : (f : Function) → opposite (opposite f) ≡ f
twice f = λ i a. not-not (f a) i

module _ (order : List Var) (held : List Function) (f : Function) where
  in-opposite : (g : Function) → f ≡ g → IsBeside order held (group_of (opposite f) [] []) g
  in-opposite g same = inr (inr (inl (inr (inl (twice f ∙ same)))))

  -- a function and its opposite are in the group of the opposite
  opposite-covered : AreCovered order held held (group_of f [] [] ∷ []) (group_of (opposite f) [] [] ∷ [])
  opposite-covered group (inr none) = absurd none
  opposite-covered group (inl is) =
      subst (λ (k : List Function). IsCovered order held held (group_of (opposite f) [] [] ∷ []) k) is
      (group_of (opposite f) [] [], inl refl, λ g i. inl i, each)
    where
      each : (g : Function) → In g (group_of f [] []) → IsBeside order held (group_of (opposite f) [] []) g
      each g (inl same) = in-opposite g same
      each g (inr (inl same)) = inr (inr (inl (inl same)))
      each g (inr (inr none)) = absurd none

  negated-covered : AreCovered order (f ∷ held) held (group_of (opposite f) (f ∷ []) [] ∷ []) (group_of (opposite f) [] [] ∷ [])
  negated-covered group (inr none) = absurd none
  negated-covered group (inl is) =
      subst (λ (k : List Function). IsCovered order (f ∷ held) held (group_of (opposite f) [] [] ∷ []) k) is
      (group_of (opposite f) [] [], inl refl, first, each)
    where
      first : (g : Function) → In g (f ∷ held) → IsBeside order held (group_of (opposite f) [] []) g
      first g (inl same) = in-opposite g same
      first g (inr i) = inl i

      each : (g : Function) → In g (group_of (opposite f) (f ∷ []) []) → IsBeside order held (group_of (opposite f) [] []) g
      each g (inl same) = inr (inr (inl (inl same)))
      each g (inr (inl same)) = in-opposite g same
      each g (inr (inr (inl same))) = inr (inr (inl (inr (inl same))))
      each g (inr (inr (inr (inl same)))) = inr (inr (inl (inl same)))
      each g (inr (inr (inr (inr none)))) = absurd none

pub opposite-cause : (t : Table) (f : Function) (r : Refusal) → IsShortFor t (group_of f [] [] ∷ []) r → IsShortFor t (group_of (opposite f) [] [] ∷ []) r
opposite-cause t f r = cause-covered t (group_of f [] [] ∷ []) (group_of (opposite f) [] [] ∷ []) r (λ held. opposite-covered t.order held f)

-- behind a handle with the function, whose opposite is made
pub negated-refused : (t u : Table) (h : ℕ) (f : Function) (result : Result ℕ Refusal) → Keeps t u → GainsHandle t u h → value_at u h ≡ f
    → IfErr result (IsShortFor u (group_of (opposite (value_at u h)) (value_at u h ∷ []) [] ∷ [])) → IfErr result (IsShortFor t (group_of (opposite f) [] [] ∷ []))
negated-refused t u h f (Ok k) keeps gain is cause = tt
negated-refused t u h f (Err r) keeps gain is cause =
    let own = value_at u h in
    subst (λ (g : Function). IsShortFor t (group_of (opposite g) [] [] ∷ []) r) is
    (cause-behind t u h (group_of (opposite own) (own ∷ []) [] ∷ []) (group_of (opposite own) [] [] ∷ []) r keeps gain
    (λ held. negated-covered t.order held own) cause)
