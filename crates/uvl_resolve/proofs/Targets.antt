-- The file that is called so, by the number of its line.
use Rattle.std.proofs.Common.{◌≡◌, ℕ, suc, length, arith, List, [], ◌∷◌, map, Option, Some, None, Bool, true, false, cond, refl, sym, ap, ◌∙◌}
use Rattle.std.specs.Prelude.{slice_get, position, nat_lt}
use Rattle.std.specs.List.{position_or_len}
use Rattle.std.proofs.lemmas.Bool.Decides.{nat_tests}
use Rattle.std.specs.Option.{option_map, option_and_then}
use Rattle.std.specs.Str.{bytes_eq}
use Rattle.uvl_ast.specs.declared.file.Import.{Import}
use Rattle.uvl_placing.specs.Names.{qualifier_of, target_called}

-- where the first that passes stands, by cases on the first of all
pub position_next : {A : Type 0} (p : A → Bool) (x : A) (xs : List A)
    → position p (x ∷ xs) ≡ cond (p x) (Some 0) (option_map suc (position p xs))
position_next {A} p x xs = by (p x) refl
  where
    n : ℕ
    n = position_or_len p xs

    shifted : (b : Bool) → nat_lt n (length xs) ≡ b
        → cond (nat_lt (suc n) (suc (length xs))) (Some (suc n)) None ≡ option_map suc (cond b (Some n) None)
    shifted true e =
        let lt : nat_lt (suc n) (suc (length xs)) ≡ true = grind (arith, nat_tests, e) in
        ap (λ (t : Bool). cond t (Some (suc n)) None) lt
    shifted false e =
        let lt : nat_lt (suc n) (suc (length xs)) ≡ false = grind (arith, nat_tests, e) in
        ap (λ (t : Bool). cond t (Some (suc n)) None) lt

    first : nat_lt 0 (suc (length xs)) ≡ true
    first = grind (arith, nat_tests)

    by : (b : Bool) → p x ≡ b → position p (x ∷ xs) ≡ cond b (Some 0) (option_map suc (position p xs))
    by true e =
        let at : position_or_len p (x ∷ xs) ≡ 0 = rw e refl in
        ap (λ (k : ℕ). cond (nat_lt k (suc (length xs))) (Some k) None) at ∙ ap (λ (t : Bool). cond t (Some 0) None) first
    by false e =
        let at : position_or_len p (x ∷ xs) ≡ suc n = rw e (omega arith) in
        ap (λ (k : ℕ). cond (nat_lt k (suc (length xs))) (Some k) None) at ∙ shifted (nat_lt n (length xs)) refl

-- the target of the line with that number
pub called_by_number : (qualifier : List ℕ) (lines : List Import) (targets : List ℕ)
    → option_and_then (slice_get targets) (position (bytes_eq qualifier) (map qualifier_of lines)) ≡ target_called qualifier lines targets
called_by_number qualifier [] targets = refl
called_by_number qualifier (line ∷ lines) [] = at (position (bytes_eq qualifier) (map qualifier_of (line ∷ lines)))
  where
    at : (number : Option ℕ) → option_and_then {U = ℕ} (slice_get []) number ≡ None
    at None = refl
    at (Some k) = refl
called_by_number qualifier (line ∷ lines) (target ∷ targets) =
    ap (λ (number : Option ℕ). option_and_then (slice_get (target ∷ targets)) number) (position_next (bytes_eq qualifier) (qualifier_of line) (map qualifier_of lines))
    ∙ by (bytes_eq qualifier (qualifier_of line)) (position (bytes_eq qualifier) (map qualifier_of lines)) (called_by_number qualifier lines targets)
  where
    by : (b : Bool) (number : Option ℕ) → option_and_then (slice_get targets) number ≡ target_called qualifier lines targets
        → option_and_then (slice_get (target ∷ targets)) (cond b (Some 0) (option_map suc number)) ≡ cond b (Some target) (target_called qualifier lines targets)
    by true number h = refl
    by false None h = h
    by false (Some k) h = h

-- what is called so, where the number of its line is known
abbrev At : List ℕ → Option ℕ → Option ℕ
At targets number = option_and_then (slice_get targets) number

at_number : (qualifier : List ℕ) (lines : List Import) (targets : List ℕ) (names : List (List ℕ)) (number : Option ℕ)
    → names ≡ map qualifier_of lines → position (bytes_eq qualifier) names ≡ number → At targets number ≡ target_called qualifier lines targets
at_number qualifier lines targets names number known at =
    ap (At targets) (sym at ∙ ap (position (bytes_eq qualifier)) known) ∙ called_by_number qualifier lines targets

pub called : (qualifier : List ℕ) (lines : List Import) (targets : List ℕ) (names : List (List ℕ)) (number target : ℕ)
    → names ≡ map qualifier_of lines → position (bytes_eq qualifier) names ≡ Some number → slice_get targets number ≡ Some target
    → Some target ≡ target_called qualifier lines targets
called qualifier lines targets names number target known at there = sym there ∙ at_number qualifier lines targets names (Some number) known at

pub called_none : (qualifier : List ℕ) (lines : List Import) (targets : List ℕ) (names : List (List ℕ))
    → names ≡ map qualifier_of lines → position (bytes_eq qualifier) names ≡ None → None ≡ target_called qualifier lines targets
called_none qualifier lines targets names known at = at_number qualifier lines targets names None known at

pub called_past : (qualifier : List ℕ) (lines : List Import) (targets : List ℕ) (names : List (List ℕ)) (number : ℕ)
    → names ≡ map qualifier_of lines → position (bytes_eq qualifier) names ≡ Some number → slice_get targets number ≡ None
    → None ≡ target_called qualifier lines targets
called_past qualifier lines targets names number known at past = sym past ∙ at_number qualifier lines targets names (Some number) known at
