-- The session with a name, by its place.
use Rattle.std.proofs.Common.{◌≡◌, ◌+◌, ◌<◌, ◌≤◌, ℕ, zero, suc, Bool, true, false, cond, List, [], ◌∷◌, length, get_or, nat_lt, Some, None, refl, sym, ap, ◌∙◌, subst, arith}
use Rattle.std.specs.Prelude.{if◌then◌else◌}
use Rattle.std.specs.List.{position, position_or_len}
use Rattle.std.proofs.lemmas.Bool.Decides.{nat_tests}
use Rattle.std.proofs.lemmas.List.Quantifiers.{position-Some}
use Rattle.std.proofs.lemmas.List.Recursion.{is_position_or_len}
use Rattle.uvl_session.specs.declared.sessions.OpenSession.{OpenSession}
use Rattle.uvl_session.specs.Sessions.{find_session, is_named}

-- the first that has the name
pub found_first : (list : List OpenSession) (name : List ℕ) (i : ℕ) (d : OpenSession) → i < length list → is_named name (get_or list i d) ≡ true
    → ((k : ℕ) → k < i → is_named name (get_or list k d) ≡ false) → find_session list name ≡ Some (get_or list i d)
found_first [] name i d within here none = absurd (omega arith)
found_first (it ∷ rest) name zero d within here none = ap (λ b. if b then Some it else find_session rest name) here
found_first (it ∷ rest) name (suc i) d within here none =
    ap (λ b. if b then Some it else find_session rest name) (none 0 (omega arith))
    ∙ found_first rest name i d (omega arith) here (λ k less. none (suc k) (omega arith))

-- how many stand in front of it
abbrev place : List ℕ → List OpenSession → ℕ
place name [] = 0
place name (it ∷ rest) = cond (is_named name it) 0 (1 + place name rest)

nowhere : (name : List ℕ) (list : List OpenSession) → length list ≤ place name list → find_session list name ≡ None
nowhere name [] behind = refl
nowhere name (it ∷ rest) behind = by (nowhere name rest) (is_named name it) behind
  where
    by : (length rest ≤ place name rest → find_session rest name ≡ None) → (b : Bool) → suc (length rest) ≤ cond b 0 (1 + place name rest) → (if b then Some it else find_session rest name) ≡ None
    by others true far = absurd (omega arith)
    by others false far = others (omega arith)

not-below : (m n : ℕ) → nat_lt m n ≡ false → n ≤ m
not-below m n not = grind (arith, nat_tests)

-- where a search finds none there is none
pub found_nowhere : (list : List OpenSession) (name : List ℕ) → position (is_named name) list ≡ None → find_session list name ≡ None
found_nowhere list name none = by (nat_lt (position_or_len (is_named name) list) (length list)) refl none
  where
    same : place name list ≡ position_or_len (is_named name) list
    same = is_position_or_len (place name) (is_named name) refl (λ it rest. refl) list

    by : (b : Bool) → nat_lt (position_or_len (is_named name) list) (length list) ≡ b → cond b (Some (position_or_len (is_named name) list)) None ≡ None → find_session list name ≡ None
    by true e none' = absurd (cc)
    by false e none' = nowhere name list (subst (λ (n : ℕ). length list ≤ n) (sym same) (not-below _ _ e))

-- and else the one at its place
pub found_at : (list : List OpenSession) (name : List ℕ) (i : ℕ) (d : OpenSession) → position (is_named name) list ≡ Some i → find_session list name ≡ Some (get_or list i d)
found_at list name i d at = let p = position-Some (is_named name) list i d at in found_first list name i d p.0 p.1 p.2

-- where one has the name there is one
pub first_of : (list : List OpenSession) (name : List ℕ) (i : ℕ) → position (is_named name) list ≡ Some i → OpenSession
first_of [] name i at = absurd (cc)
first_of (it ∷ rest) name i at = it
