-- A count of the characters in front, one character after another.
use Rattle.std.proofs.Common.{◌≡◌, ℕ, ◌+◌, ◌<◌, ◌≤◌, Bool, true, false, cond, List, length, get_or, drop, sym, ap, ◌∙◌, arith}
use Rattle.std.specs.List.{prefix_len}
use Rattle.std.proofs.lemmas.Bool.{cond-true, cond-false}
use Rattle.std.proofs.lemmas.List.{at_drop_more, at_drop_all}

-- a character of the list, by its place
abbrev pub IsAt : List ℕ → ℕ → ℕ → Type 0
IsAt cs m c = (m < length cs) × (c ≡ get_or cs m c)

prefix_len-at : (p : ℕ → Bool) (cs : List ℕ) (m c : ℕ) → IsAt cs m c → prefix_len p (drop m cs) ≡ cond (p c) (1 + prefix_len p (drop (m + 1) cs)) 0
prefix_len-at p cs m c h = at_drop_more (prefix_len p) cs m c h.0 ∙ ap (λ x. cond (p x) (1 + prefix_len p (drop (m + 1) cs)) 0) (sym h.1)

-- the count stops at a character that fails
pub count_stops : (p : ℕ → Bool) (cs : List ℕ) (n m c total : ℕ) → n ≡ m → IsAt cs m c → p c ≡ false → n + prefix_len p (drop n cs) ≡ total → n ≡ total
count_stops p cs n m c total same h fails so_far =
    let none : prefix_len p (drop n cs) ≡ 0 = ap (λ k. prefix_len p (drop k cs)) same ∙ prefix_len-at p cs m c h ∙ cond-false (p c) _ _ fails in
    omega (arith, none)

-- the count goes on at a character that passes
pub count_goes_on : (p : ℕ → Bool) (cs : List ℕ) (n m c total : ℕ) → n ≡ m → IsAt cs m c → p c ≡ true → n + prefix_len p (drop n cs) ≡ total → n + 1 + prefix_len p (drop (n + 1) cs) ≡ total
count_goes_on p cs n m c total same h passes so_far =
    let more : prefix_len p (drop n cs) ≡ 1 + prefix_len p (drop (m + 1) cs) =
    ap (λ k. prefix_len p (drop k cs)) same ∙ prefix_len-at p cs m c h ∙ cond-true (p c) _ _ passes in
    let next : prefix_len p (drop (n + 1) cs) ≡ prefix_len p (drop (m + 1) cs) = ap (λ k. prefix_len p (drop (k + 1) cs)) same in
    omega (arith, more, next)

-- the count stops at the end
pub count_ends : (p : ℕ → Bool) (cs : List ℕ) (n total : ℕ) → length cs ≤ n → n + prefix_len p (drop n cs) ≡ total → n ≡ total
count_ends p cs n total h so_far =
    let none : prefix_len p (drop n cs) ≡ 0 = at_drop_all (prefix_len p) cs n h in
    omega (arith, none)
