-- The folder of a path is cut at its last slash.
use Rattle.std.proofs.Common.{◌≡◌, ℕ, suc, ◌<◌, List, [], ◌∷◌, ◌++◌, length, get_or, true, false, eqb, take, drop, refl, sym, ap, ◌∙◌, arith, if◌then◌else◌}
use Rattle.std.specs.Prelude.{◌≢◌, ◌==◌}
use Rattle.std.specs.List.{list_any}
use Rattle.std.specs.Str.{NoCharPasses}
use Rattle.std.proofs.lemmas.Bool.{or_right}
use Rattle.std.proofs.lemmas.Bool.Decides.{nat_tests}
use Rattle.std.proofs.lemmas.Str.Pattern.{NoCharPasses-char, drop_at_char}
use Rattle.std.proofs.lemmas.List.{take-append-drop}
use Rattle.std.specs.Str.Pattern.{HasCharAt}
use Rattle.uvl_imports.specs.Paths.{folder_of}

none : (bs : List ℕ) → ((k : ℕ) → k < length bs → get_or bs k 0 ≢ 47) → list_any (λ b. b == 47) bs ≡ false
none [] out = refl
none (b ∷ bs) out =
    let head : eqb b 47 ≡ false = grind (arith, nat_tests, out 0 (omega arith)) in
    rw (head, none bs (λ k l e. out (suc k) (omega (arith, l)) e)) refl

no_folder : (bs : List ℕ) → list_any (λ b. b == 47) bs ≡ false → folder_of bs ≡ []
no_folder [] e = refl
no_folder (b ∷ bs) e = ap (λ t. if t then b ∷ folder_of bs else []) e

slash_in : (front back : List ℕ) → list_any (λ b. b == 47) (front ++ 47 ∷ back) ≡ true
slash_in [] back = refl
slash_in (b ∷ front) back = or_right (eqb b 47) _ (slash_in front back)

cut : (front back : List ℕ) → list_any (λ b. b == 47) back ≡ false → folder_of (front ++ 47 ∷ back) ≡ front ++ 47 ∷ []
cut [] back e = ap (λ bs. 47 ∷ bs) (no_folder back e)
cut (b ∷ front) back e = ap (λ t. if t then b ∷ folder_of (front ++ 47 ∷ back) else []) (slash_in (b ∷ front) back) ∙ ap (λ bs. b ∷ bs) (cut front back e)

pub folder_at : (bs : List ℕ) (i j : ℕ) → NoCharPasses (λ d. d == 47) (drop j bs) → HasCharAt 47 bs i j → take i bs ++ 47 ∷ [] ≡ folder_of bs
folder_at bs i j behind at =
    let tail = none (drop j bs) (λ k l. NoCharPasses-char 47 (drop j bs) k behind (omega arith) l) in
    let whole : take i bs ++ 47 ∷ drop j bs ≡ bs = ap (λ l. take i bs ++ l) (sym (drop_at_char 47 bs i j at (omega arith))) ∙ take-append-drop i bs in
    sym (cut (take i bs) (drop j bs) tail) ∙ ap folder_of whole

pub folder_without : (bs : List ℕ) → NoCharPasses (λ d. d == 47) bs → [] ≡ folder_of bs
folder_without bs out = sym (no_folder bs (none bs (λ k l. NoCharPasses-char 47 bs k out (omega arith) l)))
