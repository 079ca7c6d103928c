-- The parts of a reference that places a file.
use Rattle.std.proofs.Common.{◌≡◌, ℕ, ◌-◌, List, [], ◌∷◌, ◌++◌, length, take, Option, refl, sym, ap, ◌∙◌, arith}
use Rattle.std.proofs.lemmas.List.{length-append}
use Rattle.uvl_placing.specs.Names.{dotted, front_of, last_of}
use Rattle.uvl_scope.specs.Firsts.{beside}
use Rattle.uvl_scope.specs.declared.imports.Imports.{Imports}
use Rattle.uvl_scope.specs.declared.scope.Scope.{Scope}
use Rattle.uvl_scope.specs.Brought.{scope_at, with_root}
use Rattle.uvl_scope.specs.steps.Offers.{placed_by}

take_front : (front rest : List (List ℕ)) → take (length front) (front ++ rest) ≡ front
take_front [] rest = refl
take_front (x ∷ front) rest = ap (λ (xs : List (List ℕ)). x ∷ xs) (take_front front rest)

pub front_is : (front : List (List ℕ)) (root : List ℕ) → front_of (front ++ root ∷ []) ≡ front
front_is front root =
    let e : length (front ++ root ∷ []) - 1 ≡ length front = omega (arith, length-append front (root ∷ [])) in
    ap (λ (n : ℕ). take n (front ++ root ∷ [])) e ∙ take_front front (root ∷ [])

pub last_is : (front : List (List ℕ)) (root : List ℕ) → last_of (front ++ root ∷ []) ≡ root
last_is [] root = refl
last_is (x ∷ []) root = refl
last_is (x ∷ y ∷ front) root = last_is (y ∷ front) root

abbrev meant : List Scope → Imports → List ℕ → List ℕ → Option Scope
meant scopes imports root qualifier = with_root root (scope_at scopes (beside qualifier imports.qualifiers imports.targets))

placed_of_parts : (scopes : List Scope) (imports : Imports) (front : List (List ℕ)) (root : List ℕ)
    → placed_by scopes imports (front ++ root ∷ []) ≡ meant scopes imports (last_of (front ++ root ∷ [])) (dotted (front_of (front ++ root ∷ [])))
placed_of_parts scopes imports [] root = refl
placed_of_parts scopes imports (x ∷ front) root = refl

pub qualifier_at : (parts front : List (List ℕ)) (root qualifier : List ℕ) → parts ≡ front ++ root ∷ [] → qualifier ≡ dotted front
    → dotted (front_of parts) ≡ qualifier
qualifier_at parts front root qualifier is called = ap (λ (ps : List (List ℕ)). dotted (front_of ps)) is ∙ ap dotted (front_is front root) ∙ sym called

pub found_at : (scopes : List Scope) (imports : Imports) (parts front : List (List ℕ)) (root qualifier : List ℕ) (found : Option Scope) → parts ≡ front ++ root ∷ []
    → qualifier ≡ dotted front → found ≡ meant scopes imports root qualifier → placed_by scopes imports parts ≡ found
found_at scopes imports parts front root qualifier found is called h =
    ap (placed_by scopes imports) is ∙ placed_of_parts scopes imports front root
    ∙ ap (λ (r : List ℕ). meant scopes imports r (dotted (front_of (front ++ root ∷ [])))) (last_is front root)
    ∙ ap (meant scopes imports root) (ap dotted (front_is front root) ∙ sym called) ∙ sym h
