-- The fault of a line that is to place a file.
use Rattle.std.proofs.Common.{◌≡◌, ℕ, Bool, true, false, List, [], ◌∷◌, length, Option, Some, None, refl, sym, ap, ◌∙◌, arith, not, ◌==◌, suc, ◌+◌, slice_get}
use Rattle.std.specs.Prelude.{◌||◌, ◌&&◌}
use Rattle.std.specs.Option.{option_map, is_none}
use borrow.Author.Tests.{ne_eqb}
use Rattle.std.proofs.lemmas.Bool.{false≢true}
use Rattle.uvl_base.specs.declared.place.Place.{Place}
use Rattle.uvl_base.specs.declared.fault.FaultKind.TheVariants.{UnknownFeature, PlacedTwice, BodyOnPlacedImport, TooDeep, DuplicateFeature, DuplicateAttribute, TooManyFeatures, TooManyRules}
use Rattle.uvl_ast.specs.declared.feature.Attribute.{Attribute}
use Rattle.uvl_semantics.specs.Product.{has}
use Rattle.uvl_placing.specs.Names.{dotted, front_of}
use Rattle.uvl_scope.specs.declared.scope.Scope.{Scope}
use Rattle.uvl_scope.specs.Brought.{Brought, Placing, is_placing, brought_at, placed}
use Rattle.uvl_scope.specs.Firsts.{when, first_of}
use Rattle.uvl_scope.specs.Keys.{repeated_key}
use Rattle.uvl_scope.specs.LineFaults.{Finding, finding, has_more, is_too_deep, has_known_name, is_too_large, are_too_many, fault_behind}
use Rattle.uvl_scope.specs.Lines.{FeatureLine, of_feature}
use Rattle.uvl_scope.specs.steps.Lines.{fault_of_found, fault_of_placing}

-- a reference that isn't one part is to place a file
pub not_one : (parts : List (List ℕ)) → (length parts ≡ 1 → ⊥) → is_placing parts ≡ true
not_one [] h = refl
not_one (x ∷ []) h = absurd (h refl)
not_one (x ∷ y ∷ parts) h = refl

-- a line without more has no key
no_key : (attributes : List Attribute) (rules groups : Bool) → (not (length attributes == 0) || rules || groups) ≡ false → repeated_key attributes ≡ None
no_key [] rules groups h = refl
no_key (a ∷ attributes) rules groups h =
    let some : (suc (length attributes) == 0) ≡ false = ne_eqb (suc (length attributes)) 0 (λ e. absurd (omega (arith, e))) in
    absurd (false≢true (sym h ∙ ap (λ (b : Bool). not b || rules || groups) some))

-- the one part of a reference
pub one_part : (parts : List (List ℕ)) (name : List ℕ) → length parts ≡ 1 → Some name ≡ slice_get parts 0 → parts ≡ name ∷ []
one_part [] name one h = absurd (omega (arith, one))
one_part (x ∷ []) name one h = let same : name ≡ x = (cc h) in ap (λ (n : List ℕ). n ∷ []) (sym same)
one_part (x ∷ y ∷ parts) name one h = absurd (omega (arith, one))

pub none_first : (parts : List (List ℕ)) → None ≡ slice_get parts 0 → is_placing parts ≡ true
none_first [] h = refl
none_first (x ∷ parts) h = (cc h)

-- so the key changes nothing
skip_key : (twice more deep known large many : Bool) (key : Option Place) (place : Place) → (more ≡ false → key ≡ None)
    → first_of (when twice (finding PlacedTwice place) ∷ when more (finding BodyOnPlacedImport place) ∷ when deep (finding TooDeep place)
    ∷ when known (finding DuplicateFeature place) ∷ option_map (finding DuplicateAttribute) key ∷ when large (finding TooManyFeatures place)
    ∷ when many (finding TooManyRules place) ∷ [])
    ≡ first_of (when twice (finding PlacedTwice place) ∷ when more (finding BodyOnPlacedImport place) ∷ when deep (finding TooDeep place)
    ∷ when known (finding DuplicateFeature place) ∷ when large (finding TooManyFeatures place) ∷ when many (finding TooManyRules place) ∷ [])
skip_key twice true deep known large many key place h = refl
skip_key twice false deep known large many key place h =
    ap (λ (k : Option Place). first_of (when twice (finding PlacedTwice place) ∷ when false (finding BodyOnPlacedImport place) ∷ when deep (finding TooDeep place)
    ∷ when known (finding DuplicateFeature place) ∷ option_map (finding DuplicateAttribute) k ∷ when large (finding TooManyFeatures place)
    ∷ when many (finding TooManyRules place) ∷ []))
    (h refl)

-- the faults of a placing line, where this is found
abbrev with_found : Brought → FeatureLine → List ℕ → Option Scope → Option Finding
with_found before line qualifier found = first_of (
    when (is_none found) (finding UnknownFeature line.reference.place)
    ∷ when (has before.placed qualifier) (finding PlacedTwice line.reference.place)
    ∷ when (has_more line) (finding BodyOnPlacedImport line.reference.place)
    ∷ when (is_too_deep (placed line.depth qualifier found) line) (finding TooDeep line.reference.place)
    ∷ when (has_known_name before (placed line.depth qualifier found)) (finding DuplicateFeature line.reference.place)
    ∷ option_map (finding DuplicateAttribute) (repeated_key line.attributes)
    ∷ when (is_too_large before (placed line.depth qualifier found)) (finding TooManyFeatures line.reference.place)
    ∷ when (are_too_many (before.rules + (placed line.depth qualifier found).rules) (before.nodes + (placed line.depth qualifier found).nodes)) (finding TooManyRules line.reference.place)
    ∷ []
    )

found_is : (before : Brought) (line : FeatureLine) (qualifier : List ℕ) (found : Option Scope) → with_found before line qualifier found ≡ fault_of_found before qualifier found line
found_is before line qualifier None = refl
found_is before line qualifier (Some scope) =
    skip_key (has before.placed qualifier) (has_more line) (is_too_deep (placed line.depth qualifier (Some scope)) line)
    (has_known_name before (placed line.depth qualifier (Some scope))) (is_too_large before (placed line.depth qualifier (Some scope)))
    (are_too_many (before.rules + (placed line.depth qualifier (Some scope)).rules) (before.nodes + (placed line.depth qualifier (Some scope)).nodes))
    (repeated_key line.attributes) line.reference.place (λ h. no_key line.attributes (not (length line.rules == 0)) (not (line.groups == 0)) h)

-- the faults of a line, where its reference has these parts
abbrev with_parts : Placing → Brought → FeatureLine → List (List ℕ) → Option Finding
with_parts placing before line parts = first_of (
    when (is_placing parts && is_none (placing parts)) (finding UnknownFeature line.reference.place)
    ∷ when (is_placing parts && has before.placed (dotted (front_of parts))) (finding PlacedTwice line.reference.place)
    ∷ when (is_placing parts && has_more line) (finding BodyOnPlacedImport line.reference.place)
    ∷ when (is_too_deep (brought_at placing line.depth line.attributes parts) line) (finding TooDeep line.reference.place)
    ∷ when (has_known_name before (brought_at placing line.depth line.attributes parts)) (finding DuplicateFeature line.reference.place)
    ∷ option_map (finding DuplicateAttribute) (repeated_key line.attributes)
    ∷ when (is_too_large before (brought_at placing line.depth line.attributes parts)) (finding TooManyFeatures line.reference.place)
    ∷ when (is_placing parts && are_too_many (before.rules + (brought_at placing line.depth line.attributes parts).rules) (before.nodes + (brought_at placing line.depth line.attributes parts).nodes)) (finding TooManyRules line.reference.place)
    ∷ []
    )

parts_are : (placing : Placing) (before : Brought) (line : FeatureLine) (parts : List (List ℕ)) → is_placing parts ≡ true
    → with_parts placing before line parts ≡ with_found before line (dotted (front_of parts)) (placing parts)
parts_are placing before line [] h = refl
parts_are placing before line (x ∷ []) h = absurd (false≢true h)
parts_are placing before line (x ∷ y ∷ parts) h = refl

-- a line that is to place a file has the faults of one
pub placing_fault : (placing : Placing) (before : Brought) (line : FeatureLine) → is_placing line.reference.parts ≡ true
    → fault_behind placing before (of_feature line) ≡ fault_of_placing placing before line
placing_fault placing before line h =
    parts_are placing before line line.reference.parts h
    ∙ found_is before line (dotted (front_of line.reference.parts)) (placing line.reference.parts)
