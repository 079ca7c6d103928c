-- The parts of a reference where a number is needed.
use Rattle.std.proofs.Common.{◌≡◌, ℕ, List, [], ◌∷◌, ◌++◌, Some, refl, ap, ◌∙◌}
use Rattle.uvl_base.specs.declared.fault.FaultKind.TheVariants.{UnknownFeature}
use Rattle.uvl_base.specs.declared.place.Place.{Place}
use Rattle.uvl_ast.specs.declared.feature.Attribute.{Attribute}
use Rattle.uvl_placing.specs.Names.{dotted, front_of, last_of}
use Rattle.uvl_scope.specs.Firsts.{beside}
use Rattle.uvl_scope.specs.LineFaults.{finding}
use Rattle.uvl_scope.specs.NumberFaults.{fault_of_attribute, fault_of_number, fault_of_single}
use Rattle.uvl_scope.proofs.PlacedParts.{front_is, last_is}

module _ (names : List (List ℕ)) (attributes : List (List Attribute)) (place : Place) where
  -- no part, one, and more
  pub number_nothing : (parts : List (List ℕ)) → parts ≡ [] → fault_of_number names attributes parts place ≡ Some (finding UnknownFeature place)
  number_nothing parts is = ap (λ (ps : List (List ℕ)). fault_of_number names attributes ps place) is

  pub number_single : (parts front : List (List ℕ)) (key : List ℕ) → parts ≡ front ++ key ∷ [] → front ≡ []
      → fault_of_number names attributes parts place ≡ Some (fault_of_single names key place)
  number_single parts front key is none =
      ap (λ (ps : List (List ℕ)). fault_of_number names attributes ps place) (is ∙ ap (λ (f : List (List ℕ)). f ++ key ∷ []) none)

  pub number_more : (parts front : List (List ℕ)) (key : List ℕ) → parts ≡ front ++ key ∷ [] → (front ≡ [] → ⊥)
      → fault_of_number names attributes parts place ≡ fault_of_attribute (beside (dotted front) names attributes) key place
  number_more parts front key is some = ap (λ (ps : List (List ℕ)). fault_of_number names attributes ps place) is ∙ by front some
    where
      whole : (first : List ℕ) (rest : List (List ℕ))
          → fault_of_number names attributes (first ∷ rest ++ key ∷ []) place
          ≡ fault_of_attribute (beside (dotted (front_of (first ∷ rest ++ key ∷ []))) names attributes) (last_of (first ∷ rest ++ key ∷ [])) place
      whole first [] = refl
      whole first (next ∷ rest) = refl

      by : (front : List (List ℕ)) → (front ≡ [] → ⊥)
          → fault_of_number names attributes (front ++ key ∷ []) place ≡ fault_of_attribute (beside (dotted front) names attributes) key place
      by [] some = absurd (some refl)
      by (first ∷ rest) some =
          whole first rest
          ∙ ap (λ (f : List (List ℕ)). fault_of_attribute (beside (dotted f) names attributes) (last_of (first ∷ rest ++ key ∷ [])) place) (front_is (first ∷ rest) key)
          ∙ ap (λ (k : List ℕ). fault_of_attribute (beside (dotted (first ∷ rest)) names attributes) k place) (last_is (first ∷ rest) key)
