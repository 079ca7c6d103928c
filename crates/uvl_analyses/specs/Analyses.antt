-- The analyses of a feature model, over the family of its products (Benavides, Segura and Ruiz-Cortés 2010).
use Rattle.std.specs.Prelude.{ℕ, Bool, not, ◌&&◌, List, filter}
use Rattle.uvl_semantics.specs.Family.{Family, some_set}
use Rattle.uvl_semantics.specs.Product.{has}

-- no product has the feature
abbrev pub is_dead : Family → List ℕ → Bool
is_dead family name = not (some_set family (λ set. has set name))

-- every product has it
abbrev pub is_core : Family → List ℕ → Bool
is_core family name = not (some_set family (λ set. not (has set name)))

-- every product that has the parent has the child
abbrev pub comes_with : Family → (parent child : List ℕ) → Bool
comes_with family parent child = not (some_set family (λ set. has set parent && not (has set child)))

-- the dead features, in document order
abbrev pub dead_of : Family → List (List ℕ)
dead_of family = filter (is_dead family) family.names

-- the core features, in document order
abbrev pub core_of : Family → List (List ℕ)
core_of family = filter (is_core family) family.names
