-- The keys of a list of attributes, as they are looked up: in an index, where there is one.
use Rattle.std.specs.Prelude.{◌≡◌, ⊤, ℕ, List, map, Option, Some, None}
use Rattle.uvl_ast.specs.declared.feature.Attribute.{Attribute}
use Rattle.uvl_scope.specs.Keys.{keyed}

-- the keys of attributes
abbrev pub keys_of : List Attribute → List (List ℕ)
keys_of attributes = map (λ attribute. attribute.key) (map keyed attributes)

-- an index has these keys, where there is one
abbrev pub IsKept : Option (List (List ℕ)) → List (List ℕ) → Type 0
IsKept None keys = ⊤
IsKept (Some index) keys = index ≡ keys
