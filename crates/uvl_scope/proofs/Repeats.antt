-- The keys of attributes, one after another.
use Rattle.std.proofs.Common.{◌≡◌, ℕ, List, map, Option}
use Rattle.uvl_ast.specs.declared.feature.Attribute.{Attribute}
use Rattle.uvl_scope.specs.Firsts.{first_along}
use Rattle.uvl_scope.specs.Keys.{keyed, repeated_at, repeated_key}
use Rattle.uvl_scope.specs.steps.Keys.{IsKept, keys_of}

-- the keys in front are in the index, where there is one, and no repetition is met among them
pub record KeysGoOn (all front rest : List Attribute) (index : Option (List (List ℕ))) : Type 0 where
  pub known : IsKept index (keys_of front)
  pub left : first_along repeated_at (map keyed front) (map keyed rest) ≡ repeated_key all
