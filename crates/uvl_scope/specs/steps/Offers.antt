-- What the import lines of a file offer, as it is looked up.
use Rattle.std.specs.Prelude.{◌≡◌, ℕ, List, [], ◌∷◌, None}
use Rattle.uvl_ast.specs.declared.file.Import.{Import}
use Rattle.uvl_placing.specs.Names.{dotted, front_of, last_of, target_called}
use Rattle.uvl_scope.specs.declared.imports.Imports.{Imports}
use Rattle.uvl_scope.specs.declared.scope.Scope.{Scope}
use Rattle.uvl_scope.specs.Brought.{Placing, scope_at, with_root}
use Rattle.uvl_scope.specs.Firsts.{beside}

-- a qualifier calls the same file as it does by the lines
abbrev pub Calls : Imports → List Import → List ℕ → Type 0
Calls imports lines targets =
    (qualifier : List ℕ) →
    beside qualifier imports.qualifiers imports.targets ≡ target_called qualifier lines targets

-- the scope that a reference places
abbrev pub placed_by : List Scope → Imports → Placing
placed_by scopes imports [] = None
placed_by scopes imports (part ∷ parts) =
    with_root (last_of (part ∷ parts))
    (scope_at scopes
    (beside (dotted (front_of (part ∷ parts))) imports.qualifiers imports.targets))
