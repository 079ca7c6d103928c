-- Names that dots join, and which import line one of them means.
use Rattle.std.specs.Prelude.{ℕ, ◌-◌, List, [], ◌∷◌, ◌++◌, take, length, Option, Some, None, if◌then◌else◌}
use Rattle.std.specs.Str.{bytes_eq}
use Rattle.uvl_ast.specs.declared.file.Import.{Import}
use Rattle.uvl_ast.specs.declared.names.Ref.{Ref}

-- names, each with a dot (46) in front
abbrev pub behind_dots : List (List ℕ) → List ℕ
behind_dots [] = []
behind_dots (name ∷ names) = 46 ∷ name ++ behind_dots names

-- names that dots join
abbrev pub dotted : List (List ℕ) → List ℕ
dotted [] = []
dotted (name ∷ names) = name ++ behind_dots names

-- all names but the last
abbrev pub front_of : List (List ℕ) → List (List ℕ)
front_of names = take (length names - 1) names

-- the last name
abbrev pub last_of : List (List ℕ) → List ℕ
last_of [] = []
last_of (name ∷ []) = name
last_of (name ∷ next ∷ names) = last_of (next ∷ names)

-- what an import line calls the file that it names: what stands behind `as`, or else the whole path
abbrev pub name_behind_as : Ref → Option Ref → List ℕ
name_behind_as path None = dotted path.parts
name_behind_as path (Some alias) = dotted alias.parts

-- the qualifier of an import line
abbrev pub qualifier_of : Import → List ℕ
qualifier_of line = name_behind_as line.path line.alias

-- The position of the file that is called so: the target of the first import line with this qualifier.
abbrev pub target_called : List ℕ → List Import → List ℕ → Option ℕ
target_called qualifier [] targets = None
target_called qualifier (line ∷ lines) [] = None
target_called qualifier (line ∷ lines) (target ∷ targets) =
    if bytes_eq qualifier (qualifier_of line) then Some target else target_called qualifier lines targets
