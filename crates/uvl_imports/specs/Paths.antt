-- Which file a line of imports names, and by which qualifier. This project's own.
use Rattle.std.specs.Prelude.{ℕ, Bool, ◌||◌, ◌==◌, List, [], ◌∷◌, ◌++◌, Option, Some, None, encode_utf8_all, if◌then◌else◌}
use Rattle.std.specs.List.{list_any}
use Rattle.std.specs.Str.{bytes_eq}
use Rattle.uvl_ast.specs.declared.file.Import.{Import}
use Rattle.uvl_ast.specs.declared.names.Ref.{Ref}
use Rattle.uvl_imports.specs.Texts.{has}

-- the folder of a path is its text up to and with the last `/` (47)
abbrev pub folder_of : List ℕ → List ℕ
folder_of [] = []
folder_of (byte ∷ bytes) = if list_any (λ b. b == 47) (byte ∷ bytes) then byte ∷ folder_of bytes else []

-- the bytes of names, each with a mark in front
abbrev pub each_behind : List ℕ → List (List ℕ) → List ℕ
each_behind mark [] = []
each_behind mark (name ∷ names) = mark ++ encode_utf8_all name ++ each_behind mark names

-- the bytes of names that a mark joins
abbrev pub joined : List ℕ → List (List ℕ) → List ℕ
joined mark [] = []
joined mark (name ∷ names) = encode_utf8_all name ++ each_behind mark names

-- the ending of a file's name, `.uvl`
abbrev pub ending : List ℕ
ending = 46 ∷ 117 ∷ 118 ∷ 108 ∷ []

-- `a.b.c` in the file at a path names `a/b/c.uvl` in that file's folder
abbrev pub target_of : List ℕ → Import → List ℕ
target_of path line = folder_of path ++ joined (47 ∷ []) line.path.parts ++ ending

-- the parts of a reference, joined by dots (46)
abbrev pub dotted : Ref → List ℕ
dotted reference = joined (46 ∷ []) reference.parts

-- what a line calls the file: what stands behind `as`, or else the whole path
abbrev pub name_behind_as : Ref → Option Ref → List ℕ
name_behind_as path None = dotted path
name_behind_as path (Some alias) = dotted alias

abbrev pub qualifier_of : Import → List ℕ
qualifier_of line = name_behind_as line.path line.alias

-- a part of a path that leads elsewhere than into a folder or to a file of that name: `.`, `..`, or one with `/` or NUL
abbrev pub is_bad_text : List ℕ → Bool
is_bad_text text =
    bytes_eq text (46 ∷ []) || bytes_eq text (46 ∷ 46 ∷ []) || list_any (λ byte. byte == 47 || byte == 0) text

abbrev pub is_bad_part : List ℕ → Bool
is_bad_part part = is_bad_text (encode_utf8_all part)

-- A line whose path or qualifier cannot be used: a part of the path is bad, or the qualifier stands at an earlier line.
abbrev pub has_bad_name : List (List ℕ) → Import → Bool
has_bad_name earlier line = list_any is_bad_part line.path.parts || has earlier (qualifier_of line)
