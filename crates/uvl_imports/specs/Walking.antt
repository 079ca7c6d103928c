-- The order in which files are read and refused: one file, its import lines in their order, and each file that a line
-- names and that is not loaded yet. This project's own.
use Rattle.std.specs.Prelude.{ℕ, zero, suc, ◌+◌, ◌-◌, min, nat_lt, List, [], ◌∷◌, ◌++◌, length, map, Option, Some, None, Result, Ok, Err, chars, encode_utf8_all, if◌then◌else◌}
use Rattle.uvl_outside.specs.Files.{Contents}
use Rattle.uvl_base.specs.declared.fault.FaultKind.TheVariants.{Absent, TooLong, ImportCycle, ImportDepth, TooManyFiles, BadImportName}
use Rattle.uvl_base.specs.declared.fault.ModelFault.{ModelFault}
use Rattle.uvl_base.specs.declared.place.Place.{Place}
use Rattle.uvl_base.specs.Limits.{most_file_bytes}
use Rattle.uvl_ast.specs.declared.file.File.{File}
use Rattle.uvl_ast.specs.declared.file.Import.{Import}
use Rattle.uvl_imports.specs.declared.file_set.Loaded.{Loaded}
use Rattle.uvl_imports.specs.Limits.{most_files, most_set_bytes}
use Rattle.uvl_imports.specs.Paths.{target_of, qualifier_of, has_bad_name}
use Rattle.uvl_imports.specs.Reading.{Reading, says, wrong, first_place, fault_in}
use Rattle.uvl_imports.specs.Texts.{has, place_of}

-- What was met so far: the files whose loading has ended, in that order; the paths of those that are being loaded, the
-- main file first; and the bytes of all of them.
pub record Met : Type 0 where
  pub loaded : List Loaded
  pub way : List (List ℕ)
  pub bytes : ℕ

-- nothing is met yet
abbrev pub nothing : Met
nothing = record { loaded = []; way = []; bytes = 0 }

-- the paths of loaded files, as bytes
abbrev pub path_of : Loaded → List ℕ
path_of loaded = encode_utf8_all loaded.path

abbrev pub paths_of : List Loaded → List (List ℕ)
paths_of files = map path_of files

-- what follows from reading on: what was met then, and a value; or the fault at which reading ends
abbrev pub Outcome : Type 0 → Type 0
Outcome A = Result (Met × A) ModelFault

-- goes on after an outcome without fault
abbrev pub after : {A B : Type 0} → Outcome A → (Met → A → Outcome B) → Outcome B
after (Err fault) next = Err fault
after (Ok pair) next = next pair.0 pair.1

-- reads a file that is not loaded yet: its path, and what was met before; its position is what is answered
abbrev pub ReadsFile : Type 0
ReadsFile = List ℕ → Met → Outcome ℕ

-- how many bytes one more file may have
abbrev pub bytes_left : Met → ℕ
bytes_left met = min most_file_bytes (most_set_bytes - met.bytes)

-- a file that is loaded already is taken as it is; another is read, unless it would be one too many
abbrev pub find_or_read : ReadsFile → List ℕ → Place → List ℕ → Met → Option ℕ → Outcome ℕ
find_or_read deeper path place target met (Some position) = Ok (met, position)
find_or_read deeper path place target met None =
    if nat_lt (length met.loaded + length met.way) most_files then deeper target met else
    Err (fault_in path place TooManyFiles)

-- no line may stand in a file at the greatest depth
abbrev pub at_depth : Option ReadsFile → List ℕ → Place → List ℕ → Met → Outcome ℕ
at_depth None path place target met = Err (fault_in path place ImportDepth)
at_depth (Some deeper) path place target met =
    find_or_read deeper path place target met (place_of target (paths_of met.loaded))

-- one import line, with the qualifiers of the lines in front of it
abbrev pub read_line : Option ReadsFile → List ℕ → List (List ℕ) → Import → Met → Outcome ℕ
read_line deeper path earlier line met =
    if has_bad_name earlier line then Err (fault_in path line.place BadImportName) else
    (if has met.way (target_of path line) then Err (fault_in path line.place ImportCycle) else
    at_depth deeper path line.place (target_of path line) met)

-- the import lines of a file, with the qualifiers of those in front of them and the positions that these gave
abbrev pub read_lines : Option ReadsFile → List ℕ → List (List ℕ) → List Import → List ℕ → Met → Outcome (List ℕ)
read_lines deeper path earlier [] targets met = Ok (met, targets)
read_lines deeper path earlier (line ∷ lines) targets met =
    after (read_line deeper path earlier line met)
    (λ then_met target.
    read_lines deeper path (earlier ++ qualifier_of line ∷ []) lines (targets ++ target ∷ []) then_met)

-- a file is loaded when its lines are read, and stands behind those that are loaded already
abbrev pub loaded_file : List ℕ → File → List ℕ → Loaded
loaded_file path file targets = record { path = chars path; file = file; targets = targets }

abbrev pub ended : List (List ℕ) → List ℕ → File → Met → List ℕ → Outcome ℕ
ended way path file met targets =
    Ok (
      record { loaded = met.loaded ++ loaded_file path file targets ∷ []; way = way; bytes = met.bytes },
      length met.loaded,
    )

-- what is met when a file of so many bytes is begun
abbrev pub begun : List ℕ → ℕ → Met → Met
begun path count met = record { loaded = met.loaded; way = met.way ++ path ∷ []; bytes = met.bytes + count }

-- a file's bytes are a file, or there is something wrong with them
abbrev pub read_text : Option ReadsFile → List ℕ → ℕ → Met → Reading → Outcome ℕ
read_text deeper path count met (wrong place kind) = Err (fault_in path place kind)
read_text deeper path count met (says file) =
    after (read_lines deeper path [] file.imports [] (begun path count met)) (ended met.way path file)

-- what is at a path: nothing, or more bytes than may be read, or bytes
abbrev pub read_content : (List ℕ → Reading) → Option ReadsFile → List ℕ → Met → Option (List ℕ) → Outcome ℕ
read_content read deeper path met None = Err (fault_in path first_place Absent)
read_content read deeper path met (Some bytes) =
    if nat_lt (bytes_left met) (length bytes) then Err (fault_in path first_place TooLong) else
    read_text deeper path (length bytes) met (read bytes)

abbrev pub read_path : Contents → (List ℕ → Reading) → Option ReadsFile → ReadsFile
read_path contents read deeper path met = read_content read deeper path met (contents path)

-- what reads the files that the lines of a file name, below which imports may nest so deep
unfoldable pub deeper : Contents → (List ℕ → Reading) → ℕ → Option ReadsFile
deeper contents read zero = None
deeper contents read (suc depth) = Some (read_path contents read (deeper contents read depth))

-- reads a file below which imports may nest so deep
abbrev pub read_file : Contents → (List ℕ → Reading) → ℕ → ReadsFile
read_file contents read depth = read_path contents read (deeper contents read depth)
