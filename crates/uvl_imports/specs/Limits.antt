-- The limits of a set of files. They are this project's own.
use Rattle.std.specs.Prelude.{ℕ}

-- the most files of one set
abbrev pub most_files : ℕ
most_files = 256

-- how deep imports nest at most; the main file is at 0
abbrev pub most_import_depth : ℕ
most_import_depth = 16

-- the most bytes of all files of one set
abbrev pub most_set_bytes : ℕ
most_set_bytes = 16777216
