-- What holds of a set of files while it grows.
use Rattle.std.specs.Prelude.{◌≡◌, ℕ, ◌≤◌, ◌+◌, true, false, List, length}
use Rattle.uvl_imports.specs.declared.set_builder.SetBuilder.{SetBuilder}
use Rattle.uvl_imports.specs.Limits.{most_files, most_set_bytes}
use Rattle.uvl_imports.specs.Sets.{AreWholeFiles}
use Rattle.uvl_imports.specs.Texts.{has, AreDistinct}
use Rattle.uvl_imports.specs.Walking.{Met, paths_of}

-- what was met so far
abbrev pub met_of : SetBuilder → Met
met_of set = record { loaded = set.files; way = set.way; bytes = set.bytes }

-- The index has the paths of the files. The files that are loaded and those that are being loaded are no more than the
-- limit, have no more bytes than the limit, and stand at different paths. Each that is loaded is whole.
pub record IsSound (set : SetBuilder) : Type 0 where
  pub indexed : set.index ≡ paths_of set.files
  pub few : length set.files + length set.way ≤ most_files
  pub light : set.bytes ≤ most_set_bytes
  pub apart : (path : List ℕ) → has set.way path ≡ true → has (paths_of set.files) path ≡ false
  pub way_distinct : AreDistinct set.way
  pub files_distinct : AreDistinct (paths_of set.files)
  pub whole : AreWholeFiles set.files
