-- What can be seen of a store of files in memory.
use Rattle.std.specs.Prelude.{option_map}
use Rattle.std.specs.BTreeMap.{get_by_text}
use Rattle.uvl_outside.specs.declared.sure_files.SureFiles.{SureFiles}
use Rattle.uvl_outside.specs.Files.{Contents}

-- the bytes at each path
abbrev pub contents : SureFiles → Contents
contents store path = option_map (λ bytes. bytes.items) (get_by_text store.files path)
