-- What can be seen of a store of files in memory with planned faults.
use Rattle.uvl_outside.specs.declared.mem_files.MemFiles.{MemFiles}
use Rattle.uvl_outside.specs.Files.{Contents}
use Rattle.uvl_outside.specs.Plan.{Plan}
use Rattle.uvl_outside.specs.SureFiles as sure

-- the bytes at each path
abbrev pub contents : MemFiles → Contents
contents store = sure.contents store.files

-- which calls were answered, and which are to fail
abbrev pub plan : MemFiles → Plan
plan store = store.plan
