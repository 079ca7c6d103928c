-- Which errors of the host say that there is no file at a path. This project's own.
use Rattle.std.specs.Prelude.{Bool, true, false}
use Rattle.std.specs.declared.io.ErrorKind.{ErrorKind}
use Rattle.std.specs.declared.io.ErrorKind.TheVariants.{NotFound, NotADirectory, InvalidInput, InvalidFilename}

-- nothing is there, the path leads through a file, or it has a NUL or is too long
abbrev pub is_absence : ErrorKind → Bool
is_absence NotFound = true
is_absence NotADirectory = true
is_absence InvalidInput = true
is_absence InvalidFilename = true
is_absence _ = false
