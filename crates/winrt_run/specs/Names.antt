-- Which failures of the system say that a name isn't that of a file.
use Rattle.std.specs.Prelude.{Bool, true, false}
use Rattle.std.specs.declared.io.ErrorKind.{ErrorKind}
use Rattle.std.specs.declared.io.ErrorKind.TheVariants.{NotFound, NotADirectory, InvalidFilename, InvalidInput}

-- nothing has the name; it leads through what is no folder; it is too long; it has a byte 0
abbrev pub is_no_name : ErrorKind → Bool
is_no_name NotFound = true
is_no_name NotADirectory = true
is_no_name InvalidFilename = true
is_no_name InvalidInput = true
is_no_name kind = false
