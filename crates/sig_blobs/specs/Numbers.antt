-- The number of each type name, as a writer knows it.
use Rattle.std.specs.HashMap.{get_by_text}
use Rattle.std.specs.Option.{unwrap_or}
use Rattle.sig_blobs.specs.declared.tokens.Tokens.{Tokens}
use Rattle.sig_blobs.specs.Writing.{Numbers}

-- the number that was added last for this name, or that of all others
abbrev pub number_in : Tokens → Numbers
number_in tokens name = unwrap_or (get_by_text tokens.numbers name) tokens.other
