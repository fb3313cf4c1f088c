-- Names of no set.
use Rattle.std.specs.Prelude.{[]}
use Rattle.winmd_lines.specs.Names.{Names}

-- for lines whose cells refer to rows by their numbers alone
abbrev pub nothing : Names
nothing = record { types = []; refs = []; specs = []; makers = [] }
