-- The names of a set, by which its rows refer.
use Rattle.winmd_lines.specs.Names.{Names}
use Rattle.winmd_names.specs.Seen.{seen}
use Rattle.set_referred.specs.declared.set_referred.SetReferred.{SetReferred}

abbrev pub names_in : SetReferred → Names
names_in r = seen r.names
