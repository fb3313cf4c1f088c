use Rattle.std.proofs.Common.{rules}
use Rattle.winmd_classes.proofs.PartLaws.{interface_by_parts}
use Rattle.winmd_classes.proofs.interfaces.interface_from.Goals as goal

pub returns-in_err-parts : goal.returns-in_err-parts
returns-in_err-parts c = rw interface_by_parts (search rules)
