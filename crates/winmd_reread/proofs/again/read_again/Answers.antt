use Rattle.winmd_strict.specs.Reading.{TypesOf}
use Rattle.winmd_reread.proofs.SameTypes.{same_types}
use Rattle.winmd_reread.proofs.again.read_again.Goals as goal

pub returns-in-Ok : goal.returns-in-Ok
returns-in-Ok c = same_types (TypesOf c.args.image.now) c.in-Ok.read c.args.types.now c.in-Ok.ensures c.requires
