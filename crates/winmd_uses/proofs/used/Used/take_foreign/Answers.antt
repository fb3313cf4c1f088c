use Rattle.std.proofs.Common.{refl}
use Rattle.winmd_uses.proofs.TakeLaws.{takes_put}
use Rattle.winmd_uses.proofs.used.Used.take_foreign.Goals as goal

pub returns : goal.returns
returns c = takes_put c.take.result c.args.name.now c.args.self.now _ c.requires refl refl refl c.take.ensures
