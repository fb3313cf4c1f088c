use Rattle.std.proofs.Common.{map}
use Rattle.wr_base.specs.Declarations.{name_of}
use Rattle.winmd_uses.proofs.OrderLaws.{declared_at, declared_none, none_has}
use Rattle.winmd_uses.proofs.declared.is_declared.Goals as goal

pub returns-in-Some : goal.returns-in-Some
returns-in-Some c = declared_at c.args.name.now (map name_of c.args.types.now) c.in-Some.field-0 c.is_outside.result c.in-Some.ensures.found c.is_outside.ensures

pub returns-in-None : goal.returns-in-None
returns-in-None c = declared_none c.args.name.now (map name_of c.args.types.now) (none_has c.args.name.now c.args.types.now c.in-None.ensures.none)
