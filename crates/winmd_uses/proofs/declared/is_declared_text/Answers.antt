use Rattle.std.proofs.Common.{ap, map, ◌∙◌}
use Rattle.wr_base.specs.Declarations.{name_of}
use Rattle.winmd_lines.specs.Names.{is_outside}
use Rattle.winmd_uses.proofs.OrderLaws.{declared_at, declared_none, found_name}
use Rattle.winmd_uses.proofs.declared.is_declared_text.Goals as goal

pub returns-in-Some : goal.returns-in-Some
returns-in-Some c =
    declared_at c.args.name.now (map name_of c.args.types.now) c.in-Some.place c.is_outside.result c.in-Some.ensures.found
    (c.is_outside.ensures ∙ ap is_outside (c.name.ensures ∙ found_name c.args.types.now c.in-Some.place c.at.result.now c.args.name.now c.at.ensures.value c.in-Some.ensures.found))

pub returns-in-None : goal.returns-in-None
returns-in-None c = declared_none c.args.name.now (map name_of c.args.types.now) c.in-None.ensures.absent
