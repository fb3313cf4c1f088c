use Rattle.winmd_classes.proofs.SetLaws.{class_tree}
use Rattle.winmd_classes.proofs.classes.class_with.Goals as goal

pub returns : goal.returns
returns c = rw (c.from_vec.ensures, c.from_vec-2.ensures, c.from_vec-3.ensures) (class_tree c.args.name c.args.version c.args.fixed c.args.has.default c.args.has.types.items c.args.ways.direct c.args.ways.factories.items c.args.ways.statics.items)
