use Rattle.winmd_classes.proofs.SetLaws.{interface_tree}
use Rattle.winmd_classes.proofs.interfaces.interface_with.Goals as goal

pub returns : goal.returns
returns c = rw (c.from_vec.ensures, c.from_vec-2.ensures) (interface_tree c.args.name c.args.version c.args.id c.args.owner c.args.parts.requires_.items c.args.parts.members.items)
