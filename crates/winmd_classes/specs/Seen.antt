-- The interfaces of types and how classes are made, as the code has them.
use Rattle.std.specs.Prelude.{ℕ}
use Rattle.wr_base.specs.Trees.{UseTree, tree_of}
use Rattle.winmd_sets.specs.Classes as classes
use Rattle.winmd_classes.specs.declared.implemented.Implemented.{Implemented}
use Rattle.winmd_classes.specs.declared.makings.Making.{Making}
use Rattle.winmd_classes.specs.declared.makings.Making.TheVariants as makings

abbrev pub implemented_seen : Implemented → ℕ × UseTree
implemented_seen entry = (entry.row, tree_of entry.ty)

abbrev pub making_seen : Making → classes.Making
making_seen makings.Direct = classes.Direct
making_seen (makings.Through name) = classes.Through name
