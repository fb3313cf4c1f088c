-- What an Activatable says, by the offset of its constructor's signature.
use Rattle.std.proofs.Common.{◌≡◌, List, [], ◌∷◌, refl}
use Rattle.winmd_rows.specs.Faults.{◌>>=◌}
use Rattle.winmd_lines.specs.Cells.{Tables, bytes_in}
use Rattle.winmd_sets.specs.Attributes.{Attribute}
use Rattle.winmd_sets.specs.Blobs.{method_of}
use Rattle.winmd_sets.specs.Classes.{making_by, making_of}
use Rattle.wr_base.specs.declared.type_use.TypeUse.{TypeUse}
use Rattle.wr_base.specs.Trees.{ParamTree, text_of_tree, tree_of}
use Rattle.wr_base.specs.Uses.{text_of}
use Rattle.wr_base.proofs.TreeLaws.{text_of-tree_of}
use Rattle.winmd_classes.specs.Ways.{making_at, making_in}

by_offset : (t : Tables) (attribute : Attribute) (params : List ParamTree) → making_by t attribute params ≡ making_at t attribute.made.offset attribute params
by_offset t attribute [] = refl
by_offset t attribute (p ∷ ps) = refl

pub making_by_offset : (t : Tables) (attribute : Attribute) → making_of t attribute ≡ making_in t attribute
making_by_offset t attribute = λ i. bytes_in attribute.made.signature attribute.made.column >>= λ blob. method_of t attribute.made.offset blob >>= λ sig. by_offset t attribute sig.params i

pub text_seen : (ty : TypeUse) → text_of_tree (tree_of ty) ≡ text_of ty
text_seen ty = text_of-tree_of ty
