use Rattle.std.proofs.Common.{◌≡◌, ◌∷◌, [], length, map}
use Rattle.grammar.specs.Readers.{many_at, after_front}
use Rattle.midl_tree.specs.declared.kind.Kind.TheVariants.{Namespace}
use Rattle.midl_tree.specs.Kinds.{number_of}
use Rattle.midl_tree.specs.Symbols.{kind_of}
use Rattle.midl_parse.specs.ReadTypes.{base_at, args_at}
use Rattle.midl_parse.specs.ReadAttributes.{attribute_at}
use Rattle.midl_parse.specs.ReadItems.{declared_at, space_with, items_at}
use Rattle.midl_tree.specs.Views.{item_view}
use Rattle.midl_parse.proofs.items.spaces_of.Given as goal

abbrev pub invariant-more : goal.invariant-more
invariant-more l = after_front (map item_view l.items.items) (many_at kind_of (number_of Namespace ∷ []) (space_with (items_at (declared_at attribute_at base_at (args_at l.types)) l.depth))) l.rest ≡ many_at kind_of (number_of Namespace ∷ []) (space_with (items_at (declared_at attribute_at base_at (args_at l.types)) l.depth)) l.fn.tokens

abbrev pub decreases-more : goal.decreases-more
decreases-more l = length l.rest
