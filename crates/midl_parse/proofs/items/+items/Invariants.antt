use Rattle.std.proofs.Common.{◌≡◌, ◌∷◌, [], ◌+◌, ◌*◌, length, map}
use Rattle.grammar.specs.Readers.{many_at, after_front, either_at}
use Rattle.midl_tree.specs.declared.kind.Kind.TheVariants.{Namespace}
use Rattle.midl_tree.specs.Kinds.{number_of, declared_first}
use Rattle.midl_tree.specs.Symbols.{kind_of}
use Rattle.midl_parse.specs.ReadAttributes.{attribute_at}
use Rattle.midl_parse.specs.ReadTypes.{base_at, args_at}
use Rattle.midl_parse.specs.ReadItems.{declared_at, space_with, items_at}
use Rattle.midl_tree.specs.Views.{item_view}
use Rattle.midl_parse.proofs.items.+items.Given as goal

abbrev pub decreases-items_of : goal.decreases-items_of
decreases-items_of l = 4 * l.depth

abbrev pub decreases-namespace_of : goal.decreases-namespace_of
decreases-namespace_of l = 4 * l.depth + 1

abbrev pub decreases-item_of : goal.decreases-item_of
decreases-item_of l = 4 * l.depth + 2

abbrev pub decreases-nested_of : goal.decreases-nested_of
decreases-nested_of l = 4 * l.depth + 3

abbrev pub invariant-nested_of-more : goal.invariant-nested_of-more
invariant-nested_of-more l =
    after_front (map item_view l.items.items) (many_at kind_of (number_of Namespace ∷ declared_first) (either_at kind_of (number_of Namespace ∷ []) (space_with (items_at (declared_at attribute_at base_at (args_at l.types)) l.depth)) (declared_at attribute_at base_at (args_at l.types)))) l.rest
    ≡ many_at kind_of (number_of Namespace ∷ declared_first) (either_at kind_of (number_of Namespace ∷ []) (space_with (items_at (declared_at attribute_at base_at (args_at l.types)) l.depth)) (declared_at attribute_at base_at (args_at l.types))) l.fn.tokens

abbrev pub decreases-nested_of-more : goal.decreases-nested_of-more
decreases-nested_of-more l = length l.rest
