use Rattle.std.proofs.Common.{◌≡◌, length, map}
use Rattle.grammar.specs.Readers.{many_at, after_front}
use Rattle.midl_tree.specs.Symbols.{kind_of}
use Rattle.midl_parse.specs.ReadTypes.{base_at, args_at}
use Rattle.midl_parse.specs.ReadAttributes.{attribute_at}
use Rattle.midl_parse.specs.ReadItems.{declared_at}
use Rattle.midl_tree.specs.Kinds.{declared_first}
use Rattle.midl_tree.specs.Views.{item_view}
use Rattle.midl_parse.proofs.items.all_declared.Given as goal

abbrev pub invariant-more : goal.invariant-more
invariant-more l = after_front (map item_view l.items.items) (many_at kind_of declared_first (declared_at attribute_at base_at (args_at l.types))) l.rest ≡ many_at kind_of declared_first (declared_at attribute_at base_at (args_at l.types)) l.fn.tokens

abbrev pub decreases-more : goal.decreases-more
decreases-more l = length l.rest
