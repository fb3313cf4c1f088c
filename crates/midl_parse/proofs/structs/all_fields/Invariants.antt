use Rattle.std.proofs.Common.{◌≡◌, length, map}
use Rattle.grammar.specs.Readers.{many_at, after_front}
use Rattle.midl_tree.specs.Kinds.{names}
use Rattle.midl_tree.specs.Symbols.{kind_of}
use Rattle.midl_parse.specs.ReadTypes.{base_at, args_at}
use Rattle.midl_parse.specs.ReadStructs.{fields_at}
use Rattle.midl_tree.specs.Views.{fields_view}
use Rattle.midl_parse.proofs.structs.all_fields.Given as goal

abbrev pub invariant-more : goal.invariant-more
invariant-more l = after_front (map fields_view l.groups.items) (many_at kind_of names (fields_at base_at (args_at l.depth))) l.rest ≡ many_at kind_of names (fields_at base_at (args_at l.depth)) l.fn.tokens

abbrev pub decreases-more : goal.decreases-more
decreases-more l = length l.rest
