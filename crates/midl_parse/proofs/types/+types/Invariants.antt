use Rattle.std.proofs.Common.{◌≡◌, ◌∷◌, [], ◌+◌, ◌*◌, length}
use Rattle.grammar.specs.Readers.{many_at, after_front}
use Rattle.midl_tree.specs.declared.kind.Kind.TheVariants.{Comma}
use Rattle.midl_tree.specs.Kinds.{number_of}
use Rattle.midl_tree.specs.Symbols.{kind_of}
use Rattle.midl_words.specs.Reading.{behind_at}
use Rattle.midl_parse.specs.ReadTypes.{types_at}
use Rattle.midl_tree.specs.Views.{types_view}
use Rattle.midl_parse.proofs.types.+types.Given as goal

abbrev pub decreases-arguments_of : goal.decreases-arguments_of
decreases-arguments_of l = 5 * l.depth

abbrev pub decreases-comma_type : goal.decreases-comma_type
decreases-comma_type l = 5 * l.depth + 2

abbrev pub decreases-bracketed_of : goal.decreases-bracketed_of
decreases-bracketed_of l = 5 * l.depth + 4

abbrev pub decreases-more_types : goal.decreases-more_types
decreases-more_types l = 5 * l.depth + 3

abbrev pub decreases-type_of : goal.decreases-type_of
decreases-type_of l = 5 * l.depth + 1

abbrev pub invariant-more_types-more : goal.invariant-more_types-more
invariant-more_types-more l =
    after_front (types_view l.types.items) (many_at kind_of (number_of Comma ∷ []) (behind_at Comma (types_at l.depth))) l.rest
    ≡ after_front (types_view l.fn.types.items) (many_at kind_of (number_of Comma ∷ []) (behind_at Comma (types_at l.depth))) l.fn.tokens

abbrev pub decreases-more_types-more : goal.decreases-more_types-more
decreases-more_types-more l = length l.rest
