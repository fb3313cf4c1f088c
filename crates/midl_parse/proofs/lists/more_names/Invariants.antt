use Rattle.std.proofs.Common.{◌≡◌, ◌∷◌, [], length}
use Rattle.grammar.specs.Readers.{many_at, after_front}
use Rattle.midl_tree.specs.declared.kind.Kind.TheVariants.{Comma}
use Rattle.midl_tree.specs.Kinds.{number_of}
use Rattle.midl_tree.specs.Symbols.{kind_of}
use Rattle.midl_words.specs.Reading.{name_at, behind_at}
use Rattle.midl_parse.proofs.lists.more_names.Given as goal

abbrev pub invariant-more : goal.invariant-more
invariant-more l = after_front l.names.items (many_at kind_of (number_of Comma ∷ []) (behind_at Comma name_at)) l.rest ≡ after_front l.fn.names.items (many_at kind_of (number_of Comma ∷ []) (behind_at Comma name_at)) l.fn.tokens

abbrev pub decreases-more : goal.decreases-more
decreases-more l = length l.rest
