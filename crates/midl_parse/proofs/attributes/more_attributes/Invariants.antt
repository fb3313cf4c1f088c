use Rattle.std.proofs.Common.{◌≡◌, ◌∷◌, [], length, map}
use Rattle.grammar.specs.Readers.{many_at, after_front}
use Rattle.midl_tree.specs.declared.kind.Kind.TheVariants.{Comma}
use Rattle.midl_tree.specs.Kinds.{number_of}
use Rattle.midl_tree.specs.Symbols.{kind_of}
use Rattle.midl_words.specs.Reading.{behind_at}
use Rattle.midl_parse.specs.ReadAttributes.{attribute_at}
use Rattle.midl_tree.specs.Views.{attribute_view}
use Rattle.midl_parse.proofs.attributes.more_attributes.Given as goal

abbrev pub invariant-more : goal.invariant-more
invariant-more l = after_front (map attribute_view l.attributes.items) (many_at kind_of (number_of Comma ∷ []) (behind_at Comma attribute_at)) l.rest ≡ after_front (map attribute_view l.fn.attributes.items) (many_at kind_of (number_of Comma ∷ []) (behind_at Comma attribute_at)) l.fn.tokens

abbrev pub decreases-more : goal.decreases-more
decreases-more l = length l.rest
