use Rattle.std.proofs.Common.{◌≡◌, ◌∷◌, [], length, map}
use Rattle.grammar.specs.Readers.{many_at, after_front}
use Rattle.midl_tree.specs.declared.kind.Kind.TheVariants.{OpenBracket}
use Rattle.midl_tree.specs.Kinds.{number_of}
use Rattle.midl_tree.specs.Symbols.{kind_of}
use Rattle.midl_parse.specs.ReadAttributes.{attribute_at, group_at}
use Rattle.midl_tree.specs.Views.{attribute_view}
use Rattle.midl_parse.proofs.attributes.groups_of.Given as goal

abbrev pub invariant-more : goal.invariant-more
invariant-more l = after_front (map (λ g. map attribute_view g.items) l.groups.items) (many_at kind_of (number_of OpenBracket ∷ []) (group_at attribute_at)) l.rest ≡ many_at kind_of (number_of OpenBracket ∷ []) (group_at attribute_at) l.fn.tokens

abbrev pub decreases-more : goal.decreases-more
decreases-more l = length l.rest
