use Rattle.std.proofs.Common.{◌≡◌, ◌∷◌, [], length, map}
use Rattle.grammar.specs.Readers.{many_at, after_front}
use Rattle.midl_tree.specs.declared.kind.Kind.TheVariants.{Comma}
use Rattle.midl_tree.specs.Kinds.{number_of}
use Rattle.midl_tree.specs.Symbols.{kind_of}
use Rattle.midl_words.specs.Reading.{behind_at}
use Rattle.midl_parse.specs.ReadTypes.{base_at, args_at}
use Rattle.midl_parse.specs.ReadSignatures.{param_at}
use Rattle.midl_tree.specs.Views.{param_view}
use Rattle.midl_parse.proofs.signatures.more_params.Given as goal

abbrev pub invariant-more : goal.invariant-more
invariant-more l = after_front (map param_view l.params.items) (many_at kind_of (number_of Comma ∷ []) (behind_at Comma (param_at base_at (args_at l.depth)))) l.rest ≡ after_front (map param_view l.fn.params.items) (many_at kind_of (number_of Comma ∷ []) (behind_at Comma (param_at base_at (args_at l.depth)))) l.fn.tokens

abbrev pub decreases-more : goal.decreases-more
decreases-more l = length l.rest
