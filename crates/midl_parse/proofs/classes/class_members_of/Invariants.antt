use Rattle.std.proofs.Common.{◌≡◌, ◌∷◌, length, map}
use Rattle.grammar.specs.Readers.{many_at, after_front}
use Rattle.midl_tree.specs.declared.kind.Kind.TheVariants.{Static, Void, Event}
use Rattle.midl_tree.specs.Kinds.{number_of, names}
use Rattle.midl_tree.specs.Symbols.{kind_of}
use Rattle.midl_parse.specs.ReadTypes.{base_at, args_at}
use Rattle.midl_parse.specs.ReadClasses.{class_member_at}
use Rattle.midl_tree.specs.Views.{class_member_view}
use Rattle.midl_parse.proofs.classes.class_members_of.Given as goal

abbrev pub invariant-more : goal.invariant-more
invariant-more l = after_front (map class_member_view l.members.items) (many_at kind_of (number_of Static ∷ number_of Void ∷ number_of Event ∷ names) (class_member_at base_at (args_at l.depth))) l.rest ≡ many_at kind_of (number_of Static ∷ number_of Void ∷ number_of Event ∷ names) (class_member_at base_at (args_at l.depth)) l.fn.tokens

abbrev pub decreases-more : goal.decreases-more
decreases-more l = length l.rest
