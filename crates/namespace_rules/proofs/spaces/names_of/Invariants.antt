use Rattle.namespace_rules.specs.Spaces.{holds_in, SpacesTo}
use Rattle.wr_rules.specs.Sites.{sites_of}
use Rattle.namespace_rules.proofs.spaces.names_of.Given as goal

abbrev pub invariant-loop-i : goal.invariant-loop-i
invariant-loop-i l = SpacesTo (sites_of l.types.types l.types.places) l.i (holds_in l.set)
