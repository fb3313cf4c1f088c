use Rattle.std.proofs.Common.{arith}
use Rattle.namespace_rules.specs.Spaces.{holds_in}
use Rattle.wr_rules.specs.Sites.{sites_of}
use Rattle.namespace_rules.proofs.SpaceLaws.{sites_end}
use Rattle.namespace_rules.proofs.spaces.names_of.Goals as goal

pub returns : goal.returns
returns c = sites_end (sites_of c.args.types.now.types c.args.types.now.places) c.loop-i.i (holds_in c.loop-i.set) (omega (arith, c.site_count-i-end.ensures.count)) c.loop-i.invariant
