use Rattle.std.proofs.Common.{map, refl}
use Rattle.wr_base.specs.Trees.{member_tree}
use Rattle.winmd_sets.specs.Types.{params_in, sum_of}
use Rattle.winmd_set.proofs.CapLaws.{no_more}
use Rattle.winmd_set.proofs.parts.params_of.Goals as goal

pub returns : goal.returns
returns c =
    no_more (λ members. sum_of params_in (map member_tree members)) refl c.each.rest.now c.each.sum (sum_of params_in (map member_tree c.args.members.now)) c.in_default.ensures.cases c.each.invariant.0 c.each.invariant.1
