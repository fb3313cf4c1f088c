use Rattle.std.proofs.Common.{arith}
use Rattle.pinterface_id.specs.Gathering.{member_ids}
use Rattle.pinterface_id.specs.Listing.{member_trees, ids_within}
use Rattle.pinterface_id.proofs.Gatherings.{gathers_item, gathers_nested}
use Rattle.pinterface_id.proofs.listing.gather_members.Goals as goal

pub loop-member-preserved : goal.loop-member-preserved
loop-member-preserved c = gathers_item (member_ids c.args.types.now) c.args.members.now c.loop-member.member-index c.member-item.result c.args.gathered.now c.loop-member.gathered c.gather_member.new.gathered (omega arith) c.member-item.is c.loop-member.invariant c.in_ok-gather_member.ensures

pub returns : goal.returns
returns c = gathers_nested c.args.members.now c.loop-member.member-index c.args.gathered.now c.loop-member.gathered (omega arith) (ids_within c.args.types.now) member_trees c.loop-member.invariant
