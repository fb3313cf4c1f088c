use Rattle.std.proofs.Common.{Bool, [], map, ap}
use Rattle.wr_base.specs.Trees.{member_tree, tree_of}
use Rattle.winmd_lines.specs.Makers.{Maker}
use Rattle.winmd_sets.specs.Declared.{interface_line}
use Rattle.winmd_sets.specs.Members.{members_lines}
use Rattle.winmd_uses.specs.Kinds.{id_says, interface_says, made_if}
use Rattle.winmd_uses.specs.Takes.{both, lines_say}
use Rattle.winmd_uses.proofs.TakeLaws.{same_is, takes_last4}
use Rattle.winmd_uses.proofs.used.Used.take_interface.Goals as goal

pub returns : goal.returns
returns c =
    let uses = lines_say (map interface_line (map tree_of c.args.requires_.now)) in
    let members = lines_say (members_lines [] (map member_tree c.args.members.now)) in
    let says = interface_says c.args.owner.now (map tree_of c.args.requires_.now) (map member_tree c.args.members.now) in
    takes_last4 c.take_members.result id_says (made_if c.is_some.result Maker.ExclusiveTo) uses members says c.args.self.now c.take_id.new.self c.take_maker_if.new.self c.take_interfaces.new.self c.take_members.new.self
    (same_is (both id_says (both (made_if c.is_some.result Maker.ExclusiveTo) (both uses members))) says (ap (λ (b : Bool). both id_says (both (made_if b Maker.ExclusiveTo) (both uses members))) c.is_some.ensures))
    c.in_ok-take_id.ensures c.in_ok-take_maker_if.ensures c.in_ok-take_interfaces.ensures c.take_members.ensures
