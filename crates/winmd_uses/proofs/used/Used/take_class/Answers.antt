use Rattle.std.proofs.Common.{map, codes}
use Rattle.std.specs.List.{flat_map}
use Rattle.std.specs.Option.{option_map}
use Rattle.wr_base.specs.Trees.{tree_of}
use Rattle.winmd_sets.specs.Declared.{class_interface}
use Rattle.winmd_uses.specs.Kinds.{base_says, class_says, makings_say}
use Rattle.winmd_uses.specs.Takes.{lines_say}
use Rattle.winmd_uses.proofs.TakeLaws.{same_refl, takes_last3}
use Rattle.winmd_uses.proofs.used.Used.take_class.Goals as goal

pub returns : goal.returns
returns c =
    let says = class_says (option_map tree_of c.args.default.now) (map tree_of c.args.has.now) c.args.direct c.args.factories.now c.args.statics.now in
    takes_last3 c.take_makings.result (base_says (codes "System.Object")) (lines_say (flat_map (class_interface (option_map tree_of c.args.default.now)) (map tree_of c.args.has.now))) (makings_say c.args.direct c.args.factories.now c.args.statics.now) says
    c.args.self.now c.take_kind.new.self c.take_class_interfaces.new.self c.take_makings.new.self (same_refl says) c.in_ok-take_kind.ensures c.in_ok-take_class_interfaces.ensures c.take_makings.ensures
