use Rattle.std.proofs.Common.{Bool, ap}
use Rattle.std.specs.Option.{option_map}
use Rattle.wr_base.specs.Trees.{tree_of}
use Rattle.winmd_lines.specs.Lines.{Type_}
use Rattle.winmd_lines.specs.Makers.{Maker}
use Rattle.winmd_sets.specs.Declared.{class_interface, is_default}
use Rattle.winmd_uses.specs.Kinds.{made_if}
use Rattle.winmd_uses.specs.Takes.{both, cell_says, lines_say}
use Rattle.winmd_uses.proofs.TakeLaws.{same_is, same_trans, takes_last}
use Rattle.winmd_uses.proofs.KindLaws.{class_interface_is}
use Rattle.winmd_uses.proofs.used.Used.take_class_interface.Goals as goal

pub returns : goal.returns
returns c =
    let u = tree_of c.args.ty.now in
    let default = option_map tree_of c.args.default.now in
    let one = cell_says (Type_ u) in
    let told = made_if c.is_default.result Maker.Default in
    takes_last c.take_maker_if.result one told (lines_say (class_interface default u)) c.args.self.now c.take_cell.new.self c.take_maker_if.new.self
    (same_trans (both one told) (both one (made_if (is_default default u) Maker.Default)) (lines_say (class_interface default u))
    (same_is (both one told) (both one (made_if (is_default default u) Maker.Default)) (ap (λ (b : Bool). both one (made_if b Maker.Default)) c.is_default.ensures)) (class_interface_is default u))
    c.in_ok-take_cell.ensures c.take_maker_if.ensures
