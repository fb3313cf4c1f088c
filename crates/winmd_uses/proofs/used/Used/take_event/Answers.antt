use Rattle.std.proofs.Common.{◌∷◌, [], codes}
use Rattle.wr_base.specs.Trees.{tree_of}
use Rattle.winmd_lines.specs.Lines.{Type_}
use Rattle.winmd_lines.specs.UsedNames.{names_in_use}
use Rattle.winmd_uses.specs.Earlier.{event_says}
use Rattle.winmd_uses.specs.Takes.{cell_says, names_alone}
use Rattle.winmd_uses.proofs.TakeLaws.{same_refl, takes_last3}
use Rattle.winmd_uses.proofs.used.Used.take_event.Goals as goal

pub returns : goal.returns
returns c =
    let u = tree_of c.args.ty.now in
    takes_last3 c.take_name.result (cell_says (Type_ u)) (names_alone (names_in_use u)) (names_alone (codes "Windows.Foundation.EventRegistrationToken" ∷ [])) (event_says u)
    c.args.self.now c.take_cell.new.self c.take_use.new.self c.take_name.new.self (same_refl (event_says u)) c.in_ok-take_cell.ensures c.in_ok-take_use.ensures c.take_name.ensures
