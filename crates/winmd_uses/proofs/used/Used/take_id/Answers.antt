use Rattle.winmd_lines.specs.Lines.{MadeBy}
use Rattle.winmd_lines.specs.Makers.{Maker}
use Rattle.winmd_uses.specs.Kinds.{id_says}
use Rattle.winmd_uses.specs.Takes.{cell_says}
use Rattle.winmd_uses.proofs.TakeLaws.{same_refl, takes_last}
use Rattle.winmd_uses.proofs.used.Used.take_id.Goals as goal

pub returns : goal.returns
returns c =
    takes_last c.take_maker-2.result (cell_says (MadeBy Maker.Guid)) (cell_says (MadeBy Maker.Version)) id_says c.args.self.now c.take_maker.new.self c.take_maker-2.new.self (same_refl id_says)
    c.in_ok-take_maker.ensures c.take_maker-2.ensures
