use Rattle.std.proofs.Common.{◌∷◌, []}
use Rattle.winmd_lines.specs.Lines.{MadeBy}
use Rattle.winmd_lines.specs.Makers.{Maker}
use Rattle.winmd_uses.specs.Kinds.{base_says}
use Rattle.winmd_uses.specs.Takes.{cell_says, names_alone}
use Rattle.winmd_uses.proofs.TakeLaws.{same_refl, takes_last}
use Rattle.winmd_uses.proofs.used.Used.take_kind.Goals as goal

pub returns : goal.returns
returns c =
    takes_last c.take_maker.result (names_alone (c.args.base.now ∷ [])) (cell_says (MadeBy Maker.Version)) (base_says c.args.base.now) c.args.self.now c.take_name.new.self c.take_maker.new.self (same_refl (base_says c.args.base.now))
    c.in_ok-take_name.ensures c.take_maker.ensures
