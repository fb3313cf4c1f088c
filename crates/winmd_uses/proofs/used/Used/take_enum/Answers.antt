use Rattle.std.proofs.Common.{◌∷◌, [], codes}
use Rattle.winmd_lines.specs.Lines.{MadeBy}
use Rattle.winmd_lines.specs.Makers.{Maker}
use Rattle.winmd_uses.specs.Kinds.{enum_says, made_if, own_name}
use Rattle.winmd_uses.specs.Takes.{cell_says, names_alone}
use Rattle.winmd_uses.proofs.TakeLaws.{same_refl, takes_last4}
use Rattle.winmd_uses.proofs.used.Used.take_enum.Goals as goal

pub returns : goal.returns
returns c =
    takes_last4 c.take_own_name.result (names_alone (codes "System.Enum" ∷ [])) (made_if c.args.flags Maker.Flags) (cell_says (MadeBy Maker.Version)) (own_name c.args.name.now c.args.cases.now) (enum_says c.args.name.now c.args.flags c.args.cases.now)
    c.args.self.now c.take_name.new.self c.take_maker_if.new.self c.take_maker.new.self c.take_own_name.new.self (same_refl (enum_says c.args.name.now c.args.flags c.args.cases.now))
    c.in_ok-take_name.ensures c.in_ok-take_maker_if.ensures c.in_ok-take_maker.ensures c.take_own_name.ensures
