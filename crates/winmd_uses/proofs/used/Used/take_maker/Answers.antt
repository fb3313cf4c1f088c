use Rattle.winmd_uses.specs.Makers.{maker_of}
use Rattle.winmd_uses.proofs.TakeLaws.{maker_whole, takes_last}
use Rattle.winmd_uses.specs.Takes.{cell_says, maker_alone, names_alone}
use Rattle.winmd_lines.specs.Lines.{MadeBy}
use Rattle.winmd_lines.specs.Makers.{maker_signature, maker_type}
use Rattle.winmd_lines.specs.UsedNames.{names_in_signature}
use Rattle.std.proofs.Common.{◌∷◌}
use Rattle.winmd_uses.proofs.used.Used.take_maker.Goals as goal

pub returns : goal.returns
returns c =
    let m = maker_of c.args.maker in
    takes_last c.take_maker_names.result (maker_alone m) (names_alone (maker_type m ∷ names_in_signature (maker_signature m))) (cell_says (MadeBy m)) c.args.self.now c.set_maker.new.self c.take_maker_names.new.self (maker_whole m) c.set_maker.ensures c.take_maker_names.ensures
