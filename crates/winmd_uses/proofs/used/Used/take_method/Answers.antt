use Rattle.std.proofs.Common.{Bool, ap}
use Rattle.std.specs.Prelude.{◌||◌, not, bytes_eq}
use Rattle.wr_base.specs.Trees.{signature_tree}
use Rattle.winmd_lines.specs.Makers.{Maker}
use Rattle.winmd_lines.specs.UsedNames.{names_in_signature}
use Rattle.winmd_uses.specs.Earlier.{method_lines_if}
use Rattle.winmd_uses.specs.Kinds.{made_if}
use Rattle.winmd_uses.specs.Takes.{both, lines_say, names_alone}
use Rattle.winmd_uses.proofs.TakeLaws.{same_is, same_trans, takes_last}
use Rattle.winmd_uses.proofs.MemberLaws.{method_says}
use Rattle.winmd_uses.proofs.used.Used.take_method.Goals as goal

pub returns : goal.returns
returns c =
    let sig = signature_tree c.args.sig.now in
    let names = names_alone (names_in_signature sig) in
    let told = made_if (not (bytes_eq c.args.abi.now c.args.name.now) || c.args.repeated) Maker.Overload in
    let lines = lines_say (method_lines_if c.args.repeated c.args.name.now c.args.abi.now sig) in
    takes_last c.take_maker_if.result names (made_if c.has_overload.result Maker.Overload) lines c.args.self.now c.take_signature.new.self c.take_maker_if.new.self
    (same_trans (both names (made_if c.has_overload.result Maker.Overload)) (both names told) lines (same_is (both names (made_if c.has_overload.result Maker.Overload)) (both names told) (ap (λ (b : Bool). both names (made_if b Maker.Overload)) c.has_overload.ensures))
    (method_says c.args.repeated c.args.name.now c.args.abi.now sig))
    c.in_ok-take_signature.ensures c.take_maker_if.ensures
