use Rattle.std.proofs.Common.{◌∷◌, [], codes}
use Rattle.wr_base.specs.Trees.{signature_tree}
use Rattle.winmd_lines.specs.UsedNames.{names_in_signature}
use Rattle.winmd_uses.specs.Kinds.{delegate_says, id_says}
use Rattle.winmd_uses.specs.Takes.{names_alone}
use Rattle.winmd_uses.proofs.TakeLaws.{same_refl, takes_last3}
use Rattle.winmd_uses.proofs.used.Used.take_delegate.Goals as goal

pub returns : goal.returns
returns c =
    takes_last3 c.take_signature.result (names_alone (codes "System.MulticastDelegate" ∷ [])) id_says (names_alone (names_in_signature (signature_tree c.args.invoke.now))) (delegate_says (signature_tree c.args.invoke.now))
    c.args.self.now c.take_name.new.self c.take_id.new.self c.take_signature.new.self (same_refl (delegate_says (signature_tree c.args.invoke.now))) c.in_ok-take_name.ensures c.in_ok-take_id.ensures c.take_signature.ensures
