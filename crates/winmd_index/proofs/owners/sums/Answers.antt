use Rattle.std.proofs.Common.{◌∙◌, sym}
use Rattle.winmd_index.proofs.OwnerLaws.{begun, owner_first}
use Rattle.winmd_index.proofs.owners.sums.Goals as goal

pub loop-n-init : goal.loop-n-init
loop-n-init c =
    let is = c.starting-owner.ensures ∙ sym (owner_first c.args.image.now) in
    let all = begun c.args.image.now c.new-owners.result.items c.push.new.self.items c.starting-owner.result c.new-owners.ensures.items c.in_ok-push.ensures.items is in
    record { count = all.0; last = is; all_ = all.1 }
