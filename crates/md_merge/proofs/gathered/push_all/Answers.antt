use Rattle.md_merge.proofs.UnionLaws.{one_more}
use Rattle.md_merge.proofs.gathered.push_all.Goals as goal

pub loop-i-preserved : goal.loop-i-preserved
loop-i-preserved c =
    one_more c.args.list.now.items c.loop-i.list.items c.push.new.self.items c.args.types.now c.loop-i.i c.at.result.now c.in_ok-clone.field-0
    c.at.ensures.value c.in_ok-clone.ensures.cases c.loop-i.invariant c.in_ok-push.ensures.items
