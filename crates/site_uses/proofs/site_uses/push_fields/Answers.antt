use Rattle.std.proofs.Common.{map}
use Rattle.wr_base.specs.declared.declaration.Field.{Field}
use Rattle.wr_rules.specs.Members.{Standing}
use Rattle.wr_rules.specs.Uses.{used_at, field}
use Rattle.site_uses.specs.Views.{used_view}
use Rattle.site_uses.proofs.Lists.{mapped_more}
use Rattle.site_uses.proofs.site_uses.push_fields.Goals as goal

pub loop-part-preserved : goal.loop-part-preserved
loop-part-preserved c =
    mapped_more (map used_view c.args.list.now.items) (map used_view c.loop-part.list.items) (map used_view c.push_field.new.list.items) c.args.fields.now c.loop-part.part-index c.part-item.result
    c.loop-part-test.true c.part-item.is (λ (x : Standing Field). used_at field x.spot x.part.ty) c.in_ok-push_field.ensures c.loop-part.invariant
