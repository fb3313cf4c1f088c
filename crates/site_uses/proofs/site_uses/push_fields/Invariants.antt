use Rattle.std.proofs.Common.{◌≡◌, ◌++◌, map, take}
use Rattle.wr_base.specs.declared.declaration.Field.{Field}
use Rattle.wr_rules.specs.Members.{Standing}
use Rattle.wr_rules.specs.Uses.{used_at, field}
use Rattle.site_uses.specs.Views.{used_view}
use Rattle.site_uses.proofs.site_uses.push_fields.Given as goal

abbrev pub invariant-loop-part : goal.invariant-loop-part
invariant-loop-part l = map used_view l.list.items ≡ map used_view l.initial.list.items ++ map (λ (x : Standing Field). used_at field x.spot x.part.ty) (take l.part-index l.fields)
