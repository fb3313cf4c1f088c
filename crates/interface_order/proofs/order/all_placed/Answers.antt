use Rattle.std.proofs.Common.{◌≡◌, ◌∙◌, List, [], ◌∷◌, ◌++◌, get_or, ap}
use Rattle.wr_base.specs.declared.type_use.TypeUse.{TypeUse}
use Rattle.interface_order.specs.Order.{placed_of}
use Rattle.interface_order.specs.declared.order.Placed.{Placed}
use Rattle.interface_order.proofs.OrderLaws.{mapped_more}
use Rattle.interface_order.proofs.order.all_placed.Goals as goal

pub loop-ty-preserved : goal.loop-ty-preserved
loop-ty-preserved g c =
    let uses : List TypeUse = c.args.uses.now in
    let x : TypeUse = c.ty-item.result in
    let is = c.ty-item.is in
    let here : get_or uses c.loop-ty.ty-index x ≡ x = cc in
    mapped_more (placed_of (g.N.Referred.names c.args.names.now)) c.loop-ty.all.items c.push.new.self.items uses c.loop-ty.ty-index x c.loop-ty-test.true here
    (c.in_ok-push.ensures.items ∙ ap (λ (placed : Placed). c.loop-ty.all.items ++ placed ∷ []) c.in_ok-with_number.ensures)
    c.loop-ty.invariant
