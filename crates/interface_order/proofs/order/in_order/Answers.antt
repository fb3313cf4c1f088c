use Rattle.std.proofs.Common.{◌∙◌, ap, List, map}
use Rattle.winmd_lines.specs.Orders.{sort_by}
use Rattle.wr_base.specs.Trees.{tree_of}
use Rattle.wr_base.specs.declared.type_use.TypeUse.{TypeUse}
use Rattle.interface_order.specs.declared.order.Placed.{Placed}
use Rattle.interface_order.proofs.OrderLaws.{if_ok_then, ordered}
use Rattle.interface_order.proofs.order.in_order.Goals as goal

pub returns : goal.returns
returns g c =
    let keyed : List Placed → List TypeUse = λ all. map (λ (placed : Placed). placed.ty) (sort_by (λ (placed : Placed). placed.number) all) in
    if_ok_then c.uses_of.result _ _
    (λ uses e. ap (map tree_of) (e ∙ ap (map (λ (placed : Placed). placed.ty)) c.in_ok-sort.ensures ∙ ap keyed c.in_ok-all.ensures) ∙ ordered (g.N.Referred.names c.args.names.now) c.args.uses.now)
    c.uses_of.ensures
