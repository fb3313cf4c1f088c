use Rattle.std.proofs.Common.{◌≡◌, ℕ, List, map, ap, subst, arith}
use Rattle.std.specs.List.Sorted.{IsPermutation}
use Rattle.wr_base.specs.declared.declaration.Declaration.{Declaration}
use Rattle.wr_base.specs.Declarations.{IsLeastTwice, times}
use Rattle.wr_base.specs.Normal.{normal}
use Rattle.wr_base.specs.Refusals.{IsRefusalOf}
use Rattle.winmd_set.proofs.OrderLaws.{never_twice, ordered}
use Rattle.winmd_set.proofs.order.put_in_order.Goals as goal

pub returns-in-Ok : goal.returns-in-Ok
returns-in-Ok c =
    ordered c.args.list.items c.in-Ok.types c.requires.once (subst (λ (ds : List Declaration). IsPermutation (map normal ds) c.in-Ok.types) c.in_ok-list.ensures c.in-Ok.ensures.ok) c.in-Ok.ensures.order

pub unreachable-requires : goal.unreachable-requires
unreachable-requires c =
    let name : List ℕ = c.in-Err-Refused.field-0-0 in
    let twice : IsLeastTwice c.in_ok-list.list.items name = subst (IsRefusalOf c.in_ok-list.list.items) c.in-Err-Refused.field-0-is c.in-Err-Refused.ensures.refused in
    let same : times c.in_ok-list.list.items name ≡ times (map (λ s. s.declaration) c.args.list.items) name = ap (λ (ds : List Declaration). times ds name) c.in_ok-list.ensures in
    let two = twice.twice in
    let once = never_twice c.args.list.items c.requires.once name in
    omega (arith, two, once, same)
