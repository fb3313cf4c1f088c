use Rattle.std.proofs.Common.{rules, ℕ}
use Rattle.std.proofs.lemmas.List.Sorted.{IsNonDecreasingBy-from_sort_by_key}
use Rattle.std.proofs.lemmas.Fn.{always_returns_same}
use Rattle.winmd_writer.proofs.SortLaws.{stably_sorted}
use Rattle.interface_order.specs.declared.order.Placed.{Placed}
use Rattle.interface_order.proofs.order.sort.Goals as goal

pub returns : goal.returns
returns c =
    let key : Placed → ℕ = λ placed. placed.number in
    stably_sorted key c.args.all.now.items c.sort_by_key.new.self.items
    (IsNonDecreasingBy-from_sort_by_key key _ c.in_ok-sort_by_key.ensures.sorted (λ a r q k. search rules))
    (c.in_ok-sort_by_key.ensures.stable key (always_returns_same _ _ _ (λ a r q k. search rules)))
