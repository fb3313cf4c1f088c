use Rattle.std.proofs.Common.{rules, ◌≡◌, [], map, get_or, ap, arith}
use Rattle.md_heaps.proofs.IndexLaws.{indices_of-none}
use Rattle.md_heaps.proofs.index.Index.new.Goals as goal

pub returns : goal.returns
returns c =
    indices_of-none (λ t. map (λ e. (e.0.bytes.items, e.1)) t.entries) c.from_fn.result (λ at table within.
    let made = c.from_fn.ensures.items.at at table (omega (arith, within, c.from_fn.ensures.items.long)) in
    let none : (get_or c.from_fn.result at table).entries ≡ [] = search rules in ap (map (λ e. (e.0.bytes.items, e.1))) none)
