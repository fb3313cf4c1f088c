use Rattle.std.proofs.Common.{ℕ, List, Option, map, subst}
use Rattle.std.specs.HashMap.{get_by_text}
use Rattle.ranked.specs.First.{IsFirst}
use Rattle.ranked.proofs.FirstLaws.{union_as}
use Rattle.midl_names.specs.declared.sort.Sort.{Sort}
use Rattle.midl_names.specs.Lookup.{declared_sort}
use Rattle.midl_names.specs.Names.{ByItem}
use Rattle.midl_names.specs.Views.{item_of}
use Rattle.midl_names.proofs.Resolutions.{agreed}
use Rattle.midl_names.proofs.Spread.{spread}
use Rattle.midl_names.proofs.faults.faults.Goals as goal

pub returns : goal.returns
returns c =
    spread (map item_of c.args.items.now) c.earlier.result
    (subst (λ (known : List ℕ → Option Sort). IsFirst (ByItem known (map item_of c.args.items.now)) c.earlier.result)
    (agreed (get_by_text c.args.index.now.sorts) (declared_sort (map item_of c.args.items.now)) c.requires)
    (union_as _ _ _ _ _ c.earlier.ensures c.in_ok-repeated.ensures c.in_ok-others.ensures))
