use Rattle.std.proofs.Common.{◌≡◌, arith, map}
use Rattle.std.specs.HashMap.{get_by_text}
use Rattle.std.proofs.lemmas.Grind.{common_steps}
use Rattle.std.proofs.lemmas.List.Elements.{All-push}
use Rattle.placed_items.specs.declared.placed.PlacedItem.{PlacedItem}
use Rattle.midl_names.specs.Declares.{placed_of}
use Rattle.placed_items.specs.Named.{HasNamedParts}
use Rattle.midl_names.specs.Views.{item_of}
use Rattle.midl_names.proofs.Mapped.{mapped_more}
use Rattle.midl_names.proofs.Resolutions.{all_pathed}
use Rattle.midl_names.proofs.written.placed.Goals as goal

pub loop-item-preserved : goal.loop-item-preserved
loop-item-preserved c = record {
  so_far = mapped_more (placed_of (get_by_text c.args.index.now.sorts)) item_of c.args.items.now c.loop-item.item-index c.item-item.result c.loop-item.placed.items
      c.push.new.self.items c.in_ok-placed_of.field-0 (omega arith) c.item-item.is c.loop-item.invariant.so_far c.in_ok-placed_of.ensures.value c.in_ok-push.ensures.items;
  named = rw c.in_ok-push.ensures.items
      (All-push (λ (p : PlacedItem). HasNamedParts p.item) c.loop-item.placed.items _ c.loop-item.invariant.named c.in_ok-placed_of.ensures.named);
}

pub returns-clause-pathed : goal.returns-clause-pathed
returns-clause-pathed c =
    let e : c.from_vec.result ≡ map (placed_of (get_by_text c.args.index.now.sorts)) (map item_of c.args.items.now) = grind (arith, common_steps) in
    all_pathed (get_by_text c.args.index.now.sorts) c.args.items.now c.from_vec.result e
