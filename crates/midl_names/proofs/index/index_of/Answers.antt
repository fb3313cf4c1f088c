use Rattle.std.proofs.Common.{◌≡◌, ◌+◌, ◌-◌, arith, sym, ◌∙◌, subst, Some, drop, map, string_bytes}
use Rattle.std.specs.HashMap.{get_by_text}
use Rattle.std.proofs.lemmas.Map.Text.{hash_map_updates_text}
use Rattle.midl_names.specs.Lookup.{declared_sort}
use Rattle.midl_names.specs.Views.{item_of}
use Rattle.midl_names.specs.Counts.{count_at}
use Rattle.midl_names.proofs.Lookups.{told_more}
use Rattle.midl_names.proofs.Within.{within_more}
use Rattle.midl_names.proofs.index.index_of.Goals as goal

pub more-preserved : goal.more-preserved
more-preserved c =
    let next : c.more.left - 1 + 1 ≡ c.more.left = omega arith in
    let key : string_bytes c.in_ok-name.name ≡ c.as_str-text.result.now = c.in_ok-name.ensures.ok in
    record {
      short = omega arith;
      within = within_more (string_bytes c.in_ok-name.name) c.sort_of.result (get_by_text c.more.sorts) (get_by_text c.insert.new.self) (count_at c.more.longest) (count_at c.note_length.new.longest)
          (hash_map_updates_text (string_bytes c.in_ok-name.name) c.more.sorts c.insert.new.self (Some c.sort_of.result) c.in_ok-insert.ensures.updates)
          (rw (key, sym c.last_part.ensures) (omega (arith, c.in_ok-note_length.ensures.holds)))
          c.in_ok-note_length.ensures.grows
          c.more.invariant.within;
      told = told_more c.args.items.now (c.more.left - 1) c.index-items-left.result (get_by_text c.more.sorts) (get_by_text c.insert.new.self) (string_bytes c.in_ok-name.name) c.sort_of.result (omega arith) c.index-items-left.is
          (c.in_ok-name.ensures.ok ∙ c.as_str-text.ensures.value ∙ c.index-items-left.result.named)
          c.sort_of.ensures
          (hash_map_updates_text (string_bytes c.in_ok-name.name) c.more.sorts c.insert.new.self (Some c.sort_of.result) c.in_ok-insert.ensures.updates)
          (λ name. subst (λ k. get_by_text c.more.sorts name ≡ declared_sort (map item_of (drop k c.args.items.now)) name) (sym next) (c.more.invariant.told name));
    }
