use Rattle.std.proofs.Common.{Some, string_bytes}
use Rattle.std.specs.BTreeMap.{get_by_text}
use Rattle.std.proofs.lemmas.Map.Text.{btree_map_updates_text}
use Rattle.member_counts.proofs.Counting.{noted_by}
use Rattle.member_counts.proofs.tally.set_count.Goals as goal

pub returns : goal.returns
returns c =
    noted_by (string_bytes c.args.text) c.args.count (get_by_text c.args.tally.now) (get_by_text c.insert.new.self)
    (btree_map_updates_text (string_bytes c.args.text) c.args.tally.now c.insert.new.self (Some c.args.count) c.in_ok-insert.ensures.updates)
