use Rattle.std.proofs.Common.{string_bytes, true}
use Rattle.std.proofs.lemmas.Map.Text.{btree_set_updates_text}
use Rattle.site_parts.proofs.repeats.mark.Goals as goal

pub returns : goal.returns
returns c = record {
  fresh = c.in_ok-is_new.ensures.added;
  met = btree_set_updates_text (string_bytes c.args.text) c.args.met.now c.insert.new.self true c.in_ok-is_new.ensures.updates;
}
