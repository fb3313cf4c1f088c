use Rattle.std.proofs.Common.{true, not, Some, None, cond, string_bytes, ap, ◌∙◌}
use Rattle.std.specs.HashSet.{contains_text}
use Rattle.std.specs.Str.{bytes_eq}
use Rattle.std.proofs.lemmas.Map.Text.{hash_set_updates_text}
use Rattle.midl_names.specs.Duplicates.{duplicate_entry}
use Rattle.midl_names.specs.Views.{item_of}
use Rattle.midl_names.proofs.Firsts.{not_not}
use Rattle.midl_names.proofs.duplicates.seen_again.Goals as goal

pub returns-clause-again : goal.returns-clause-again
returns-clause-again c =
    c.in_ok-broken.ensures
    ∙ ap (λ b. cond b (Some (duplicate_entry (item_of c.args.item.now))) None)
    (ap not c.in_ok-added.ensures.added ∙ not_not (contains_text c.args.seen.now (string_bytes c.in_ok-name.name)) ∙ ap (contains_text c.args.seen.now) c.in_ok-name.ensures)

pub returns-clause-seen : goal.returns-clause-seen
returns-clause-seen c = λ name.
    hash_set_updates_text (string_bytes c.in_ok-name.name) c.args.seen.now c.insert.new.self true c.in_ok-added.ensures.updates name
    ∙ ap (λ key. cond (bytes_eq key name) true (contains_text c.args.seen.now name)) c.in_ok-name.ensures
