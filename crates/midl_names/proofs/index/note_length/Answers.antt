use Rattle.std.proofs.Common.{◌≡◌, ◌≤◌, sym, arith, Some, string_bytes}
use Rattle.std.specs.HashMap.{get_by_text}
use Rattle.std.proofs.lemmas.Map.Text.{hash_map_updates_text}
use Rattle.midl_names.specs.Counts.{count_at}
use Rattle.midl_names.proofs.Within.{noted_grows}
use Rattle.midl_names.proofs.index.note_length.Goals as goal

pub returns-clause-grows : goal.returns-clause-grows
returns-clause-grows c = λ other.
    let key : string_bytes c.in_ok-key.key ≡ c.args.name.now = c.in_ok-key.ensures.ok in
    let low : count_at c.args.longest.now (string_bytes c.in_ok-key.key) ≤ c.args.length = rw (key, sym c.length_at.ensures) (omega (arith, c.if-length-length_at.false)) in
    noted_grows (string_bytes c.in_ok-key.key) c.args.length (get_by_text c.args.longest.now) (get_by_text c.insert.new.self)
    (hash_map_updates_text (string_bytes c.in_ok-key.key) c.args.longest.now c.insert.new.self (Some c.args.length) c.in_ok-insert.ensures.updates) low other
