use Rattle.std.proofs.Common.{◌+◌, ℕ, List, Some, cond, ap, sym, ◌∙◌, string_bytes}
use Rattle.std.specs.HashMap.{get_by_text}
use Rattle.std.specs.Option.{unwrap_or}
use Rattle.std.specs.Str.{bytes_eq}
use Rattle.std.proofs.lemmas.Map.Text.{hash_map_updates_text}
use Rattle.wr_base.specs.declared.declaration.Member.{Member}
use Rattle.midl_names.specs.Counts.{count_at}
use Rattle.midl_names.specs.Members.{noted}
use Rattle.midl_names.proofs.AbiNames.{noted_by}
use Rattle.midl_names.proofs.abi.note.Goals as goal

pub returns-in_ok-insert-in-Method : goal.returns-in_ok-insert-in-Method
returns-in_ok-insert-in-Method c = λ name.
    noted_by (string_bytes c.in_ok-text-in-Method.text) (c.args.count + 1) (get_by_text c.args.counts.now) (get_by_text c.insert.new.self)
    (hash_map_updates_text (string_bytes c.in_ok-text-in-Method.text) c.args.counts.now c.insert.new.self (Some (c.args.count + 1)) c.in_ok-insert-in-Method.ensures.updates) name
    ∙ ap (λ (own : List ℕ). cond (bytes_eq own name) (c.args.count + 1) (unwrap_or (get_by_text c.args.counts.now name) 0)) (c.in_ok-text-in-Method.ensures.ok ∙ c.as_str.ensures)
    ∙ ap (λ (m : Member). noted c.args.count m (count_at c.args.counts.now) name) (sym c.in-Method.is)
