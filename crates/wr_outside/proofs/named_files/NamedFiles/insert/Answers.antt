use Rattle.std.proofs.Common.{ap, ◌∙◌, string_bytes}
use Rattle.std.specs.FinMap as map
use Rattle.wr_outside.proofs.NamedLemmas.{files_of-updates}
use Rattle.wr_outside.proofs.named_files.NamedFiles.insert.Goals as goal

pub returns-in-Ok-clause-ok : goal.returns-in-Ok-clause-ok
returns-in-Ok-clause-ok c =
    files_of-updates (string_bytes c.in_ok-name.name) c.self.inside.files c.insert.new.self c.args.bytes c.in-Ok.ensures.updates
    ∙ ap (λ f. map.insert f (string_bytes c.in_ok-name.name) c.args.bytes.items) c.self.view_is
    ∙ ap (λ k. map.insert c.args.self.now k c.args.bytes.items) c.in_ok-name.ensures.ok
