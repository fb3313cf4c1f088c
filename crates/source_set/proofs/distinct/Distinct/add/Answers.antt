use Rattle.std.proofs.Common.{◌∙◌, ap, map, string_bytes}
use Rattle.source_set.specs.Found.{with_name}
use Rattle.source_set.proofs.NameLemmas.{inserted}
use Rattle.source_set.proofs.distinct.Distinct.add.Goals as goal

pub returns-clause-ok : goal.returns-clause-ok
returns-clause-ok c =
    ap (map string_bytes) c.in_ok-insert.ensures.keys ∙ inserted c.self.inside.set.keys c.args.text
    ∙ ap (λ t. with_name t (string_bytes c.args.text)) c.self.view_is
