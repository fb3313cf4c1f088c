use Rattle.std.proofs.Common.{List, String, ap, ◌∙◌, string_bytes}
use Rattle.std.specs.List.{list_any}
use Rattle.std.specs.declared.alloc.Global.{Global}
use Rattle.wr_rules.specs.NameRules.{begins}
use Rattle.namespace_rules.proofs.FrontLaws.{any_inserted}
use Rattle.namespace_rules.proofs.SpaceLaws.{on_ok_then}
use Rattle.namespace_rules.proofs.spaces.add_name.Goals as goal

pub returns : goal.returns
returns c =
    on_ok_then c.put_name.result _ _
    (λ u text. ap (λ (ks : List (String Global)). list_any (λ k. begins text (string_bytes k)) ks) u ∙ any_inserted (begins text) c.args.set.now.keys c.args.name) c.put_name.ensures
