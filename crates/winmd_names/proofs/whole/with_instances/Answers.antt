use Rattle.std.proofs.Common.{map, ap, ◌∙◌}
use Rattle.wr_base.specs.Trees.{tree_of}
use Rattle.winmd_sets.specs.Rows.{by_text}
use Rattle.winmd_names.specs.declared.set_names.InstanceRows.{InstanceRows}
use Rattle.winmd_names.proofs.Results.{if_ok_then}
use Rattle.winmd_names.proofs.whole.with_instances.Goals as goal

pub returns : goal.returns
returns c =
    if_ok_then c.with_makers.result _ _ (λ s e. (e.0, ap (λ (r : InstanceRows). map tree_of r.list.items) e.1 ∙ c.in_ok-instances.ensures ∙ ap by_text c.instances.ensures, e.2)) c.with_makers.ensures
