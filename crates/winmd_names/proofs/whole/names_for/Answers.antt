use Rattle.std.proofs.Common.{map, string_bytes, ap, ◌∙◌}
use Rattle.winmd_names.specs.declared.set_names.TypeNames.{TypeNames}
use Rattle.winmd_names.proofs.Results.{if_ok_then}
use Rattle.winmd_names.proofs.WholeLaws.{names_are}
use Rattle.winmd_names.proofs.whole.names_for.Goals as goal

pub returns : goal.returns
returns c =
    if_ok_then c.with_instances.result _ _
    (λ s e. names_are c.args.types.now c.args.used.now s c.requires c.in_ok-names.ensures.ordered (ap (λ (t : TypeNames). t.types.items) e.0 ∙ c.in_ok-names.ensures.types)
    (ap (λ (t : TypeNames). map string_bytes t.refs.items) e.0 ∙ c.in_ok-names.ensures.refs) e.1 e.2)
    c.with_instances.ensures
