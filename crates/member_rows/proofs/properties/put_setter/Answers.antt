use Rattle.std.proofs.Common.{◌∙◌, ◌++◌, codes}
use Rattle.md_schema.specs.declared.table.Table.TheVariants as tables
use Rattle.winmd_sets.specs.Members.{accessor}
use Rattle.kind_rows.specs.Said.{said}
use Rattle.part_rows.specs.Grown.{with_lines}
use Rattle.kind_rows.proofs.LoopLaws.{on_ok}
use Rattle.member_rows.proofs.properties.put_setter.Goals as goal

pub returns : goal.returns
returns g c =
    let names = g.N.Referred.names c.args.names.now in
    on_ok c.put_property_accessor.result _ _
    (λ e. e ∙ (λ i. with_lines names (accessor tables.Property 1 (codes "put_" ++ c.args.name.now) (c.in_ok-sig.ensures i)) (said c.args.out.now)))
    c.put_property_accessor.ensures
