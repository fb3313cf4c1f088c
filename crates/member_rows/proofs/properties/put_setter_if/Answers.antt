use Rattle.std.proofs.Common.{◌≡◌, ◌++◌, Bool, OnOk, codes, subst, sym}
use Rattle.md_schema.specs.declared.table.Table.TheVariants as tables
use Rattle.winmd_sets.specs.Members.{accessor, setter, when}
use Rattle.wr_base.specs.Trees.{tree_of}
use Rattle.kind_rows.specs.Said.{said}
use Rattle.part_rows.specs.Grown.{with_lines}
use Rattle.member_rows.proofs.properties.put_setter_if.Goals as goal

pub returns : goal.returns
returns g c =
    let names = g.N.Referred.names c.args.names.now in
    subst (λ (b : Bool). OnOk c.put_setter.result (said c.put_setter.new.out ≡ with_lines names (when b (accessor tables.Property 1 (codes "put_" ++ c.args.name.now) (setter (tree_of c.args.ty.now)))) (said c.args.out.now)))
    (sym c.if-not-put.false) c.put_setter.ensures
