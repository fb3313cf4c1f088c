use Rattle.std.proofs.Common.{[], ◌∷◌, ◌++◌}
use Rattle.md_schema.specs.declared.table.Table.TheVariants as tables
use Rattle.winmd_lines.specs.Lines.{line, Number, Last}
use Rattle.winmd_sets.specs.Members.{signature_lines}
use Rattle.wr_base.specs.Trees.{signature_tree}
use Rattle.kind_rows.proofs.LoopLaws.{on_ok, then_lines}
use Rattle.member_rows.proofs.accessors.put_event_accessor.Goals as goal

pub returns : goal.returns
returns g c =
    let names = g.N.Referred.names c.args.names.now in
    on_ok c.put_event_semantics.result _ _
    (λ e. then_lines names (signature_lines 0x0DC6 0 (c.args.prefix.now ++ c.args.name.now) (signature_tree c.args.sig.now)) (line tables.MethodSemantics (Number c.args.meaning ∷ Last tables.MethodDef ∷ Last tables.Event ∷ []) ∷ [])
    _ _ _ c.in_ok-put_accessor.ensures e)
    c.put_event_semantics.ensures
