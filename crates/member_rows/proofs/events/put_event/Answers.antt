use Rattle.std.proofs.Common.{List, [], ◌∷◌, ◌++◌, codes}
use Rattle.md_schema.specs.declared.table.Table.TheVariants as tables
use Rattle.winmd_lines.specs.Lines.{Line, line, Number, Words, Type_}
use Rattle.winmd_sets.specs.Members.{accessor, adder, remover}
use Rattle.wr_base.specs.Trees.{tree_of}
use Rattle.kind_rows.proofs.LoopLaws.{on_ok, then_lines}
use Rattle.member_rows.proofs.events.put_event.Goals as goal

pub returns : goal.returns
returns g c =
    let names = g.N.Referred.names c.args.names.now in
    let u = tree_of c.args.ty.now in
    let own : List Line = line tables.Event (Number 0 ∷ Words c.args.name.now ∷ Type_ u ∷ []) ∷ [] in
    let add : List Line = accessor tables.Event 8 (codes "add_" ++ c.args.name.now) (adder u) in
    let remove : List Line = accessor tables.Event 0x10 (codes "remove_" ++ c.args.name.now) remover in
    on_ok c.put_remover.result _ _
    (λ e. then_lines names own (add ++ remove) _ _ _ c.in_ok-put_own.ensures (then_lines names add remove _ _ _ c.in_ok-put_adder.ensures e))
    c.put_remover.ensures
