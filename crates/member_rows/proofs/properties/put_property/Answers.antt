use Rattle.std.proofs.Common.{List, [], ◌∷◌, ◌++◌, codes}
use Rattle.md_schema.specs.declared.table.Table.TheVariants as tables
use Rattle.winmd_lines.specs.Lines.{Line, line, Number, Words, OfProperty}
use Rattle.winmd_sets.specs.Members.{accessor, getter, setter, when}
use Rattle.wr_base.specs.Trees.{tree_of}
use Rattle.kind_rows.proofs.LoopLaws.{on_ok, then_lines}
use Rattle.member_rows.proofs.properties.put_property.Goals as goal

pub returns : goal.returns
returns g c =
    let names = g.N.Referred.names c.args.names.now in
    let u = tree_of c.args.ty.now in
    let own : List Line = line tables.Property (Number 0 ∷ Words c.args.name.now ∷ OfProperty u ∷ []) ∷ [] in
    let get : List Line = accessor tables.Property 2 (codes "get_" ++ c.args.name.now) (getter u) in
    let set : List Line = when c.args.put (accessor tables.Property 1 (codes "put_" ++ c.args.name.now) (setter u)) in
    on_ok c.put_setter_if.result _ _
    (λ e. then_lines names own (get ++ set) _ _ _ c.in_ok-put_own.ensures (then_lines names get set _ _ _ c.in_ok-put_getter.ensures e))
    c.put_setter_if.ensures
