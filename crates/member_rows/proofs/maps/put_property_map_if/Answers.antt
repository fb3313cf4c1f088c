use Rattle.std.proofs.Common.{◌≡◌, Bool, [], ◌∷◌, subst, sym}
use Rattle.md_schema.specs.declared.table.Table.TheVariants as tables
use Rattle.winmd_lines.specs.Names.{Names}
use Rattle.winmd_sets.specs.Members.{map_line, when}
use Rattle.row_writer.specs.Seen.{seen}
use Rattle.part_rows.specs.Grown.{with_lines}
use Rattle.kind_rows.proofs.LoopLaws.{on_ok}
use Rattle.member_rows.proofs.maps.put_property_map_if.Goals as goal

pub returns : goal.returns
returns c =
    on_ok c.put_property_map.result _ _
    (λ e. λ (names : Names).
    subst (λ (t : Bool). seen c.put_property_map.new.writer ≡ with_lines names (when t (map_line tables.PropertyMap tables.Property ∷ [])) (seen c.args.writer.now)) (sym c.if-not-test.false) e)
    c.put_property_map.ensures
