use Rattle.std.proofs.Common.{◌≡◌, ◌∙◌, Bool, List, [], ◌∷◌, map, ap}
use Rattle.std.specs.List.{list_any}
use Rattle.md_schema.specs.declared.table.Table.TheVariants as tables
use Rattle.winmd_lines.specs.Names.{Names}
use Rattle.winmd_sets.specs.Members.{is_event, is_property, map_line, when}
use Rattle.wr_base.specs.Trees.{MemberTree, member_tree}
use Rattle.row_writer.specs.Seen.{seen}
use Rattle.part_rows.specs.Grown.{with_lines}
use Rattle.kind_rows.proofs.LoopLaws.{on_ok, then_lines}
use Rattle.member_rows.proofs.MemberLaws.{any_mapped}
use Rattle.member_rows.proofs.maps.put_maps.Goals as goal

pub returns : goal.returns
returns c =
    let ms : List MemberTree = map member_tree c.args.members.now in
    let properties : c.has_properties.result ≡ list_any is_property ms = c.has_properties.ensures ∙ any_mapped is_property c.args.members.now in
    let events : c.has_events.result ≡ list_any is_event ms = c.has_events.ensures ∙ any_mapped is_event c.args.members.now in
    on_ok c.put_event_map_if.result _ _
    (λ e. λ (names : Names).
    then_lines names (when (list_any is_property ms) (map_line tables.PropertyMap tables.Property ∷ [])) (when (list_any is_event ms) (map_line tables.EventMap tables.Event ∷ []))
    (seen c.args.writer.now) (seen c.put_property_map_if.new.writer) (seen c.put_event_map_if.new.writer)
    (c.in_ok-put_property_map_if.ensures names ∙ ap (λ (t : Bool). with_lines names (when t (map_line tables.PropertyMap tables.Property ∷ [])) (seen c.args.writer.now)) properties)
    (e names ∙ ap (λ (t : Bool). with_lines names (when t (map_line tables.EventMap tables.Event ∷ [])) (seen c.put_property_map_if.new.writer)) events))
    c.put_event_map_if.ensures
