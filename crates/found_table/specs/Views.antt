-- What a found type says.
use Rattle.std.specs.Prelude.{option_map, map}
use Rattle.found_table.specs.declared.found.FoundUse.{FoundUse}
use Rattle.found_table.specs.declared.found.FoundUse.TheVariants as uses
use Rattle.found_table.specs.declared.found.FoundPart.{FoundPart}
use Rattle.found_table.specs.declared.found.FoundMember.{FoundMember}
use Rattle.found_table.specs.declared.found.FoundMember.TheVariants as members
use Rattle.found_table.specs.declared.found.Found.{Found}
use Rattle.found_table.specs.declared.found.Found.TheVariants as founds
use Rattle.found_table.specs.Found.{FoundUseRow, FoundPartRow, FoundMemberRow, FoundRow}

abbrev pub use_view : FoundUse → FoundUseRow
use_view (uses.Plain base) = FoundUseRow.Plain base
use_view (uses.Named name) = FoundUseRow.Named name.now
use_view (uses.Argument n) = FoundUseRow.Argument n

abbrev pub part_view : FoundPart → FoundPartRow
part_view part = record { name = part.name.now; type_ = use_view part.ty }

abbrev pub member_view : FoundMember → FoundMemberRow
member_view (members.Method name result) = FoundMemberRow.Method name.now (option_map use_view result)
member_view (members.Property name type_) = FoundMemberRow.Property name.now (use_view type_)

abbrev pub found_view : Found → FoundRow
found_view (founds.Struct name fields) = FoundRow.Struct name.now (map part_view fields.now)
found_view (founds.Interface name arguments id members) = FoundRow.Interface name.now arguments id (map member_view members.now)
found_view (founds.Delegate name arguments id params) = FoundRow.Delegate name.now arguments id (map part_view params.now)
