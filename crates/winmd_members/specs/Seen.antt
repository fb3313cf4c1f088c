-- What methods are, as the code has it.
use Rattle.md_schema.specs.declared.table.Table.TheVariants as tables
use Rattle.winmd_lines.specs.Cells.{Numbered}
use Rattle.winmd_cells.specs.declared.image.Image.{Image}
use Rattle.winmd_cells.specs.Seen.{seen}
use Rattle.winmd_sets.specs.Interfaces as interfaces
use Rattle.winmd_members.specs.declared.items.Item.{Item}
use Rattle.winmd_members.specs.declared.items.Item.TheVariants as items
use Rattle.winmd_members.specs.declared.roles.Role.{Role}
use Rattle.winmd_members.specs.declared.roles.Role.TheVariants as roles
use Rattle.winmd_members.specs.declared.roles.Played.{Played}

abbrev pub role_seen : Image → Role → interfaces.Role
role_seen image roles.Method = interfaces.Method
role_seen image (roles.Getter n) = interfaces.Getter (seen image tables.Property n)
role_seen image (roles.Setter n) = interfaces.Setter (seen image tables.Property n)
role_seen image (roles.Adder n) = interfaces.Adder (seen image tables.Event n)
role_seen image (roles.Remover n) = interfaces.Remover (seen image tables.Event n)

abbrev pub played_seen : Image → Played → interfaces.Role × Numbered
played_seen image played = (role_seen image played.role, seen image tables.MethodDef played.method)

abbrev pub item_seen : Image → Item → interfaces.Item
item_seen image (items.OfMethod n) = interfaces.OfMethod (seen image tables.MethodDef n)
item_seen image (items.OfProperty n put) = interfaces.OfProperty (seen image tables.Property n) put
item_seen image (items.OfEvent n) = interfaces.OfEvent (seen image tables.Event n)
