-- What roles and uses of the program stand for.
use Rattle.std.specs.Prelude.{map}
use Rattle.wr_base.specs.Trees.{UseTree, plain, value, reference, instance, uses_of, tree_of}
use Rattle.wr_rules.specs.Uses as uses
use Rattle.site_uses.specs.declared.used.Role.{Role}
use Rattle.site_uses.specs.declared.used.Role.TheVariants.{Field, Passed, Event, Listed, ByName}
use Rattle.placed_sites.specs.Views.{spot_view}
use Rattle.site_uses.specs.declared.used.Used.{Used}
use Rattle.site_uses.specs.declared.shape.Shape.{Shape}
use Rattle.site_uses.specs.declared.shape.Shape.TheVariants.{Plain, Value, Reference, Instance}

abbrev pub role_view : Role → uses.Role
role_view Field = uses.field
role_view Passed = uses.passed
role_view Event = uses.event
role_view Listed = uses.listed
role_view ByName = uses.by_name

abbrev pub shape_view : Shape → UseTree
shape_view (Plain base) = plain base
shape_view (Value name) = value name.now
shape_view (Reference name) = reference name.now
shape_view (Instance name arguments) = instance name.now (uses_of (map tree_of arguments.now))

-- a use with its role, where it stands
abbrev pub used_view : Used → uses.Used
used_view u = record { role = role_view u.role; spot = spot_view u.spot; use_ = shape_view u.shape }
