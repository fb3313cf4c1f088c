-- Constructors in code, as definitions see them.
use Rattle.kind_rows.specs.declared.makers.Maker.{Maker}
use Rattle.kind_rows.specs.declared.makers.Maker.TheVariants.{Flags, Activatable, Factory, Default, ExclusiveTo, Guid, Overload, Static, Version}
use Rattle.winmd_lines.specs.Makers as lines

abbrev pub maker_of : Maker → lines.Maker
maker_of Flags = lines.Flags
maker_of Activatable = lines.Activatable
maker_of Factory = lines.Factory
maker_of Default = lines.Default
maker_of ExclusiveTo = lines.ExclusiveTo
maker_of Guid = lines.Guid
maker_of Overload = lines.Overload
maker_of Static = lines.Static
maker_of Version = lines.Version
