-- What a meaning stands for.
use Rattle.std.specs.Prelude.{◌≡◌, List, Option, Some, slice_get}
use Rattle.wr_base.specs.declared.declaration.Declaration.{Declaration}
use Rattle.found_table.specs.Views.{found_view}
use Rattle.wr_rules.specs.Kinds as kinds
use Rattle.pinterface_id.specs.declared.meaning.Meaning.{Meaning}
use Rattle.pinterface_id.specs.declared.meaning.Meaning.TheVariants.{Declared, Found}

abbrev pub meaning_view : Meaning → kinds.Meaning
meaning_view (Declared i d) = kinds.declared d.now
meaning_view (Found f) = kinds.found (found_view f)

-- a declared type stands at its number
abbrev pub IsAt : List Declaration → Option Meaning → Type 0
IsAt types (Some (Declared i d)) = slice_get types i ≡ Some d.now
IsAt types _ = Unit {0}
