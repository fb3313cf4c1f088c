-- What is made of a set whose files have trees: an image, or its first fault.
use Rattle.std.specs.Prelude.{◌≡◌, ℕ, List, map, Ok}
use Rattle.std.specs.List.{All}
use Rattle.ranked.specs.Entries.{Entry}
use Rattle.ranked.specs.First.{Clear}
use Rattle.ranked.specs.declared.stop.Stop.{Stop}
use Rattle.ranked.specs.declared.stop.Stop.TheVariants.{Refused, Memory}
use Rattle.wr_base.specs.declared.declaration.Declaration.{Declaration}
use Rattle.placed_items.specs.Applied.{AreApplied}
use Rattle.placed_items.specs.Named.{AreNamed, ArePathed}
use Rattle.placed_items.specs.declared.placed.PlacedItem.{PlacedItem}
use Rattle.midl_names.specs.Declares.{Declares}
use Rattle.midl_names.specs.Items.{Source}
use Rattle.midl_names.specs.Names.{Names}
use Rattle.place_laws.specs.Shapes.{FitPlaces}
use Rattle.winmd_strict.specs.Reading.{TypesOf}
use Rattle.winmd_write.specs.Writable.{Writable}
use Rattle.winmd_writer.specs.Finished.{StrictFor}
use Rattle.writable_sets.specs.Stated.{HasWidths}
use Rattle.wr_base.specs.Trees.{decl_tree}
use Rattle.wr_tools.specs.Sets.{FirstFault, FirstOfTypes, Sound}

-- nothing is broken in what is declared, and the bytes are strict for its full types, which they state where they can
pub record MadeOf (items : List PlacedItem) (bytes : List ℕ) : Type 0 where
  pub types : List Declaration
  pub sound : Sound items types
  pub fits : FitPlaces types sound.places
  pub widths : All HasWidths types
  pub strict : StrictFor (map decl_tree types) bytes
  pub states : Writable types → TypesOf bytes ≡ Ok (map decl_tree types)

-- the same of sources, whose names are resolved
pub record Made (sources : List Source) (bytes : List ℕ) : Type 0 where
  pub resolved : Clear (Names sources)
  pub named : AreNamed (Declares sources)
  pub pathed : ArePathed (Declares sources)
  pub applied : AreApplied (Declares sources)
  pub made : MadeOf (Declares sources) bytes

-- the refusal is the first fault of what is declared
abbrev pub RefusedOfTypes : List PlacedItem → Stop Entry → Type 0
RefusedOfTypes items Memory = Unit {0}
RefusedOfTypes items (Refused e) = FirstOfTypes items e

-- the refusal is the first fault of the set
abbrev pub RefusedFirst : List Source → Stop Entry → Type 0
RefusedFirst sources Memory = Unit {0}
RefusedFirst sources (Refused e) = FirstFault sources e
