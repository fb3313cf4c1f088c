-- What a source set comes to, once each of its files has a tree.
use Rattle.std.specs.Prelude.{◌≡◌, ◌⊎◌, ℕ, ◌+◌, List, [], ◌∷◌, map, Some, Ok}
use Rattle.ranked.specs.Entries.{Entry}
use Rattle.ranked.specs.First.{IsFirst, Clear}
use Rattle.wr_base.specs.Trees.{decl_tree}
use Rattle.wr_base.specs.declared.declaration.Declaration.{Declaration}
use Rattle.wr_base.specs.declared.places.DeclPlaces.{DeclPlaces}
use Rattle.placed_items.specs.declared.placed.PlacedItem.{PlacedItem}
use Rattle.midl_names.specs.Items.{Source}
use Rattle.midl_names.specs.Declares.{Declares}
use Rattle.midl_names.specs.Names.{Names}
use Rattle.class_synthesis.specs.Clashes.{IsClash}
use Rattle.class_synthesis.specs.Full.{IsFull}
use Rattle.wr_rules.specs.Accepted.{Broken}
use Rattle.source_set.specs.Found.{Read}
use Rattle.winmd_strict.specs.Reading.{TypesOf}
use Rattle.winmd_writer.specs.Finished.{StrictFor}

-- the files' trees, numbered from this number on
abbrev pub sources_from : ℕ → List Read → List Source
sources_from k [] = []
sources_from k (r ∷ rs) = record { file = k; tree = r.tree } ∷ sources_from (k + 1) rs

abbrev pub sources_of : List Read → List Source
sources_of = sources_from 0

-- no made interface has a taken name, and these are the full types of what is declared, each with its places
pub record HasTypes (items : List PlacedItem) (types : List Declaration) (places : List DeclPlaces) : Type 0 where
  pub made : Clear (IsClash items)
  pub full : IsFull items types places

-- the first entry of the full types that a rule breaks, or where no rule is broken a limit
pub record FirstBroken (items : List PlacedItem) (e : Entry) : Type 0 where
  pub types : List Declaration
  pub places : List DeclPlaces
  pub has : HasTypes items types places
  pub first : IsFirst (Broken types places) (Some e)

-- the first fault of what is declared: a made interface whose name is taken, else a rule, else a limit
abbrev pub FirstOfTypes : List PlacedItem → Entry → Type 0
FirstOfTypes items e = IsFirst (IsClash items) (Some e) ⊎ FirstBroken items e

-- The first fault of a set whose files have trees: of its names, else of what is declared.
abbrev pub FirstFault : List Source → Entry → Type 0
FirstFault sources e = IsFirst (Names sources) (Some e) ⊎ (Clear (Names sources) × FirstOfTypes (Declares sources) e)

-- nothing is broken in what is declared, and these are its full types
pub record Sound (items : List PlacedItem) (types : List Declaration) : Type 0 where
  pub places : List DeclPlaces
  pub has : HasTypes items types places
  pub kept : Clear (Broken types places)

-- each name is resolved, and nothing is broken in what is declared
pub record Unbroken (sources : List Source) : Type 0 where
  pub resolved : Clear (Names sources)
  pub made : Clear (IsClash (Declares sources))
  pub kept : (types : List Declaration) (places : List DeclPlaces) → IsFull (Declares sources) types places → Clear (Broken types places)

-- These bytes are an image of the types: they are strict for them, and state them and nothing else.
pub record Image (types : List Declaration) (bytes : List ℕ) : Type 0 where
  pub strict : StrictFor (map decl_tree types) bytes
  pub states : TypesOf bytes ≡ Ok (map decl_tree types)
